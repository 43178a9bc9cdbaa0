-- The first wire of a lane that is dry, wire by wire.
use Rattle.std.proofs.Common.{◌≡◌, ℕ, zero, suc, ◌+◌, ◌-◌, ◌<◌, List, [], ◌∷◌, ◌++◌, length, Option, Some, None, refl, ap, sym, ◌∙◌, arith}
use Rattle.std.specs.Result.{result_err}
use Rattle.std.proofs.lemmas.List.{length_push}
use Rattle.vk_dice.specs.Draws.{after_residue}
use Rattle.vk_dice.specs.Many.{draws_after, drawn_onto, words_after}
use Rattle.vk_wire.specs.declared.wire.WireTape.{WireTape}
use Rattle.vk_prover.specs.Drawn.{drawn_tape, drawn_wire, dry_else, dry_wire, after_wire}

dry_more : (wire count : ℕ) (ahead : ℕ → ℕ) → 0 < count
    → dry_wire wire count ahead
    ≡ dry_else wire (dry_wire (wire + 1) (count - 1) (after_wire ahead)) (drawn_wire ahead)
unfolding dry_wire
dry_more wire zero ahead some = absurd (omega arith)
dry_more wire (suc count) ahead some = let less : suc count - 1 ≡ count = omega arith in
    rw less refl

-- a wire that is not dry
pub dry_turn : (o : Option WireTape) (tape : WireTape) (wire left next : ℕ) (ahead later : ℕ → ℕ)
    (whole : Option ℕ) → next + 1 ≡ left → o ≡ Some tape → o ≡ drawn_wire ahead
    → later ≡ words_after (after_residue ahead) (after_wire ahead) o
    → dry_wire wire left ahead ≡ whole → dry_wire (wire + 1) next later ≡ whole
dry_turn o tape wire left next ahead later whole fewer some drawn after so_far =
    let less : left - 1 ≡ next = omega arith in
    let found : drawn_wire ahead ≡ Some tape = sym drawn ∙ some in
    ap (dry_wire (wire + 1) next)
    (after ∙ ap (words_after (after_residue ahead) (after_wire ahead)) some)
    ∙ ap (λ n. dry_wire (wire + 1) n (after_wire ahead)) (sym less)
    ∙ ap (dry_else wire (dry_wire (wire + 1) (left - 1) (after_wire ahead))) (sym found)
    ∙ sym (dry_more wire left ahead (omega arith))
    ∙ so_far

-- a wire that is dry
pub dry_found : (o : Option WireTape) (wire left : ℕ) (ahead : ℕ → ℕ) (whole : Option ℕ) → 0 < left
    → o ≡ None → o ≡ drawn_wire ahead → dry_wire wire left ahead ≡ whole
    → whole ≡ Some wire
dry_found o wire left ahead whole some none drawn so_far =
    sym so_far ∙ dry_more wire left ahead some
    ∙ ap (dry_else wire (dry_wire (wire + 1) (left - 1) (after_wire ahead))) (sym drawn ∙ none)

pub dry_done : (wire left : ℕ) (ahead : ℕ → ℕ) (whole : Option ℕ) → left ≡ 0
    → dry_wire wire left ahead ≡ whole → whole ≡ None
unfolding dry_wire
dry_done wire left ahead whole none so_far = sym so_far ∙ ap (λ n. dry_wire wire n ahead) none

dry_step : (before : List WireTape) (count : ℕ) (ahead : ℕ → ℕ) (o : Option WireTape)
    → ((tape : WireTape) → result_err (drawn_tape (before ++ tape ∷ []) count (after_wire ahead))
    ≡ dry_wire (length (before ++ tape ∷ [])) count (after_wire ahead))
    → result_err (draws_after (length before)
    (λ tape. drawn_tape (before ++ tape ∷ []) count (after_wire ahead)) o)
    ≡ dry_else (length before) (dry_wire (length before + 1) count (after_wire ahead)) o
dry_step before count ahead None later = refl
dry_step before count ahead (Some tape) later =
    later tape ∙ ap (λ n. dry_wire n count (after_wire ahead)) (length_push before tape)

-- that wire is the one at which no tape is drawn
pub dry_of_tape : (before : List WireTape) (count : ℕ) (ahead : ℕ → ℕ)
    → result_err (drawn_tape before count ahead) ≡ dry_wire (length before) count ahead
unfolding drawn_onto dry_wire
dry_of_tape before zero ahead = refl
dry_of_tape before (suc count) ahead =
    dry_step before count ahead (drawn_wire ahead)
    (λ tape. dry_of_tape (before ++ tape ∷ []) count (after_wire ahead))
