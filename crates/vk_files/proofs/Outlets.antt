-- What outlets took, call by call.
use Rattle.std.proofs.Common.{◌≡◌, ℕ, ◌+◌, List, ◌++◌, take, drop, Option, Some, None, append_assoc, sym, ap, subst, ◌∙◌}
use Rattle.std.proofs.Math.Seq.{take-add}
use Rattle.std.specs.Option.{option_map}
use Rattle.vk_io.specs.Files.{Modelled}

-- so many bytes of the piece were taken, and then so many of the rest
pub taken_more : (old now new : Option (List ℕ)) (piece rest : List ℕ) (done count : ℕ)
    → rest ≡ drop done piece → now ≡ option_map (λ taken. taken ++ take done piece) old
    → Modelled (λ a b. b ≡ a ++ take count rest) now new
    → new ≡ option_map (λ taken. taken ++ take (done + count) piece) old
taken_more None now new piece rest done count cut is moved =
    subst (λ n. Modelled (λ a b. b ≡ a ++ take count rest) n new) is moved
taken_more (Some a) now None piece rest done count cut is moved =
    absurd (subst (λ n. Modelled (λ a b. b ≡ a ++ take count rest) n None) is moved)
taken_more (Some a) now (Some b) piece rest done count cut is moved =
    ap Some (subst (λ n. Modelled (λ a b. b ≡ a ++ take count rest) n (Some b)) is moved
    ∙ append_assoc a (take done piece) (take count rest)
    ∙ ap (λ taken. a ++ taken) (ap (λ r. take done piece ++ take count r) cut
    ∙ sym (take-add done count piece)))
