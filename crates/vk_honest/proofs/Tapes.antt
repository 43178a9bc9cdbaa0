-- The tape of a lane of a proof begins with those of its secrets.
use Rattle.std.proofs.Common.{◌≡◌, ℕ, ◌-◌, ◌≤◌, length, take, sym, ap, ◌∙◌}
use Rattle.std.proofs.lemmas.List.{length-map}
use Rattle.vk_dice.specs.Stream.{word_at}
use Rattle.vk_dice.proofs.Drawing.{drawn_begins}
use Rattle.vk_seal.specs.Values.{wire_tape}
use Rattle.vk_extractor.specs.Confronting.{tape_in}
use Rattle.vk_prover.specs.Drawn.{wire_drawing}
use Rattle.vk_job.specs.Proofs.{ProofValue, IsProof, drawn_in, given_in, lane_tape_in, source_of, tape_or_none}
use Rattle.vk_job.proofs.Dry.{tapes_of_none}

pub tape_begins : (proof : ProofValue) → IsProof proof → (lane : ℕ) → 1 ≤ lane → lane ≤ proof.lanes
    → take (length proof.rows) (lane_tape_in proof lane) ≡ given_in proof.rows lane
unfolding drawn_in
tape_begins proof right lane some within =
    let has = tapes_of_none (source_of proof) right.none_dry lane some within in
    let count = length-map proof.rows (λ row. wire_tape (tape_in row.secret lane)) in
    let begins = drawn_begins wire_drawing (given_in proof.rows lane)
    (length proof.plan.kinds - proof.plan.inputs) (word_at proof.seed proof.id lane) has.0 has.1
    in
    ap (λ found. take (length proof.rows) (tape_or_none found)) has.1
    ∙ (ap (λ n. take n has.0) (sym count) ∙ begins)
