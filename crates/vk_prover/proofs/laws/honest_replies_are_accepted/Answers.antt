use Rattle.std.proofs.Common.{ap, ◌∙◌}
use Rattle.vk_plan.specs.declared.wire.WireKind.TheVariants.{Split}
use Rattle.vk_wire.specs.Made.{made_com}
use Rattle.vk_prover.specs.Honest.{no_tape}
use Rattle.std.specs.Prelude.{slice_index, slice_index_or}
use Rattle.vk_prover.proofs.Accepted.{held_accepted, held_checked, held_sealed, input_at}
use Rattle.vk_prover.proofs.laws.honest_replies_are_accepted.Goals as goal

pub returns-clause-accepted : goal.returns-clause-accepted
returns-clause-accepted g c circuit inputs claim =
    held_accepted _ _ (g.met.C.Circuit.is_plan circuit)
    (g.met.C.Circuit.complete circuit inputs claim)

pub returns-clause-checked : goal.returns-clause-checked
returns-clause-checked g c circuit inputs claim =
    held_checked _ _ (g.met.C.Circuit.is_plan circuit)
    (g.met.C.Circuit.complete circuit inputs claim)

pub returns-clause-inputs : goal.returns-clause-inputs
returns-clause-inputs g c circuit inputs claim auction lane seats tape input one_seat_each is lt =
    let plan = g.C.Circuit.plan_of circuit in
    let values = g.C.Circuit.filled circuit inputs in
    held_sealed plan values (g.met.C.Circuit.is_plan circuit)
    (g.met.C.Circuit.complete circuit inputs claim) auction lane seats tape input one_seat_each
    is lt
    ∙ ap (λ value. made_com Split
    (record { auction = auction; seat = slice_index seats input; lane = lane; slot = 0 }) value
    (slice_index_or tape input no_tape))
    (input_at inputs values plan.inputs input (g.met.C.Circuit.begins circuit inputs claim) lt)
