use Rattle.std.proofs.Common.{◌≡◌, ◌++◌}
use Rattle.vk_range.specs.Sets.{joined}
use Rattle.vk_range.specs.Ranged.{ranged_values}
use Rattle.vk_matching.specs.Eithers.{either_values}
use Rattle.vk_matching.specs.MatchingPlans.{rank_ranges, either_at}
use Rattle.vk_matching.specs.Circuits.{inputs_of, numbers_of}
use Rattle.vk_matching.proofs.circuit.MatchingPlanCircuit.fill.Given as goal

abbrev pub invariant-loop-pair : goal.invariant-loop-pair
invariant-loop-pair l =
    let before = ranged_values l.inputs (rank_ranges (inputs_of l.self) (numbers_of l.self)) in
    l.values.items ≡ before ++ joined
    (λ pair. either_values (either_at (inputs_of l.self) (numbers_of l.self) pair) before)
    l.pair
