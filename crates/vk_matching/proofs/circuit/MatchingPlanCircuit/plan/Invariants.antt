use Rattle.std.proofs.Common.{◌≡◌}
use Rattle.vk_matching.specs.MatchingLaws.{pairs_plan}
use Rattle.vk_matching.specs.Circuits.{inputs_of, numbers_of}
use Rattle.vk_matching.proofs.circuit.MatchingPlanCircuit.plan.Given as goal

abbrev pub invariant-loop-pair : goal.invariant-loop-pair
invariant-loop-pair l = l.plan ≡ pairs_plan (inputs_of l.self) (numbers_of l.self) l.pair
