use Rattle.std.specs.List.{AllWithin}
use Rattle.vk_uniform.specs.Outcomes.{IsPositionAmong}
use Rattle.vk_uniform.proofs.numbers.are_positions.Given as goal

abbrev pub invariant-loop-position : goal.invariant-loop-position
invariant-loop-position l = AllWithin (IsPositionAmong l.inputs) l.positions 0 l.position-index
