use Rattle.std.proofs.Common.{◌≡◌, take}
use Rattle.vk_uniform.proofs.numbers.narrowed.Given as goal

abbrev pub invariant-loop-position : goal.invariant-loop-position
invariant-loop-position l = l.narrow.items ≡ take l.position-index l.positions
