use Rattle.std.proofs.Common.{◌≡◌, map, take}
use Rattle.vk_uniform.specs.UniformPlans.{copy_at}
use Rattle.vk_uniform.proofs.forms.copies_at.Given as goal

abbrev pub invariant-loop-position : goal.invariant-loop-position
invariant-loop-position l = l.wires.items
    ≡ map (copy_at l.inputs) (take l.position-index l.positions)
