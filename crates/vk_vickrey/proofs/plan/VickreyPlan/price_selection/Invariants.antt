use Rattle.std.proofs.Common.{◌≡◌, ◌+◌, ◌-◌}
use Rattle.vk_range.specs.Sets.{listed}
use Rattle.vk_range.specs.Others.{other}
use Rattle.vk_vickrey.proofs.plan.VickreyPlan.price_selection.Given as goal

abbrev pub invariant-loop-k : goal.invariant-loop-k
invariant-loop-k l =
    l.wires.items ≡ listed (λ k. l.self.seals + other (l.self.position - 1) k) l.k
