use Rattle.std.proofs.Common.{◌≡◌, ◌-◌, None}
use Rattle.vk_matching.specs.Courting.{IsCourtship}
use Rattle.vk_matching.proofs.courting.Courtship.settle.Given as goal

abbrev pub invariant-loop-self : goal.invariant-loop-self
invariant-loop-self l = record {
  courting : IsCourtship l.ranks l.self None;
  size : l.self.size ≡ l.fn.self.size;
}

abbrev pub decreases-loop-self : goal.decreases-loop-self
decreases-loop-self l = l.self.size - l.self.entered
