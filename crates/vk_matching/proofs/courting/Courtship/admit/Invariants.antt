use Rattle.std.proofs.Common.{◌≡◌, ◌+◌}
use Rattle.vk_matching.specs.Courting.{IsCourtship, unasked}
use Rattle.vk_matching.proofs.courting.Courtship.admit.Given as goal

abbrev pub invariant-loop-suitor : goal.invariant-loop-suitor
invariant-loop-suitor l = record {
  courting : IsCourtship l.ranks l.self l.suitor;
  entered : l.self.entered ≡ l.fn.self.entered + 1;
  size : l.self.size ≡ l.fn.self.size;
}

abbrev pub decreases-loop-suitor : goal.decreases-loop-suitor
decreases-loop-suitor l = unasked l.self.asked.items
