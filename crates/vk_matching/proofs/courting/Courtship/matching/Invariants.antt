use Rattle.vk_matching.specs.Courting.{AreWives, held_by}
use Rattle.vk_matching.proofs.courting.Courtship.matching.Given as goal

abbrev pub invariant-loop-woman : goal.invariant-loop-woman
invariant-loop-woman l = AreWives l.self.size (held_by l.self.holders.items) l.woman
    l.matching.items
