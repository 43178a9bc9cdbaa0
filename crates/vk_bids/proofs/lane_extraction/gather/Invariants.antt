use Rattle.std.proofs.Common.{◌≡◌, ◌-◌, IfSome}
use Rattle.std.specs.Prelude.{All, IfOk}
use Rattle.vk_judge.specs.Opened.{checked_base, checked_given, coming_of}
use Rattle.vk_bids.specs.Opening.{LaneOpens}
use Rattle.vk_bids.proofs.Leading.{Leads}
use Rattle.vk_bids.proofs.lane_extraction.gather.Given as goal

-- what was gathered, and what is ahead, give what was ahead
abbrev pub invariant-lanes : goal.invariant-lanes
invariant-lanes g l = record {
  opens : IfSome (checked_base l.checker)
      (λ known. IfOk l.gathered (All (LaneOpens known.base.statement)));
  modelled : IfSome (g.S.Shelf.held l.fn.shelf)
      (λ files. Leads (checked_base l.fn.checker) (coming_of l.fn.checker files).ahead
      (checked_given l.checker) l.gathered (coming_of l.checker files).ahead);
  base : checked_base l.checker ≡ checked_base l.fn.checker;
  held : g.S.Shelf.held l.shelf ≡ g.S.Shelf.held l.fn.shelf;
  kept : g.S.Shelf.faults l.shelf ≡ g.S.Shelf.faults l.fn.shelf;
}

-- the lanes that may still be given
abbrev pub decreases-lanes : goal.decreases-lanes
decreases-lanes g l = 64 - checked_given l.checker
