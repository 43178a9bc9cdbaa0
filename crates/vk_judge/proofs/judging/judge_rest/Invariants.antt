use Rattle.std.proofs.Common.{◌≡◌, IfSome}
use Rattle.vk_judge.proofs.LaneLoop.{left_judged}
use Rattle.vk_judge.proofs.judging.judge_rest.Given as goal

-- the lanes that are left give what is found of all
abbrev pub invariant-loop-index : goal.invariant-loop-index
invariant-loop-index g l = record {
  modelled : IfSome (g.S.Shelf.held l.fn.shelf) (λ files.
      left_judged l.statement l.bits l.index l.pair files
      ≡ left_judged l.statement l.bits l.judged l.fn.pair files);
  held : g.S.Shelf.held l.shelf ≡ g.S.Shelf.held l.fn.shelf;
  kept : g.S.Shelf.faults l.shelf ≡ g.S.Shelf.faults l.fn.shelf;
}
