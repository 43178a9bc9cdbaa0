use Rattle.std.proofs.Common.{◌≡◌, ◌-◌}
use Rattle.vk_lines.specs.Lines.{KeepsFile, rest_of}
use Rattle.vk_board.specs.Reading.{lanes_at}
use Rattle.vk_report.specs.Reports.{shape_of}
use Rattle.vk_report.proofs.Lanes.{HasPassed}
use Rattle.vk_report.proofs.reading.read_lanes.Given as goal

-- what is left gives the rest of the lanes
abbrev pub invariant-loop-index : goal.invariant-loop-index
invariant-loop-index g l = record {
  passed : HasPassed (g.S.Shelf.held l.fn.shelf) (shape_of l.report) l.index
      (l.report.head.lanes - l.index) (λ files. rest_of l.lines files)
      (λ files. lanes_at (λ _. shape_of l.report) l.report.head (rest_of l.fn.lines files));
  file : KeepsFile l.fn.lines l.lines;
  held : g.S.Shelf.held l.shelf ≡ g.S.Shelf.held l.fn.shelf;
  kept : g.S.Shelf.faults l.shelf ≡ g.S.Shelf.faults l.fn.shelf;
}
