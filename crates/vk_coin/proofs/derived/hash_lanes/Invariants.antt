use Rattle.std.proofs.Common.{◌≡◌, ◌-◌}
use Rattle.vk_lines.specs.Lines.{KeepsFile, rest_of}
use Rattle.vk_board.specs.Reading.{lane_lines_at}
use Rattle.vk_coin.proofs.Hashing.{LanesHashed, shape_by}
use Rattle.vk_coin.proofs.derived.hash_lanes.Given as goal

-- what is left gives the rest of the lanes, and what was read of them is hashed
abbrev pub invariant-loop-index : goal.invariant-loop-index
invariant-loop-index g l = record {
  lanes : LanesHashed (g.S.Shelf.held l.fn.shelf) (shape_by l.wires l.rows) l.index
      (l.front.head.lanes - l.index) (λ files. rest_of l.lines files)
      (λ files. lane_lines_at l.front.head.lanes (shape_by l.wires l.rows)
      (rest_of l.fn.lines files))
      l.fn.hasher l.hasher;
  file : KeepsFile l.fn.lines l.lines;
  held : g.S.Shelf.held l.shelf ≡ g.S.Shelf.held l.fn.shelf;
  kept : g.S.Shelf.faults l.shelf ≡ g.S.Shelf.faults l.fn.shelf;
}
