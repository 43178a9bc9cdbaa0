use Rattle.vk_lines.specs.Forms.{EachAfter, many_onto}
use Rattle.vk_board.specs.Values.{IsSealAfter}
use Rattle.std.proofs.Common.{length, ◌≡◌, ◌≤◌, ◌-◌, [], IfSome}
use Rattle.std.specs.Prelude.{vec_capacity}
use Rattle.vk_lines.specs.Lines.{KeepsFile, rest_of}
use Rattle.vk_board.specs.Reading.{seal_at}
use Rattle.vk_board.proofs.Stops.{AreRead}
use Rattle.vk_board.proofs.reading.read_seal_lines.Given as goal

-- what is left gives the rest of the seals
abbrev pub invariant-loop-index : goal.invariant-loop-index
invariant-loop-index g l = record {
  modelled : IfSome (g.S.Shelf.held l.fn.shelf) (λ files.
      many_onto l.seals.items (l.count - l.index) (seal_at l.lanes) (rest_of l.lines files)
      ≡ many_onto [] l.count (seal_at l.lanes) (rest_of l.fn.lines files));
  read : AreRead (g.S.Shelf.held l.fn.shelf) (seal_at l.lanes) l.seals.items l.index
      (rest_of l.fn.lines) (rest_of l.lines);
  count : length l.seals.items ≡ l.index;
  room : l.count ≤ vec_capacity l.seals;
  right : EachAfter (IsSealAfter l.lanes) [] l.seals.items;
  held : g.S.Shelf.held l.shelf ≡ g.S.Shelf.held l.fn.shelf;
  kept : g.S.Shelf.faults l.shelf ≡ g.S.Shelf.faults l.fn.shelf;
  wants : g.S.Shelf.wants l.shelf ≡ g.S.Shelf.wants l.fn.shelf;
  file : KeepsFile l.fn.lines l.lines;
}
