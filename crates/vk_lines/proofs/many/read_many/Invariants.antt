use Rattle.std.proofs.Common.{length, ◌≡◌, ◌≤◌, ◌-◌, [], IfSome}
use Rattle.std.specs.Prelude.{vec_capacity}
use Rattle.vk_lines.specs.Forms.{EachNumbered, many_onto}
use Rattle.vk_lines.specs.Lines.{KeepsFile, line_by, rest_of}
use Rattle.vk_lines.proofs.many.read_many.Given as goal

-- what is left gives the rest of the items
abbrev pub invariant-loop-number : goal.invariant-loop-number
invariant-loop-number g l = record {
  modelled : IfSome (g.S.Shelf.held l.fn.shelf) (λ files.
      many_onto l.items.items (l.count - l.number)
      (λ before. line_by (g.K.LineKind.item_of l.kind (length before))) (rest_of l.lines files)
      ≡ many_onto [] l.count (λ before. line_by (g.K.LineKind.item_of l.kind (length before)))
      (rest_of l.fn.lines files));
  count : length l.items.items ≡ l.number;
  each : EachNumbered (g.K.LineKind.is_item l.kind) l.items.items;
  file : KeepsFile l.fn.lines l.lines;
  room : l.count ≤ vec_capacity l.items;
  held : g.S.Shelf.held l.shelf ≡ g.S.Shelf.held l.fn.shelf;
  kept : g.S.Shelf.faults l.shelf ≡ g.S.Shelf.faults l.fn.shelf;
  wants : g.S.Shelf.wants l.shelf ≡ g.S.Shelf.wants l.fn.shelf;
}
