use Rattle.std.proofs.Common.{◌≡◌, ◌-◌, ◌≤◌, length, take, IfSome}
use Rattle.vk_io.specs.Files.{bytes_of}
use Rattle.vk_io.proofs.content.read_bytes.Given as goal

-- the bytes so far are the first of the file
abbrev pub invariant-loop-at : goal.invariant-loop-at
invariant-loop-at g l =
    record {
      modelled : IfSome (g.S.Shelf.held l.fn.shelf)
          (λ files. l.bytes.items ≡ take l.at (bytes_of files l.name));
      taken : length l.bytes.items ≡ l.at;
      within : l.at ≤ l.size;
      room : length l.piece ≡ 4096;
      held : g.S.Shelf.held l.shelf ≡ g.S.Shelf.held l.fn.shelf;
      kept : g.S.Shelf.faults l.shelf ≡ g.S.Shelf.faults l.fn.shelf;
      wants : g.S.Shelf.wants l.shelf ≡ g.S.Shelf.wants l.fn.shelf;
    }

abbrev pub decreases-loop-at : goal.decreases-loop-at
decreases-loop-at g l = l.size - l.at
