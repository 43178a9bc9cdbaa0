use Rattle.std.proofs.Common.{◌≡◌, Ok, take, slice_index_or}
use Rattle.std.specs.List.{concat}
use Rattle.vk_io.specs.declared.errors.OutsideErr.{OutsideErr}
use Rattle.vk_io.specs.Files.{Modelled}
use Rattle.vk_io.specs.Writing.{WrittenFile, Writes, no_file}
use Rattle.vk_io.proofs.writing.write_file.Given as goal

-- the file holds the pieces so far
abbrev pub invariant-loop-index : goal.invariant-loop-index
invariant-loop-index g l =
    let file : WrittenFile = slice_index_or (g.F.WrittenFiles.files l.files) l.file no_file in
    record {
      begun : Modelled (Writes {E = OutsideErr} file.name (concat (take l.index file.pieces))
          (Ok tt)) (g.S.Shelf.held l.fn.shelf) (g.S.Shelf.held l.shelf);
      kept : g.S.Shelf.faults l.shelf ≡ g.S.Shelf.faults l.fn.shelf;
      wants : g.S.Shelf.wants l.shelf ≡ g.S.Shelf.wants l.fn.shelf;
    }
