use Rattle.std.proofs.Common.{◌≡◌, Option, Result, drop}
use Rattle.vk_io.specs.declared.errors.OutsideErr.{OutsideErr}
use Rattle.vk_io.specs.Files.{Files, Modelled}
use Rattle.vk_io.specs.Writing.{WritesAll, texts_of}
use Rattle.vk_io.proofs.writing.write_files.Given as goal

-- what the writing of the files that are left does, from here, the writing of all does from the
-- start
abbrev pub invariant-loop-file : goal.invariant-loop-file
invariant-loop-file g l =
    record {
      modelled : (answer : Result Unit OutsideErr) (new : Option Files)
          → Modelled (WritesAll (texts_of (drop l.file (g.F.WrittenFiles.files l.files))) answer)
          (g.S.Shelf.held l.shelf) new
          → Modelled (WritesAll (texts_of (g.F.WrittenFiles.files l.files)) answer)
          (g.S.Shelf.held l.fn.shelf) new;
      kept : g.S.Shelf.faults l.shelf ≡ g.S.Shelf.faults l.fn.shelf;
      wants : g.S.Shelf.wants l.shelf ≡ g.S.Shelf.wants l.fn.shelf;
    }
