use Rattle.std.proofs.Common.{◌≡◌, drop}
use Rattle.page.specs.Handed.{handed_files, with_all_handed}
use Rattle.page.proofs.folder.shelf_of.Given as goal

-- the files so far, with those that are left, are all of them
abbrev pub invariant-loop-file : goal.invariant-loop-file
invariant-loop-file l = with_all_handed l.shelf.files (drop l.file-index l.handed)
    ≡ handed_files l.handed
