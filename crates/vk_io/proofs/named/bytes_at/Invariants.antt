use Rattle.std.proofs.Common.{◌≡◌, drop}
use Rattle.std.specs.FinMap as finite
use Rattle.vk_io.specs.Named.{files_in}
use Rattle.vk_io.proofs.named.bytes_at.Given as goal

-- the files so far have other names
abbrev pub invariant-loop-file : goal.invariant-loop-file
invariant-loop-file l =
    finite.get (files_in l.files) l.name ≡ finite.get (files_in (drop l.file-index l.files)) l.name
