use Rattle.std.proofs.Common.{◌≡◌, ◌≢◌, ℕ, ◌<◌, get_or, drop}
use Rattle.std.specs.String.{string_bytes}
use Rattle.std.specs.FinMap as finite
use Rattle.vk_io.specs.declared.named.NamedFile.{NamedFile}
use Rattle.vk_io.specs.Named.{files_in}
use Rattle.vk_io.proofs.named.place_of.Given as goal

-- the files so far have other names
abbrev pub invariant-loop-i : goal.invariant-loop-i
invariant-loop-i l =
    record {
      rest : finite.get (files_in l.files) l.name ≡ finite.get (files_in (drop l.i l.files)) l.name;
      others : (k : ℕ) (d : NamedFile) → k < l.i → string_bytes (get_or l.files k d).name ≢ l.name;
    }
