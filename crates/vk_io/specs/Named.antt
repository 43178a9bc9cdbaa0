-- The files of a shelf in memory as they lie there: one after another, each with its name.
use Rattle.std.specs.Prelude.{◌≡◌, ℕ, List, map, slice_set}
use Rattle.std.specs.FinMap.{from_entries, insert}
use Rattle.std.specs.String.{string_bytes}
use Rattle.vk_io.specs.declared.named.NamedFile.{NamedFile}
use Rattle.vk_io.specs.Files.{Files}

-- a file's name and what it holds
abbrev pub entry_of : NamedFile → List ℕ × List ℕ
entry_of file = (string_bytes file.name, file.bytes.items)

-- the map that the files make, in which a name has the first file of that name
unfoldable pub files_in : List NamedFile → Files
files_in files = from_entries (map entry_of files)

-- to write a file of that name at the place is to change the map at the name
abbrev pub IsPlaceOf : List ℕ → List NamedFile → ℕ → Type 0
IsPlaceOf name files place = (file : NamedFile) → string_bytes file.name ≡ name
    → files_in (slice_set files place file) ≡ insert (files_in files) name file.bytes.items
