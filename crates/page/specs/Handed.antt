-- What is handed in: the words of a line, and the files of a folder.
use Rattle.std.specs.Prelude.{ℕ, List, [], ◌∷◌, unwrap_or, if◌then◌else◌}
use Rattle.std.specs.FinMap.{empty, insert}
use Rattle.std.specs.Str.{is_utf8}
use Rattle.vk_io.specs.Files.{Files}
use Rattle.vk_words.specs.Scripts.{line_words}
use Rattle.page.specs.declared.folder.NamedBytes.{NamedBytes}

-- the words of a line, between single spaces. A line that isn't UTF-8 has none
abbrev pub words_in : List ℕ → List (List ℕ)
words_in line = unwrap_or (line_words line) []

-- the files with one more, which replaces one of its name. One whose name isn't UTF-8 is left out,
-- since no word of a command can be that name
abbrev pub with_handed : Files → NamedBytes → Files
with_handed files file = if is_utf8 file.name.now then insert files file.name.now file.bytes.now
    else files

-- the files with more of them, one after another
abbrev pub with_all_handed : Files → List NamedBytes → Files
with_all_handed files [] = files
with_all_handed files (file ∷ more) = with_all_handed (with_handed files file) more

-- the files that are handed in: of two with one name the later counts
abbrev pub handed_files : List NamedBytes → Files
handed_files handed = with_all_handed empty handed
