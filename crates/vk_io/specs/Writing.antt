-- Files that are written one after another, each piece by piece, and what a stop leaves.
use Rattle.std.specs.Prelude.{◌≡◌, ℕ, ◌≤◌, List, [], ◌∷◌, length, take, map, Result, Ok, Err, ◌⊎◌}
use Rattle.std.specs.List.{concat}
use Rattle.std.specs.FinMap.{insert}
use Rattle.std.specs.String.{string_bytes}
use Rattle.vk_io.specs.declared.writing.FileText.{FileText}
use Rattle.vk_io.specs.Files.{Files}

-- a file that is to be written: its name, and its text in pieces
pub record WrittenFile : Type 0 where
  pub name : List ℕ
  pub pieces : List (List ℕ)

-- where a list of files has none
abbrev pub no_file : WrittenFile
no_file = record { name = []; pieces = [] }

-- the whole text of a file: its pieces one after another
abbrev pub text_of : WrittenFile → List ℕ
text_of file = concat file.pieces

-- the names and whole texts of files
abbrev pub texts_of : List WrittenFile → List (List ℕ × List ℕ)
texts_of files = map (λ file. (file.name, text_of file)) files

-- files whose texts are given whole
abbrev pub whole_files : List FileText → List WrittenFile
whole_files files = map (λ file. record { name = string_bytes file.name; pieces = file.text ∷ [] })
    files

-- the named file is as before or holds the first bytes of the text. All other files stay
abbrev pub IsPartOf : List ℕ → List ℕ → Files → Files → Type 0
IsPartOf name text old new = (new ≡ old)
    ⊎ ((k : ℕ) × (k ≤ length text) × (new ≡ insert old name (take k text)))

-- the named file holds the text; after a refusal a part of it
abbrev pub Writes : {E : Type 0} → List ℕ → List ℕ → Result Unit E → Files → Files → Type 0
Writes name text (Ok done) old new = new ≡ insert old name text
Writes name text (Err refusal) old new = IsPartOf name text old new

-- each of the files holds its text
abbrev pub written : List (List ℕ × List ℕ) → Files → Files
written [] old = old
written (text ∷ texts) old = written texts (insert old text.0 text.1)

-- the files are divided at one of them: those before it hold their texts, that one a part of its
-- text or what it held, and those after it are as before. With no files nothing changed
abbrev pub IsDivided : List (List ℕ × List ℕ) → Files → Files → Type 0
IsDivided [] old new = new ≡ old
IsDivided (text ∷ texts) old new = IsPartOf text.0 text.1 old new
    ⊎ IsDivided texts (insert old text.0 text.1) new

-- all files hold their texts; after a refusal they are divided at one of them
abbrev pub WritesAll : {E : Type 0} → List (List ℕ × List ℕ) → Result Unit E → Files → Files
    → Type 0
WritesAll texts (Ok done) old new = new ≡ written texts old
WritesAll texts (Err refusal) old new = IsDivided texts old new
