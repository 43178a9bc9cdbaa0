-- Which file it is that a name leads to.
use Rattle.std.specs.Prelude.{◌≡◌, ℕ, List, Bool, String, false, Option, Some, None, not, ◌&&◌, ◌==◌}
use Rattle.std.specs.List.{list_any}
use Rattle.std.specs.Str.{bytes_eq}
use Rattle.std.specs.String.{string_bytes}
use Rattle.vk_files.specs.declared.file_id.FileId.{FileId}
use Rattle.vk_files.specs.declared.file_shelf.KeptFile.{KeptFile}
use Rattle.vk_files.specs.declared.file_shelf.NamedFile.{NamedFile}
use Rattle.vk_files.specs.declared.named_ids.NamedId.{NamedId}

-- both are one file: one device, and one number there
abbrev pub same_file : FileId → FileId → Bool
same_file a b = (a.device == b.device) && (a.node == b.node)

-- both are told, and one file
abbrev pub are_same : Option FileId → Option FileId → Bool
are_same (Some a) (Some b) = same_file a b
are_same (Some a) None = false
are_same None other = false

-- the file was opened by that name
abbrev pub is_named : List NamedId → FileId → List ℕ → Bool
is_named opened id name = list_any
    (λ file. same_file file.id id && bytes_eq (string_bytes file.name) name) opened

-- the file was opened by another name
abbrev pub is_named_otherwise : List NamedId → FileId → List ℕ → Bool
is_named_otherwise opened id name =
    list_any (λ file. same_file file.id id && not (bytes_eq (string_bytes file.name) name)) opened

-- the name is one of those that were told to be there
abbrev pub is_told : {Z : Type 0} → (told : List (String Z)) → List ℕ → Bool
is_told told name = list_any (λ other. bytes_eq (string_bytes other) name) told

-- an open file was opened by that name
abbrev pub HasName : {F : Type 0} → List ℕ → NamedFile F → Type 0
HasName name file = string_bytes file.name ≡ name

-- and so was one that is kept open to be read
abbrev pub IsKeptAs : {F : Type 0} → List ℕ → KeptFile F → Type 0
IsKeptAs name kept = HasName name kept.named

abbrev pub is_kept_as : {F : Type 0} → List ℕ → KeptFile F → Bool
is_kept_as name kept = bytes_eq (string_bytes kept.named.name) name
