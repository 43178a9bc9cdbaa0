-- The files of a store of SQLite: the database, its log, the log's index and a journal.
use Rattle.std.specs.Prelude.{ℕ, List, [], ◌∷◌, ◌++◌, Bool, false, Option, Some, None, length, ◌==◌, codes, map, if◌then◌else◌}
use Rattle.std.specs.List.{list_any}
use Rattle.std.specs.Str.{bytes_eq}
use Rattle.std.specs.Path.{path_file_name, path_parent, cur_dir}

-- what stands behind the store's name in the names of its files
abbrev pub endings : List (List ℕ)
endings = [] ∷ codes "-wal" ∷ codes "-shm" ∷ codes "-journal" ∷ []

abbrev pub is_ending : List ℕ → Bool
is_ending ending = list_any (bytes_eq ending) endings

-- the paths of the store's files, and so their names
abbrev pub store_files : List ℕ → List (List ℕ)
store_files store = map (λ ending. store ++ ending) endings

-- the name is that of one of the store's files
abbrev pub is_store_name : List ℕ → List ℕ → Bool
is_store_name name store = list_any (bytes_eq name) (store_files store)

abbrev pub share_store_name : Option (List ℕ) → Option (List ℕ) → Bool
share_store_name (Some name) (Some store) = is_store_name name store
share_store_name (Some name) None = false
share_store_name None store = false

-- the last name of the path is that of one of the files of the store at the other path
abbrev pub shares_store_name : List ℕ → List ℕ → Bool
shares_store_name path store = share_store_name (path_file_name path) (path_file_name store)

-- a folder, which is the current one where no folder is named
abbrev pub named_folder : Option (List ℕ) → List ℕ
named_folder None = cur_dir
named_folder (Some folder) = if length folder == 0 then cur_dir else folder

-- the folder that the file at the path is in
abbrev pub folder_of : List ℕ → List ℕ
folder_of path = named_folder (path_parent path)
