-- The row that a word finds.
use Rattle.std.proofs.Common.{◌≡◌, ℕ, Bool, true, false, cond, List, [], ◌∷◌, map, Option, Some, None, IfSome, refl}
use Rattle.std.specs.Prelude.{option_map}
use Rattle.std.specs.List.{All, AllByRecursion, find}
use Rattle.std.proofs.lemmas.List.Elements.{All-from_recursion}
use Rattle.std.specs.Option.{option_copied}
use denote.Ref.{Bor}
use Rattle.std.specs.Str.{bytes_eq}
use Rattle.vk_words.specs.declared.table.CommandRow.{CommandRow}
use Rattle.vk_words.specs.Table.{commands, row_of, row_seen}

infixr 20 ◌&◌
-- a fact of the first row, and those of the rows behind it
pub ◌&◌ : {P Q : Type 0} → P → Q → P × Q
first & others = (first, others)

-- each command is found by its name
pub each_is_found : All (λ row. row_of row.name ≡ Some row) commands
unfolding commands row_of
each_is_found =
    All-from_recursion (λ row. row_of row.name ≡ Some row) commands
    (refl & refl & refl & refl & refl & refl & refl & refl & refl & refl & refl & refl & refl
    & refl & refl & refl & refl & refl & tt)

-- whether a row has that name
abbrev has_name : List ℕ → CommandRow → Bool
has_name word row = bytes_eq row.0.now word

-- what is found of the rows that are seen is what is seen of the row that is found
find_seen :
    (word : List ℕ) (rows : List CommandRow)
    → option_map row_seen (find (has_name word) rows)
    ≡ find (λ row. bytes_eq row.name word) (map row_seen rows)
find_seen word [] = refl
find_seen word (row ∷ rows) =
    let seen = find (λ r. bytes_eq r.name word) (map row_seen rows) in
    elim (bytes_eq row.0.now word) as
    (λ b. option_map row_seen (cond b (Some row) (find (has_name word) rows))
    ≡ cond b (Some (row_seen row)) seen) [
      | true ↦ refl
      | false ↦ find_seen word rows
    ]

seen_of : (found : Option (Bor CommandRow))
    → option_map (λ row. row_seen row.now) found ≡ option_map row_seen (option_copied found)
seen_of None = refl
seen_of (Some row) = refl

-- the row of a word, found in a table that is seen as the commands
pub found_row :
    (word : List ℕ) (rows : List CommandRow) (found : Option (Bor CommandRow))
    → option_copied found ≡ find (has_name word) rows
    → map row_seen rows ≡ commands
    → option_map (λ row. row_seen row.now) found ≡ row_of word
unfolding row_of
found_row word rows found is table = rw (seen_of found, is, find_seen word rows, table) refl

-- what holds of each element holds of the one that is found
pub IfSome-find : {X : Type 0} (P : X → Type 0) (test : X → Bool) (xs : List X)
    → AllByRecursion P xs → IfSome (find test xs) P
IfSome-find P test [] each = tt
IfSome-find P test (x ∷ xs) each =
    elim (test x) as (λ b. IfSome (cond b (Some x) (find test xs)) P) [
      | true ↦ each.0
      | false ↦ IfSome-find P test xs each.1
    ]
