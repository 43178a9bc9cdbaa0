-- Entries as they lie one after another, such as the files of a shelf in memory: reads and writes
-- at a place are those of the map that they make.
use Rattle.std.proofs.Common.{◌≡◌, ◌≢◌, ℕ, map, zero, suc, ◌+◌, ◌<◌, ◌≤◌, Bool, cond, List, [], ◌∷◌, ◌++◌, length, get_or, set, drop, Some, None, sym, ap, ◌∙◌, arith}
use Rattle.std.specs.Str.{bytes_eq}
use Rattle.std.specs.FinMap.{get, insert, get-empty, from_entries, from_entries_push, get-from_entries}
use Rattle.std.proofs.lemmas.Cmp.{nat_list_cmp_total}
use Rattle.std.proofs.lemmas.Map.Lookups.{exact_bytes}
use Rattle.std.proofs.lemmas.List.{at_drop_more, at_drop_all, map-append}
use Rattle.vk_io.proofs.Finite.{TextMap, get_inserted, insert_over, insert_swap}

module _ {T V : Type 0} (entry : T → List ℕ × V) where
  -- the map of the entries
  abbrev pub held_in : List T → TextMap V
  held_in xs = from_entries (map entry xs)

  -- what the entries from a place on have under a name: that entry's, or what the rest has
  pub get-next : (xs : List T) (i : ℕ) (x : T) (name : List ℕ) (same : Bool) → i < length xs
      → x ≡ get_or xs i x → same ≡ bytes_eq name (entry x).0
      → get (held_in (drop i xs)) name
      ≡ cond same (Some (entry x).1) (get (held_in (drop (i + 1) xs)) name)
  get-next xs i x name same h at test =
      at_drop_more (λ rest. get (held_in rest) name) xs i x h
      ∙ ap (λ y. get (held_in (y ∷ drop (i + 1) xs)) name) (sym at)
      ∙ get_inserted (held_in (drop (i + 1) xs)) (entry x).0 (entry x).1 name
      ∙ ap (λ b. cond b (Some (entry x).1) (get (held_in (drop (i + 1) xs)) name)) (sym test)

  pub get-end : (xs : List T) (i : ℕ) (name : List ℕ) → length xs ≤ i
      → get (held_in (drop i xs)) name ≡ None
  get-end xs i name h = at_drop_all (λ rest. get (held_in rest) name) xs i h ∙ get-empty _ name

  -- to write an entry of that name at the first place that has it is to change the map at the name
  pub put_at : (xs : List T) (i : ℕ) (x : T) (name : List ℕ) → i < length xs
      → ((k : ℕ) (d : T) → k < i → (entry (get_or xs k d)).0 ≢ name)
      → ((d : T) → (entry (get_or xs i d)).0 ≡ name)
      → (entry x).0 ≡ name
      → held_in (set xs i x) ≡ insert (held_in xs) name (entry x).1
  put_at [] i x name h others own same = absurd (omega arith)
  put_at (y ∷ xs) zero x name h others own same =
      ap (λ n. insert (held_in xs) n (entry x).1) same
      ∙ sym (insert_over (held_in xs) name (entry y).1 (entry x).1)
      ∙ ap (λ n. insert (insert (held_in xs) n (entry y).1) name (entry x).1) (sym (own y))
  put_at (y ∷ xs) (suc i) x name h others own same =
      ap (λ m. insert m (entry y).0 (entry y).1)
      (put_at xs i x name (omega arith) (λ k d l. others (suc k) d (omega arith)) own same)
      ∙ sym (insert_swap (held_in xs) (entry y).0 (entry y).1 name (entry x).1
      (others 0 y (omega arith)))

  -- to add an entry of a name that isn't held is to change the map at the name
  pub push_at : (xs : List T) (x : T) (name : List ℕ) → get (held_in xs) name ≡ None
      → (entry x).0 ≡ name
      → held_in (xs ++ x ∷ []) ≡ insert (held_in xs) name (entry x).1
  push_at xs x name none same =
      ap from_entries (map-append entry xs (x ∷ []))
      ∙ from_entries_push nat_list_cmp_total exact_bytes (map entry xs) (entry x).0 (entry x).1
      (sym (get-from_entries nat_list_cmp_total (map entry xs) (entry x).0)
      ∙ ap (get (held_in xs)) same ∙ none)
      ∙ ap (λ n. insert (held_in xs) n (entry x).1) same
