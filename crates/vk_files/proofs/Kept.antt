-- Files that are kept open, by their names.
use Rattle.std.proofs.Common.{◌≡◌, ℕ, ◌<◌, Bool, true, false, List, Option, Some, None, IfSome, length, cond, nat_lt, refl, sym, subst, ltb-true}
use Rattle.std.specs.List.{HoldsAt, position, position_or_len}
use Rattle.std.proofs.lemmas.List.Sums.{passes_at_first}
use Rattle.std.proofs.lemmas.Slice.Eq.{bytes_eq-Decides}
use Rattle.vk_files.specs.declared.file_shelf.KeptFile.{KeptFile}
use Rattle.vk_files.specs.Identity.{IsKeptAs, is_kept_as}

-- where a first place is told, it is one
pub first_place : {X : Type 0} (p : X → Bool) (xs : List X) (place : ℕ)
    → position p xs ≡ Some place
    → (place ≡ position_or_len p xs) × (position_or_len p xs < length xs)
first_place p xs place is = by (nat_lt (position_or_len p xs) (length xs)) refl is
  where
    by : (b : Bool) → nat_lt (position_or_len p xs) (length xs) ≡ b
        → cond b (Some (position_or_len p xs)) None ≡ Some place
        → (place ≡ position_or_len p xs) × (position_or_len p xs < length xs)
    by true within is = (cc, ltb-true (position_or_len p xs) (length xs) within)
    by false past is = cc

-- at the first place of a name a file is kept under it
pub first_is_kept : {F : Type 0} (name : List ℕ) (kept : List (KeptFile F)) (place : Option ℕ)
    → place ≡ position (is_kept_as name) kept
    → IfSome place (λ n. HoldsAt (IsKeptAs name) kept n)
first_is_kept name kept None is = tt
first_is_kept name kept (Some place) is =
    let first = first_place (is_kept_as name) kept place (sym is) in
    subst (HoldsAt (IsKeptAs name) kept) (sym first.0)
    (λ d. (bytes_eq-Decides _ name).0 (passes_at_first (is_kept_as name) kept d first.1))
