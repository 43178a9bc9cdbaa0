-- A table without the rows that a query found, by their rowids.
use Rattle.std.proofs.Common.{◌≡◌, ℤ, Bool, true, false, not, List, [], ◌∷◌, map, filter, refl, ap, sym, ◌∙◌, Ordering, Less, Equal, Greater, is_eq, inl, inr}
use Rattle.std.specs.Prelude.{IsTrue, ◌||◌, ◌&&◌, IsPermutation}
use Rattle.std.specs.List.{AllByRecursion, list_any}
use Rattle.std.specs.Cmp.{both_ways}
use Rattle.std.proofs.lemmas.Bool.{cases_Bool}
use Rattle.std.proofs.lemmas.Cmp.{tied_itself}
use Rattle.std.proofs.lemmas.List.Sorted.{IsPermutation-sym}
use Rattle.sqlite_value.specs.declared.value.Value.TheVariants.{Int}
use Rattle.sqlite_value.specs.Order.{Row, value_cmp}
use Rattle.sqlite_value.proofs.OrderLemmas.{value_cmp_total}
use Rattle.sqlite_trees.specs.Tree.{IsTable, rowid, has_rowid}
use Rattle.sqlite_trees.specs.View.{is_int}
use Rattle.sqlite_trees.proofs.ListLemmas.{all-permutation, filter_same}
use Rattle.sqlite_rules.specs.Lists.{Has}
use Rattle.sqlite_rules.specs.Edit.{id_in, without_all}
use Rattle.sqlite_rules.proofs.ListLemmas.{all_has, all_from, some_has, some_from, has_filtered, has_kept}
use Rattle.sqlite_rules.proofs.ProbeLemmas.{mapped_has, has_mapped}
use Rattle.sqlite_rules.proofs.PlaceLemmas.{tied_same}
use Rattle.sqlite_rules.proofs.TableLemmas.{int_is}
use Rattle.sqlite_catalog.proofs.ListFacts.{filter_all}

equal_is : (o : Ordering) → is_eq o ≡ true → o ≡ Equal
equal_is Less h = absurd (let e = h in cc)
equal_is Equal h = refl
equal_is Greater h = absurd (let e = h in cc)

pub has_permuted : {X : Type 0} (xs ys : List X) (y : X) → IsPermutation xs ys → Has ys y → Has xs y
has_permuted xs ys y same h = all_has (Has xs) ys y
    (all-permutation (Has xs) xs ys same (all_from (Has xs) xs (λ x own. own))) h

filter_both : {X : Type 0} (p q : X → Bool) (xs : List X)
    → filter p (filter q xs) ≡ filter (λ x. q x && p x) xs
filter_both p q [] = refl
filter_both p q (x ∷ xs) = elim (cases_Bool (q x)) [
  | inl a ↦ elim (cases_Bool (p x)) [
    | inl b ↦ rw (a, b) (ap (λ z. x ∷ z) (filter_both p q xs))
    | inr b ↦ rw (a, b)
        (filter_both p q xs)
  ]
  | inr a ↦ rw a (filter_both p q xs)
]

neither : (a b : Bool) → (not a && not b) ≡ not (a || b)
neither true b = refl
neither false true = refl
neither false false = refl

-- some of these rowids is that of the row
abbrev pub is_among : List ℤ → Row → Bool
is_among ids r = list_any (λ id. has_rowid id r) ids

pub without_are : (ids : List ℤ) (rows : List Row)
    → without_all rows ids ≡ filter (λ r. not (is_among ids r)) rows
without_are [] rows = sym (filter_all (λ r. not (is_among [] r)) rows (λ x h. refl))
without_are (id ∷ ids) rows =
    without_are ids (filter (λ r. not (has_rowid id r)) rows)
    ∙ (filter_both (λ r. not (is_among ids r)) (λ r. not (has_rowid id r)) rows
    ∙ filter_same _ _ rows (all_from _ rows (λ x h. neither (has_rowid id x) (is_among ids x))))

module _ (rows : List Row) (up : IsTable rows) (ints : AllByRecursion (λ r. IsTrue (is_int (rowid r))) rows) (p : Row → Bool) (ids : List ℤ)
    (sound : (id : ℤ) → Has ids id → (r : Row) × Has rows r × (p r ≡ true) × (id ≡ id_in (rowid r))) (complete : (r : Row) → Has rows r → p r ≡ true → Has ids (id_in (rowid r))) where
  int_at : (r : Row) → Has rows r → rowid r ≡ Int (id_in (rowid r))
  int_at r h = int_is (rowid r) (all_has _ rows r ints h)

  gone : (r : Row) → Has rows r → is_among ids r ≡ p r
  gone r h = both_ways (is_among ids r) (p r) forth back
    where
      forth : is_among ids r ≡ true → p r ≡ true
      forth some =
          let found = some_has (λ id. has_rowid id r) ids some in
          let from = sound found.0 found.1 in
          let id : rowid from.0 ≡ Int found.0 = int_at from.0 from.1 ∙ ap Int (sym from.3) in
          let tie : value_cmp (rowid r) (rowid from.0) ≡ Equal = ap (value_cmp (rowid r)) id
          ∙ equal_is _ found.2 in
          let one : r ≡ from.0 = tied_same rows r from.0 up h from.1 tie in
          ap p one ∙ from.2

      back : p r ≡ true → is_among ids r ≡ true
      back passes =
          let own : has_rowid (id_in (rowid r)) r ≡ true =
          ap is_eq (ap (value_cmp (rowid r)) (sym (int_at r h))
          ∙ tied_itself value_cmp_total (rowid r)) in
          some_from (λ id. has_rowid id r) ids (id_in (rowid r)) (complete r h passes) own

  -- what is left are the rows that the test doesn't pass
  pub left_by_ids : without_all rows ids ≡ filter (λ r. not (p r)) rows
  left_by_ids = without_are ids rows
      ∙ filter_same _ _ rows (all_from _ rows (λ r h. ap not (gone r h)))

pub left_are : (rows : List Row) → IsTable rows
    → AllByRecursion (λ r. IsTrue (is_int (rowid r))) rows → (p : Row → Bool) (ids : List ℤ)
    → IsPermutation (map (λ r. id_in (rowid r)) (filter p rows)) ids
    → without_all rows ids ≡ filter (λ r. not (p r)) rows
left_are rows up ints p ids same = left_by_ids rows up ints p ids
    (λ id h. let from = has_mapped (λ x. id_in (rowid x)) (filter p rows) id
    (has_permuted _ ids id same h) in
    let kept = has_filtered p rows from.0 from.1 in
    (from.0, kept.0, kept.1, from.2))
    (λ r h passes. has_permuted ids _ (id_in (rowid r)) (IsPermutation-sym _ ids same)
    (mapped_has (λ x. id_in (rowid x)) (filter p rows) r (has_kept p rows r h passes)))
