-- The rows of one id after a row was put, or some were taken.
use Rattle.std.proofs.Common.{◌≡◌, ◌≢◌, inl, inr, ℕ, Bool, true, false, cond, not, List, [], ◌∷◌, filter, refl, ap, sym, subst, ◌∙◌, Ordering, Less, Equal, Greater, is_eq, ◌++◌, eqb}
use Rattle.std.specs.Prelude.{bytes_eq, IsPermutation}
use Rattle.std.specs.Ordering.{match_ordering}
use Rattle.std.proofs.lemmas.Bool.{cases_Bool, eq-eqb, false≢true}
use Rattle.std.proofs.lemmas.Cmp.{tied_itself}
use Rattle.std.proofs.lemmas.List.Elements.{filter-append}
use Rattle.std.proofs.lemmas.List.Sorted.{IsPermutation-middle, IsPermutation-sym, IsPermutation-trans}
use Rattle.std.proofs.lemmas.Map.Text.{is_eq-slice_cmp}
use Rattle.std.proofs.lemmas.Slice.Eq.{bytes_eq-Decides}
use Rattle.sqlite_value.specs.declared.value.Value.{Value}
use Rattle.sqlite_value.specs.declared.value.Value.TheVariants.{Int, Blob}
use Rattle.sqlite_value.specs.Order.{Row, column, value_cmp}
use Rattle.sqlite_value.proofs.OrderLemmas.{value_cmp_total, value_cmp-Blob}
use Rattle.sqlite_trees.specs.Tree.{rowid, put_row}
use Rattle.sqlite_trees.specs.View.{is_int}
use Rattle.sqlite_trees.proofs.ListLemmas.{IsPermutation-same}
use Rattle.sqlite_trees.proofs.TreeLemmas.{IsTable-put_row}
use Rattle.sqlite_rules.specs.Edit.{is_taken}
use Rattle.sqlite_rules.proofs.ListLemmas.{all_has, all_from, has_filtered}
use Rattle.sqlite_rules.proofs.TableLemmas.{put_has}
use Rattle.sqlite_catalog.proofs.LayoutLemmas.{ascending_filter}
use Rattle.sqlite_catalog.proofs.ListFacts.{filter_within}
use Rattle.vk_store_laws.specs.Rows.{has_id, under, IsTableOfRows, PutsRow}

-- numbers that aren't the same
pub unlike : (m n : ℕ) → eqb m n ≡ false → m ≡ n → ⊥
unlike m n other same = false≢true (sym other ∙ eq-eqb m n same)

pub equal_is : (o : Ordering) → is_eq o ≡ true → o ≡ Equal
equal_is Less h = absurd (let e = h in cc)
equal_is Equal h = refl
equal_is Greater h = absurd (let e = h in cc)

-- a row is of one id alone
pub one_id : (v : Value) (a b : List ℕ) → is_eq (value_cmp v (Blob a)) ≡ true
    → is_eq (value_cmp v (Blob b)) ≡ true → a ≡ b
one_id v a b p q =
    let same : value_cmp (Blob a) (Blob b) ≡ Equal =
    sym (value_cmp_total.congr v (Blob a) (Blob b) (equal_is _ p)) ∙ equal_is _ q in
    let equal : bytes_eq a b ≡ true = sym (is_eq-slice_cmp a b)
    ∙ (ap is_eq (sym (value_cmp-Blob a b)) ∙ ap is_eq same) in
    (bytes_eq-Decides a b).0 equal

pub other_id : (other id : List ℕ) → other ≢ id → is_eq (value_cmp (Blob id) (Blob other)) ≡ false
other_id other id apart = elim (cases_Bool (is_eq (value_cmp (Blob id) (Blob other)))) [
  | inl same ↦ absurd (apart (sym
      ((bytes_eq-Decides id other).0
      (sym (is_eq-slice_cmp id other) ∙ (ap is_eq (sym (value_cmp-Blob id other)) ∙ same)))))
  | inr differs ↦ differs
]

-- where a row comes among others, none of which has its rowid
record Comes (new : Row) (rows : List Row) : Type 0 where
  before : List Row
  behind : List Row
  were : rows ≡ before ++ behind
  are : put_row new rows ≡ before ++ (new ∷ behind)

comes : (new : Row) (rows : List Row) → is_taken rows new ≡ false → Comes new rows
comes new [] free = record { before = []; behind = []; were = refl; are = refl }
comes new (r ∷ rows) free = go (value_cmp (rowid r) (rowid new)) refl (comes new rows)
  where
    go : (o : Ordering) → value_cmp (rowid r) (rowid new) ≡ o
        → (is_taken rows new ≡ false → Comes new rows) → Comes new (r ∷ rows)
    go Less e later =
        let more_free : is_taken rows new ≡ false = rw e at free in
        let more = later more_free in
        record {
          before = r ∷ more.before;
          behind = more.behind;
          were = ap (λ rest. r ∷ rest) more.were;
          are = ap (λ o. match_ordering o (r ∷ put_row new rows) (new ∷ rows) (new ∷ r ∷ rows)) e
              ∙ ap (λ rest. r ∷ rest) more.are;
        }
    go Equal e later = absurd (let f = rw e at free in cc)
    go Greater e later = record {
      before = [];
      behind = r ∷ rows;
      were = refl;
      are = ap (λ o. match_ordering o (r ∷ put_row new rows) (new ∷ rows) (new ∷ r ∷ rows)) e;
    }

-- what a test passes of them, with the row and without it
passed_with : (p : Row → Bool) (new : Row) (rows : List Row) (put : Comes new rows) (test : Bool)
    → p new ≡ test → filter p (put_row new rows) ≡ filter p put.before
    ++ cond test (new ∷ filter p put.behind) (filter p put.behind)
passed_with p new rows put test is =
    ap (filter p) put.are ∙ filter-append p put.before (new ∷ put.behind)
    ∙ ap (λ b. filter p put.before ++ cond b (new ∷ filter p put.behind) (filter p put.behind)) is

passed_before : (p : Row → Bool) (new : Row) (rows : List Row) (put : Comes new rows)
    → filter p rows ≡ filter p put.before ++ filter p put.behind
passed_before p new rows put =
    ap (filter p) put.were ∙ filter-append p put.before put.behind

-- a row that the test doesn't pass goes in without a trace
pub filter_put : (p : Row → Bool) (new : Row) (rows : List Row) → p new ≡ false
    → is_taken rows new ≡ false → filter p (put_row new rows) ≡ filter p rows
filter_put p new rows fails free =
    let put = comes new rows free in
    passed_with p new rows put false fails ∙ sym (passed_before p new rows put)

-- a row that the test passes comes beside the others
pub put_beside : (p : Row → Bool) (new : Row) (rows : List Row) → p new ≡ true
    → is_taken rows new ≡ false → IsPermutation (new ∷ filter p rows) (filter p (put_row new rows))
put_beside p new rows passes free =
    let put = comes new rows free in
    IsPermutation-trans _ (new ∷ (filter p put.before ++ filter p put.behind)) _
    (IsPermutation-same _ _ (ap (λ all. new ∷ all) (passed_before p new rows put)))
    (IsPermutation-trans _ (filter p put.before ++ (new ∷ filter p put.behind)) _
    (IsPermutation-sym _ _ (IsPermutation-middle (filter p put.before) new (filter p put.behind)))
    (IsPermutation-same _ _ (sym (passed_with p new rows put true passes))))

-- the rows of another id stay
pub others_after_put : (other id : List ℕ) (values : Row) (old new : List Row) → other ≢ id
    → PutsRow (Blob id ∷ values) old new → under other new ≡ under other old
others_after_put other id values old new apart put =
    ap (under other) put.rows ∙ filter_put (has_id other) (Int put.number ∷ Blob id ∷ values) old
    (other_id other id apart) put.free

pub table_after_put : (values : Row) (old new : List Row) → IsTableOfRows old
    → PutsRow values old new → IsTableOfRows new
table_after_put values old new table put =
    let row = Int put.number ∷ values in
    subst IsTableOfRows (sym put.rows) (
      IsTable-put_row row old table.0,
      all_from _ (put_row row old)
          (λ x h. elim (put_has row old x h)
          [ inl same ↦ ap (λ r. is_int (rowid r)) same | inr was ↦ all_has _ old x table.1 was ]),
    )

pub others_after_delete : (other id : List ℕ) (goes : Row → Bool) (rows : List Row) → other ≢ id
    → ((r : Row) → goes r ≡ true → has_id id r ≡ true)
    → under other (filter (λ r. not (goes r)) rows) ≡ under other rows
others_after_delete other id goes rows apart own =
    filter_within (has_id other) (λ r. not (goes r)) rows (λ r h is. elim (cases_Bool (goes r)) [
      | inl gone ↦ absurd (apart (one_id (column r 1) other id is (own r gone)))
      | inr stays ↦ ap not stays
    ])

pub table_after_delete : (p : Row → Bool) (rows : List Row) → IsTableOfRows rows
    → IsTableOfRows (filter p rows)
table_after_delete p rows table = (
  ascending_filter _ p rows table.0,
  all_from _ (filter p rows) (λ r h. all_has _ rows r table.1 (has_filtered p rows r h).0),
)

pub own_id : (id : List ℕ) → is_eq (value_cmp (Blob id) (Blob id)) ≡ true
own_id id = ap is_eq (tied_itself value_cmp_total (Blob id))
