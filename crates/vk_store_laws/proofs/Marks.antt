-- Terms of version 1 under the ids of a query, whatever stands there as an id.
use Rattle.std.proofs.Common.{◌≡◌, ℕ, pos, Bool, true, false, cond, not, List, [], ◌∷◌, map, filter, refl, ap, sym, subst, ◌∙◌, inl, inr, is_eq}
use Rattle.std.specs.Prelude.{◌&&◌, ◌||◌, is_nan}
use Rattle.std.specs.List.{list_any}
use Rattle.std.proofs.lemmas.Bool.{cases_Bool, false≢true}
use Rattle.std.proofs.lemmas.Map.Text.{is_eq-slice_cmp}
use Rattle.std.proofs.lemmas.Slice.Eq.{bytes_eq-Decides}
use Rattle.sqlite_value.specs.declared.value.Value.{Value}
use Rattle.sqlite_value.specs.declared.value.Value.TheVariants.{Null, Int, Real, Text, Blob}
use Rattle.sqlite_value.specs.declared.keys.Collation.TheVariants.{Binary}
use Rattle.sqlite_value.specs.declared.keys.Key.{Key}
use Rattle.sqlite_value.specs.Order.{Row, column, class, value_cmp}
use Rattle.sqlite_value.proofs.KeyLemmas.{first_key-plain}
use Rattle.sqlite_value.proofs.OrderLemmas.{value_cmp_total, value_cmp-Blob, value_cmp-apart}
use Rattle.sqlite_sql.specs.declared.ops.BinaryOp.TheVariants.{Compare}
use Rattle.sqlite_sql.specs.declared.ops.CompareOp.TheVariants.{Eq}
use Rattle.sqlite_sql.specs.Ops.{binary, is_true}
use Rattle.sqlite_schema.specs.Rules.{equal}
use Rattle.sqlite_schema.specs.declared.command.Conflict.TheVariants.{Replace}
use Rattle.sqlite_catalog.proofs.ListFacts.{filter_within}
use Rattle.sqlite.specs.Rows.{mended}
use Rattle.sqlite.specs.Values.{bound_value}
use Rattle.sqlite.specs.Store.{Ghosts}
use Rattle.sqlite.specs.Held.{Held, state}
use Rattle.sqlite.specs.Effect.{Database}
use Rattle.vk_keeper_sql.specs.Statements.{keep_terms}
use Rattle.vk_keeper_sql.specs.Transactions.{Ran}
use Rattle.vk_keeper_sql.specs.Opening.{AddsTerms}
use Rattle.vk_store_laws.specs.Tables.{store_schema, placed, terms}
use Rattle.vk_store_laws.specs.Rows.{has_id, under, term_columns, IsTableOfRows, PutsRow}
use Rattle.vk_store_laws.specs.Holding.{IsStore}
use Rattle.vk_store_laws.proofs.Texts.{terms_terms, keep_terms_is}
use Rattle.vk_store_laws.proofs.Selects.{told, is_id, filter_same}
use Rattle.vk_store_laws.proofs.Finds.{and_true}
use Rattle.vk_store_laws.proofs.Tables.{cast_null, cast_int, replaces}
use Rattle.vk_store_laws.proofs.Under.{equal_is, own_id, filter_put, unlike, table_after_put, table_after_delete}
use Rattle.vk_store_laws.proofs.Keeping.{or_false, put_alone, none_left, wrote}

-- ---- a value and a blob

-- a value of another class ties with no blob
no_blob : (v : Value) (b : List ℕ) → (class v ≡ 3 → ⊥) → is_eq (value_cmp v (Blob b)) ≡ true
    → v ≡ Blob b
no_blob (Blob c) b apart h = absurd (apart refl)
no_blob v b apart h =
    absurd (let e = sym (ap is_eq (value_cmp-apart v (Blob b) apart)) ∙ h in cc)

-- a value that ties with a blob is that blob
blob_is : (v : Value) (b : List ℕ) → is_eq (value_cmp v (Blob b)) ≡ true → v ≡ Blob b
blob_is Null b h = no_blob Null b (unlike 0 3 refl) h
blob_is (Int n) b h = no_blob (Int n) b (unlike 1 3 refl) h
blob_is (Real x) b h = no_blob (Real x) b (unlike 1 3 refl) h
blob_is (Text t) b h = no_blob (Text t) b (unlike 2 3 refl) h
blob_is (Blob c) b h = ap Blob
    ((bytes_eq-Decides c b).0 (sym (is_eq-slice_cmp c b)
    ∙ (ap is_eq (sym (value_cmp-Blob c b)) ∙ h)))

-- a value is bound as itself, but for a float that is no number, which is no blob either
bound_id : (v : Value) (b : List ℕ)
    → is_eq (value_cmp (bound_value v) (Blob b)) ≡ is_eq (value_cmp v (Blob b))
bound_id (Real x) b = either (is_nan x)
    ∙ sym (ap is_eq (value_cmp-apart (Real x) (Blob b) (unlike 1 3 refl)))
  where
    either : (n : Bool) → is_eq (value_cmp (cond n Null (Real x)) (Blob b)) ≡ false
    either true = ap is_eq (value_cmp-apart Null (Blob b) (unlike 0 3 refl))
    either false = ap is_eq (value_cmp-apart (Real x) (Blob b) (unlike 1 3 refl))
bound_id v b = refl

-- the row has this value as its id
abbrev is_of : Value → Row → Bool
is_of w row = is_true (binary (Compare Eq Binary) (column row 1) w)

tied_blob : (b : List ℕ) (w : Value) → is_true (binary (Compare Eq Binary) (Blob b) w) ≡ true
    → is_eq (value_cmp (Blob b) w) ≡ true
unfolding binary
tied_blob b Null h = absurd (let e = h in cc)
tied_blob b w h = sym (told _) ∙ h

-- a row of a blob has no other value as its id
own_only : (w : Value) (b : List ℕ) (row : Row) → is_of w row ≡ true → has_id b row ≡ true
    → is_eq (value_cmp w (Blob b)) ≡ true
own_only w b row of own =
    let tied : is_eq (value_cmp (Blob b) w) ≡ true =
    tied_blob b w (subst (λ v. is_true (binary (Compare Eq Binary) v w) ≡ true)
    (blob_is (column row 1) b own) of) in
    ap is_eq (sym (value_cmp_total.congr (Blob b) w (Blob b) (equal_is _ tied))) ∙ own_id b

-- ---- the row of the terms of an auction of then

abbrev pub first_row : Row
first_row = Int (pos 1) ∷ Int (pos 0) ∷ []

-- the terms were put under an id, or nothing changed there
abbrev pub IsMarked : Bool → List ℕ → List Row → List Row → Type 0
IsMarked true id old new = map term_columns (under id new) ≡ first_row ∷ []
IsMarked false id old new = under id new ≡ under id old

then_marked : (one two : Bool) (id : List ℕ) (old mid new : List Row) → IsMarked one id old mid
    → IsMarked two id mid new → IsMarked (one || two) id old new
then_marked true true id old mid new first later = later
then_marked true false id old mid new first later = ap (map term_columns) later ∙ first
then_marked false true id old mid new first later = later
then_marked false false id old mid new first later = later ∙ first

mended_is : (w : Value) → mended Replace (placed terms 6) (Null ∷ w ∷ first_row)
    ≡ Null ∷ w ∷ first_row
mended_is Null = refl
mended_is w = refl

-- a row that was put for a value in the place of those of the value
marks : (w : Value) (old new : List Row)
    → PutsRow (w ∷ first_row) (filter (λ r. not (is_of w r)) old) new → (id : List ℕ)
    → IsMarked (is_eq (value_cmp w (Blob id))) id old new
marks w old new put id = elim (cases_Bool (is_eq (value_cmp w (Blob id)))) [
  | inl same ↦ subst (λ b. IsMarked b id old new) (sym same) (
      let row = Int put.number ∷ w ∷ first_row in
      let left = filter (λ r. not (is_of w r)) old in
      let is = blob_is w id same in
      let gone : filter (has_id id) left ≡ [] =
      ap (filter (has_id id))
      (filter_same _ _ (λ r.
      ap not (ap (λ v. is_true (binary (Compare Eq Binary) (column r 1) v)) is
      ∙ is_id (column r 1) id)) old) ∙ none_left (has_id id) old in
      ap (map term_columns) (ap (under id) put.rows
      ∙ put_alone (has_id id) row left same gone put.free))
  | inr other ↦ subst (λ b. IsMarked b id old new) (sym other) (
      ap (under id) put.rows ∙ (filter_put (has_id id) (Int put.number ∷ w ∷ first_row) _ other
      put.free
      ∙ filter_within (has_id id) (λ r. not (is_of w r)) old
      (λ r h own. elim (cases_Bool (is_of w r)) [
        | inl of ↦ absurd (false≢true (sym other ∙ own_only w id r of own))
        | inr stays ↦ ap not stays
      ])))
]

-- what is put into the table of terms leaves a store, and the other tables as they were
pub record OnlyTerms (old new : Database) : Type 0 where
  pub store : IsStore new
  pub auctions : new.trees 1 ≡ old.trees 1
  pub seals : new.trees 3 ≡ old.trees 3

puts_terms : {S : Type 0} (g : Ghosts S) (old new : Held S) (w : Value) → IsStore (state g old).now
    → Ran g keep_terms (w ∷ first_row) old new
    → OnlyTerms (state g old).now (state g new).now
    × PutsRow (w ∷ first_row) (filter (λ r. not (is_of w r)) ((state g old).now.trees 6))
    ((state g new).now.trees 6)
puts_terms g old new w store ran =
    let params = w ∷ first_row in
    let before = (state g old).now.trees 6 in
    let run = wrote g old new store keep_terms params _ keep_terms_is ran in
    let done = replaces store_schema 3 (placed terms 6) refl (λ keys db edit. refl) (state g old)
    (state g new) store.schema _ params run.0
    (is_of w) refl (λ n. rw (cast_int n, cast_int (pos 1), cast_int (pos 0)) refl)
    (λ n r. subst (λ (k : Key). ((equal k.collation (column r 1) w && true) || false) ≡ is_of w r)
    (sym first_key-plain) (or_false _ ∙ and_true _))
    terms_terms 4 refl refl (mended_is w) (rw (cast_null, cast_int (pos 1), cast_int (pos 0)) refl)
    store.terms run.1 in
    let heads : (state g new).now.trees 1 ≡ (state g old).now.trees 1 =
    done.0.tables.1.0 (unlike 1 6 refl) in
    let rows : (state g new).now.trees 3 ≡ (state g old).now.trees 3 =
    done.0.tables.1.1.0 (unlike 3 6 refl) in (
      record {
        store = record {
          schema = done.0.schema;
          auctions = subst IsTableOfRows (sym heads) store.auctions;
          terms = table_after_put params (filter (λ r. not (is_of w r)) before) _
              (table_after_delete _ before store.terms) done.1;
          seals = subst IsTableOfRows (sym rows) store.seals;
        };
        auctions = heads;
        seals = rows;
      },
      done.1,
    )

-- the row of a query shows this id
abbrev pub names : List ℕ → Row → Bool
names id row = is_eq (value_cmp (column row 0) (Blob id))

-- each id that was shown has terms of version 1, and every other id has those that it had
pub adds_terms : {S : Type 0} (g : Ghosts S) (ids : List Row) (old new : Held S)
    → IsStore (state g old).now → AddsTerms g ids old new
    → OnlyTerms (state g old).now (state g new).now
    × ((id : List ℕ) → IsMarked (list_any (names id) ids) id ((state g old).now.trees 6)
    ((state g new).now.trees 6))
adds_terms g [] old new store same =
    let is : (state g new).now ≡ (state g old).now = ap (λ h. (state g h).now) same in (
      record {
        store = subst IsStore (sym is) store;
        auctions = ap (λ (d : Database). d.trees 1) is;
        seals = ap (λ (d : Database). d.trees 3) is;
      },
      λ id. ap (λ (d : Database). under id (d.trees 6)) is,
    )
adds_terms g (row ∷ rows) old new store it =
    let mid = it.0 in
    let one = puts_terms g old mid (bound_value (column row 0)) store it.1 in
    let rest = adds_terms g rows mid new one.0.store it.2 in (
      record {
        store = rest.0.store;
        auctions = rest.0.auctions ∙ one.0.auctions;
        seals = rest.0.seals ∙ one.0.seals;
      },
      λ id. then_marked (names id row) (list_any (names id) rows) id _ _ _
          (subst (λ b. IsMarked b id ((state g old).now.trees 6) ((state g mid).now.trees 6))
          (bound_id (column row 0) id) (marks _ _ _ one.1 id)) (rest.1 id),
    )
