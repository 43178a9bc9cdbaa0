-- The seals of one id have positions, and no two have the same.
use Rattle.std.proofs.Common.{◌≡◌, ℕ, Bool, true, false, not, List, [], ◌∷◌, map, refl, sym, subst, ◌∙◌, inl, inr, Less, Equal, is_eq}
use Rattle.std.specs.Prelude.{◌&&◌}
use Rattle.std.specs.List.{AllByRecursion, IsDistinct}
use Rattle.std.proofs.lemmas.Bool.{cases_Bool, and_parts, and_from, false≢true}
use Rattle.sqlite_value.specs.declared.value.Value.{Value}
use Rattle.sqlite_value.specs.declared.value.Value.TheVariants.{Null, Int, Blob}
use Rattle.sqlite_value.specs.declared.keys.Key.{Key}
use Rattle.sqlite_value.specs.declared.keys.Collation.TheVariants.{Binary}
use Rattle.sqlite_value.specs.Keys.{plain, ascending}
use Rattle.sqlite_value.specs.Order.{Row, column, value_cmp}
use Rattle.sqlite_value.proofs.KeyLemmas.{first_key-plain, class_tied}
use Rattle.sqlite_trees.specs.Tree.{Trees, IsAscending, rowid}
use Rattle.sqlite_trees.specs.View.{is_int}
use Rattle.sqlite_sql.specs.Ops.{binary, is_null}
use Rattle.sqlite_schema.specs.Rules.{agree, equal, differ, clashes}
use Rattle.sqlite_schema.specs.declared.schema.Constraint.TheVariants.{NotNull, Unique}
use Rattle.sqlite_rules.specs.Lists.{Has}
use Rattle.sqlite_rules.proofs.ListLemmas.{all_has, all_from, some_from, has_filtered}
use Rattle.sqlite_rules.proofs.ProbeLemmas.{has_mapped}
use Rattle.sqlite_catalog.specs.Listing.{IsSound}
use Rattle.sqlite_catalog.proofs.LayoutLemmas.{ascending_filter}
use Rattle.vk_store_laws.specs.Tables.{store_schema}
use Rattle.vk_store_laws.specs.Rows.{has_id, under, seal_columns, IsTableOfRows}
use Rattle.vk_store_laws.proofs.Under.{equal_is}

not_false : (b : Bool) → not b ≡ true → b ≡ false
not_false true h = absurd (let e = h in cc)
not_false false h = refl

-- values that tie are equal, where neither is NULL
pub equal_tied : (k : Key) (v w : Value) → k ≡ ascending Binary → is_null v ≡ false
    → is_null w ≡ false → value_cmp v w ≡ Equal → equal k.collation v w ≡ true
unfolding binary
equal_tied k v w is p q tie = subst (λ (k : Key). equal k.collation v w ≡ true) (sym is)
    (rw (p, q, tie) refl)

pub differs : (v w : Value) → is_null v ≡ false → is_null w ≡ false → value_cmp v w ≡ Less
    → differ v w ≡ true
unfolding binary
differs v w p q below = rw (p, q, below) refl

int_no_null : (v : Value) → is_int v ≡ true → is_null v ≡ false
int_no_null (Int n) h = refl
int_no_null v h = absurd (let e = h in cc)

-- an id is no NULL
id_no_null : (v : Value) (id : List ℕ) → is_eq (value_cmp v (Blob id)) ≡ true → is_null v ≡ false
id_no_null Null id h = absurd (let e = class_tied Null (Blob id) (equal_is _ h) in cc)
id_no_null v id h = refl

-- two seals as they are shown have the same position
abbrev pub same_position : Row → Row → Bool
same_position a b = is_eq (value_cmp (column a 0) (column b 0))

module _ (db : Trees) (sound : IsSound store_schema db) (table : IsTableOfRows (db 3)) (id : List ℕ) where
  pub has_position : (r : Row) → Has (db 3) r → is_null (column r 2) ≡ false
  has_position r h = not_false _
      (and_parts _ _ (and_parts _ _ (all_has _ (db 3) r ((sound.obeys.rules NotNull).1.1.0) h)).1).0

  no_clash : (r : Row) → Has (db 3) r → clashes plain (1 ∷ 2 ∷ []) (db 3) r ≡ false
  no_clash r h = not_false _ (and_parts _ _
      (all_has _ (db 3) r ((sound.obeys.rules Unique).1.1.0) h)).0

  apart : (a b : Row) → Has (db 3) a → Has (db 3) b → has_id id a ≡ true → has_id id b ≡ true
      → value_cmp (rowid a) (rowid b) ≡ Less → is_eq (value_cmp (column a 2) (column b 2)) ≡ true
      → ⊥
  apart a b ha hb ia ib below tie =
      let ids : value_cmp (column a 1) (column b 1) ≡ Equal =
      one_value (column a 1) (column b 1) (equal_is _ ia) (equal_is _ ib) in
      let first : equal (Rattle.sqlite_value.specs.Keys.first_key plain).collation (column a 1)
      (column b 1) ≡ true =
      equal_tied _ _ _ first_key-plain (id_no_null _ id ia) (id_no_null _ id ib) ids in
      let second : equal (Rattle.sqlite_value.specs.Keys.first_key plain).collation (column a 2)
      (column b 2) ≡ true =
      equal_tied _ _ _ first_key-plain (has_position a ha) (has_position b hb) (equal_is _ tie)
      in
      let agrees : agree plain (1 ∷ 2 ∷ []) a (1 ∷ 2 ∷ []) b ≡ true =
      and_from _ _ first (and_from _ _ second refl) in
      let rowids : differ (rowid a) (rowid b) ≡ true =
      differs _ _ (int_no_null _ (all_has _ (db 3) a table.1 ha))
      (int_no_null _ (all_has _ (db 3) b table.1 hb)) below in
      let clash : clashes plain (1 ∷ 2 ∷ []) (db 3) b ≡ true =
      some_from (λ other. agree plain (1 ∷ 2 ∷ []) other (1 ∷ 2 ∷ []) b
      && differ (rowid other) (rowid b)) (db 3) a ha (and_from _ _ agrees rowids) in
      false≢true (sym (no_clash b hb) ∙ clash)
    where
      one_value : (v w : Value) → value_cmp v (Blob id) ≡ Equal → value_cmp w (Blob id) ≡ Equal
          → value_cmp v w ≡ Equal
      one_value v w p q = Rattle.sqlite_value.proofs.OrderLemmas.value_cmp_total.congr v (Blob id) w
          p ∙ Rattle.std.proofs.lemmas.Cmp.tied_back
          Rattle.sqlite_value.proofs.OrderLemmas.value_cmp_total w (Blob id) q

  distinct_in : (rows : List Row) → IsAscending (λ a b. value_cmp (rowid a) (rowid b) ≡ Less) rows
      → ((r : Row) → Has rows r → Has (db 3) r × (has_id id r ≡ true))
      → IsDistinct same_position (map seal_columns rows)
  unfolding IsDistinct
  distinct_in [] up own = tt
  distinct_in (r ∷ rows) up own = (
    all_from (λ y. same_position (seal_columns r) y ≡ false) (map seal_columns rows) (λ y h.
        let from = has_mapped seal_columns rows y h in
        let here = own r (inl refl) in
        let there = own from.0 (inr from.1) in
        subst (λ z. same_position (seal_columns r) z ≡ false) (sym from.2)
        (elim (cases_Bool (is_eq (value_cmp (column r 2) (column from.0 2)))) [
          | inl tie ↦ absurd (apart r from.0 here.0 there.0 here.1 there.1
              (all_has _ rows from.0 up.0 from.1) tie)
          | inr other ↦ other
        ])),
    distinct_in rows up.1 (λ x h. own x (inr h)),
  )

  -- no two of the seals have one position
  pub positions_differ : IsDistinct same_position (map seal_columns (under id (db 3)))
  positions_differ = distinct_in (under id (db 3)) (ascending_filter _ (has_id id) (db 3) table.0)
      (λ r h. has_filtered (has_id id) (db 3) r h)

  -- each has a position
  pub positions_are : AllByRecursion (λ shown. is_null (column shown 0) ≡ false)
      (map seal_columns (under id (db 3)))
  positions_are = all_from _ (map seal_columns (under id (db 3))) (λ y h.
      let from = has_mapped seal_columns (under id (db 3)) y h in
      subst (λ z. is_null (column z 0) ≡ false) (sym from.2)
      (has_position from.0 (has_filtered (has_id id) (db 3) from.0 from.1).0))
