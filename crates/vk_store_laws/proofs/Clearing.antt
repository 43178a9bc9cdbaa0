-- Which seals stand once the others are dropped.
use Rattle.std.proofs.Common.{◌≡◌, ◌≤◌, ℕ, zero, suc, ◌+◌, pos, Bool, true, false, not, List, [], ◌∷◌, map, filter, take, length, refl, ap, sym, subst, ◌∙◌, arith, Ordering, Less, Equal, Greater, is_eq, int_cmp}
use Rattle.std.specs.Prelude.{Some, ◌&&◌, IsPermutation}
use Rattle.std.specs.List.{AllByRecursion, IsDistinct}
use Rattle.std.specs.Ordering.{is_lt, is_le, is_ge, ordering_reverse}
use Rattle.std.proofs.lemmas.Bool.{and_from}
use Rattle.std.proofs.lemmas.Bool.Decides.{nat_tests}
use Rattle.std.proofs.lemmas.Cmp.{tied_back}
use Rattle.std.proofs.lemmas.List.Sorted.{IsPermutation-trans}
use Rattle.std.proofs.lemmas.Map.Keys.{IsDistinct-IsPermutation}
use Rattle.sqlite_value.specs.declared.value.Value.{Value}
use Rattle.sqlite_value.specs.declared.value.Value.TheVariants.{Int}
use Rattle.sqlite_value.specs.declared.keys.Collation.TheVariants.{Binary}
use Rattle.sqlite_value.specs.Order.{Row, column, value_cmp}
use Rattle.sqlite_value.proofs.OrderLemmas.{value_cmp_total, value_cmp-Int}
use Rattle.sqlite_trees.specs.Tree.{IsAscending}
use Rattle.sqlite_trees.proofs.ListLemmas.{filter_none, filter-map, filter_same, IsPermutation-filter, all-permutation, IsPermutation-same}
use Rattle.sqlite_sql.specs.Ops.{binary, unary, is_null, is_true, from_truth, truth, not3, and3}
use Rattle.sqlite_sql.specs.declared.ops.BinaryOp.TheVariants.{Compare, And}
use Rattle.sqlite_sql.specs.declared.ops.CompareOp.TheVariants.{Ge, Le}
use Rattle.sqlite_sql.specs.declared.ops.UnaryOp.TheVariants.{ToNumeric, Not}
use Rattle.sqlite_rules.proofs.ListLemmas.{all_has, all_from, has_filtered}
use Rattle.sqlite_catalog.proofs.ListFacts.{filter_swap}
use Rattle.vk_rows.specs.declared.texts.SealTexts.{SealTexts}
use Rattle.vk_rows.specs.Columns.{ShowSeals}
use Rattle.vk_store_laws.specs.Rows.{has_id, under, seal_columns}
use Rattle.vk_store_laws.proofs.Selects.{is_id}
use Rattle.vk_store_laws.proofs.Finds.{NotBelow}
use Rattle.vk_store_laws.proofs.Distinct.{same_position}
use Rattle.vk_store_laws.proofs.Keeping.{goes}

-- SQL's `v NOT BETWEEN 1 AND k`
abbrev pub behind : ℕ → Value → Bool
behind k v = is_true (unary Not
    (binary And (binary (Compare Ge Binary) v (Int (pos 1)))
    (binary (Compare Le Binary) v (unary ToNumeric (Int (pos k))))))

both_tests : (a b : Bool) → is_true
    (from_truth (not3 (truth (from_truth
    (and3 (truth (from_truth (Some a))) (truth (from_truth (Some b)))))))) ≡ not (a && b)
both_tests true true = refl
both_tests true false = refl
both_tests false true = refl
both_tests false false = refl

behind_is : (k : ℕ) (v : Value) → is_null v ≡ false
    → behind k v ≡ not (is_ge (value_cmp v (Int (pos 1))) && is_le (value_cmp v (Int (pos k))))
unfolding binary unary
behind_is k v p = rw p (both_tests _ _)

and_false : (a : Bool) → a && false ≡ false
and_false true = refl
and_false false = refl

ge_one : (a : ℕ) → is_ge (int_cmp (pos (a + 1)) (pos 1)) ≡ true
ge_one a = grind (arith, nat_tests)

le_at : (a b : ℕ) → a ≤ b → is_le (int_cmp (pos a) (pos b)) ≡ true
le_at a b low = grind (arith, nat_tests, low)

-- a position up to k stays
within_stays : (k at : ℕ) → at + 1 ≤ k → behind k (Int (pos (at + 1))) ≡ false
within_stays k at low =
    behind_is k (Int (pos (at + 1))) refl
    ∙ ap not (and_from _ _ (ap is_ge (value_cmp-Int (pos (at + 1)) (pos 1)) ∙ ge_one at)
    (ap is_le (value_cmp-Int (pos (at + 1)) (pos k)) ∙ le_at (at + 1) k low))

above_goes : (k : ℕ) (v : Value) → is_null v ≡ false → value_cmp (Int (pos k)) v ≡ Less
    → behind k v ≡ true
above_goes k v p below =
    let greater : value_cmp v (Int (pos k)) ≡ Greater = value_cmp_total.antisymm v (Int (pos k))
    ∙ ap ordering_reverse below in
    behind_is k v p ∙ (ap (λ o. not (is_ge (value_cmp v (Int (pos 1))) && is_le o)) greater
    ∙ ap not (and_false _))

zero_one : value_cmp (Int (pos 0)) (Int (pos 1)) ≡ Less
zero_one = value_cmp-Int (pos 0) (pos 1)

all_go : (v : Value) → is_null v ≡ false → behind 0 v ≡ true
all_go v p = behind_is 0 v p ∙ go (value_cmp v (Int (pos 0))) refl
  where
    go : (o : Ordering) → value_cmp v (Int (pos 0)) ≡ o
        → not (is_ge (value_cmp v (Int (pos 1))) && is_le (value_cmp v (Int (pos 0)))) ≡ true
    go Less e = ap (λ o. not (is_ge o && is_le (value_cmp v (Int (pos 0)))))
        (value_cmp_total.trans v (Int (pos 0)) (Int (pos 1)) e zero_one)
    go Equal e = ap (λ o. not (is_ge o && is_le (value_cmp v (Int (pos 0)))))
        (value_cmp_total.congr v (Int (pos 0)) (Int (pos 1)) e ∙ zero_one)
    go Greater e = ap (λ o. not (is_ge (value_cmp v (Int (pos 1))) && is_le o)) e
        ∙ ap not (and_false _)

abbrev pub stays : ℕ → Row → Bool
stays k shown = not (behind k (column shown 0))

abbrev pub Above : Row → Row → Type 0
Above a b = value_cmp (column a 0) (column b 0) ≡ Less

first_stay : (before n k : ℕ) → k ≡ before + n → (order : List Row) (texts : List SealTexts)
    → AllByRecursion (λ c. is_null (column c 0) ≡ false) order → IsAscending Above order
    → AllByRecursion (λ c. behind before (column c 0) ≡ true) order → n ≤ length texts
    → ShowSeals before (take n order) (take n texts) → filter (stays k) order ≡ take n order
first_stay before zero k is order texts full up past low shown =
    let same : k ≡ before = omega (arith, is) in
    filter_none (stays k) order
    (all_from _ order (λ c h.
    ap not (ap (λ n. behind n (column c 0)) same ∙ all_has _ order c past h)))
first_stay before (suc n) k is [] texts full up past low shown = refl
first_stay before (suc n) k is (x ∷ order) [] full up past low shown = absurd (omega (arith, low))
first_stay before (suc n) k is (x ∷ order) (text ∷ texts) full up past low shown =
    let position : column x 0 ≡ Int (pos (before + 1)) = shown.0.position in
    let here : stays k x ≡ true = ap (λ v. not (behind k v)) position
    ∙ ap not (within_stays k before (omega (arith, is))) in
    let beyond = all_from (λ c. behind (before + 1) (column c 0) ≡ true) order
    (λ c h. above_goes (before + 1) (column c 0) (all_has _ order c full.1 h)
    (subst (λ v. value_cmp v (column c 0) ≡ Less) position (all_has _ order c up.0 h))) in
    let rest = first_stay (before + 1) n k (omega (arith, is)) order texts full.1 up.1 beyond
    (omega (arith, low)) shown.1 in
    rw here (ap (λ more. x ∷ more) rest)

pub strict : (order : List Row) → IsAscending NotBelow order → IsDistinct same_position order
    → IsAscending Above order
unfolding IsDistinct
strict [] up apart = tt
strict (x ∷ order) up apart = (
  all_from (Above x) order
      (λ y h. less _ _ (all_has _ order y up.0 h) (all_has _ order y apart.0 h)),
  strict order up.1 apart.1,
)
  where
    less : (v w : Value) → is_lt (value_cmp w v) ≡ false → is_eq (value_cmp v w) ≡ false
        → value_cmp v w ≡ Less
    less v w p q = go (value_cmp v w) refl
      where
        go : (o : Ordering) → value_cmp v w ≡ o → value_cmp v w ≡ Less
        go Less e = e
        go Equal e = absurd (let f = ap is_eq e in cc)
        go Greater e = absurd (let f =
            ap is_lt (value_cmp_total.antisymm w v ∙ ap ordering_reverse e) in cc)

pub flips : (a b : Row) → same_position a b ≡ same_position b a
flips a b = Rattle.std.specs.Cmp.both_ways _ _
    (λ h. ap is_eq (tied_back value_cmp_total _ _ (Rattle.vk_store_laws.proofs.Under.equal_is _ h)))
    (λ h. ap is_eq (tied_back value_cmp_total _ _ (Rattle.vk_store_laws.proofs.Under.equal_is _ h)))

-- the seals that stand are the first of those that were found
pub stand_of : (id : List ℕ) (standing : ℕ) (rows order : List Row) (texts : List SealTexts)
    → IsPermutation (map seal_columns (under id rows)) order → IsAscending NotBelow order
    → IsDistinct same_position (map seal_columns (under id rows))
    → AllByRecursion (λ shown. is_null (column shown 0) ≡ false) (map seal_columns (under id rows))
    → standing ≤ length texts → ShowSeals 0 (take standing order) (take standing texts)
    → IsPermutation (map seal_columns (under id (filter (λ r. not (goes id standing r)) rows)))
    (take standing order)
stand_of id standing rows order texts same up apart full low shown =
    let swap = filter_swap (has_id id) (λ r. not (goes id standing r)) rows in
    let tests = filter_same (λ r. not (goes id standing r)) (λ r. stays standing (seal_columns r))
    (under id rows) (all_from _ (under id rows)
    (λ r h. ap not (only_behind id standing r (has_filtered (has_id id) rows r h).1))) in
    let mapped = sym (filter-map (stays standing) seal_columns (under id rows)) in
    let left : map seal_columns (under id (filter (λ r. not (goes id standing r)) rows))
    ≡ filter (stays standing) (map seal_columns (under id rows)) =
    ap (map seal_columns) (swap ∙ tests) ∙ mapped in
    let in_order = all-permutation (λ c. is_null (column c 0) ≡ false) _ order same full in
    let above = strict order up (IsDistinct-IsPermutation same_position flips _ order same apart) in
    let first = first_stay 0 standing standing (omega arith) order texts in_order above
    (all_from _ order (λ c h. all_go (column c 0) (all_has _ order c in_order h))) low shown in
    IsPermutation-trans _ (filter (stays standing) order) _
    (IsPermutation-trans _ _ _ (IsPermutation-same _ _ left)
    (IsPermutation-filter (stays standing) _ order same)) (IsPermutation-same _ _ first)
  where
    only_behind : (id : List ℕ) (k : ℕ) (r : Row) → has_id id r ≡ true
        → goes id k r ≡ behind k (column r 2)
    only_behind id k r own = rw (is_id (column r 1) id ∙ own)
        (Rattle.vk_store_laws.proofs.Finds.and_true _)
