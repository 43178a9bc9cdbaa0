-- The matches of a query on one table.
use Rattle.std.proofs.Common.{◌≡◌, ℕ, Bool, true, false, cond, List, [], ◌∷◌, ◌++◌, map, filter, flat_map, refl, ap, sym, ◌∙◌}
use Rattle.std.specs.Prelude.{Some}
use Rattle.std.specs.List.{list_all}
use Rattle.std.specs.Ordering.{is_eq}
use Rattle.sqlite_value.specs.declared.value.Value.{Value}
use Rattle.sqlite_value.specs.declared.value.Value.TheVariants.{Null, Int, Real, Text, Blob}
use Rattle.sqlite_value.specs.declared.keys.Collation.TheVariants.{Binary}
use Rattle.sqlite_value.specs.Order.{Row, value_cmp}
use Rattle.sqlite_value.proofs.OrderLemmas.{value_cmp-Null}
use Rattle.sqlite_trees.specs.Tree.{Trees}
use Rattle.sqlite_trees.proofs.ListLemmas.{flat_map_same_on, filter_as_flat_map}
use Rattle.sqlite_sql.specs.declared.ops.BinaryOp.TheVariants.{Compare}
use Rattle.sqlite_sql.specs.declared.ops.CompareOp.TheVariants.{Eq}
use Rattle.sqlite_sql.specs.Ops.{binary, is_true, from_truth}
use Rattle.sqlite_sql.specs.Term.{Term, holds}
use Rattle.sqlite_sql.specs.Query.{matches_as, inner, end}

pub keep_or : {A B : Type 0} (p : A → Bool) (f : A → B) (xs : List A)
    → flat_map (λ x. cond (p x) (f x ∷ []) []) xs ≡ map f (filter p xs)
keep_or p f [] = refl
keep_or p f (x ∷ xs) =
    elim (p x) as (λ b. cond b (f x ∷ []) [] ++ flat_map (λ y. cond (p y) (f y ∷ []) []) xs
    ≡ map f (cond b (x ∷ filter p xs) (filter p xs)))
    [ true ↦ ap (λ l. f x ∷ l) (keep_or p f xs) | false ↦ keep_or p f xs ]

pub filter_same : {A : Type 0} (p q : A → Bool) → ((x : A) → p x ≡ q x) → (xs : List A)
    → filter p xs ≡ filter q xs
filter_same p q same xs = filter_as_flat_map p xs
    ∙ (flat_map_same_on _ _ (λ x. ap (λ b. cond b (x ∷ []) []) (same x)) xs
    ∙ sym (filter_as_flat_map q xs))

pub matches_are : (lost : Value) (db : Trees) (params : Row) (tree : ℕ) (terms : List Term)
    → matches_as lost db terms (inner tree end) (params ∷ [])
    ≡ map (λ r. params ∷ r ∷ []) (filter (λ r. list_all (holds (params ∷ r ∷ [])) terms) (db tree))
matches_are lost db params tree terms =
    keep_or (λ r. list_all (holds (params ∷ r ∷ [])) terms) (λ r. params ∷ r ∷ []) (db tree)

pub told : (b : Bool) → is_true (from_truth (Some b)) ≡ b
told true = refl
told false = refl

-- SQL's test of an id
pub is_id : (v : Value) (id : List ℕ)
    → is_true (binary (Compare Eq Binary) v (Blob id)) ≡ is_eq (value_cmp v (Blob id))
unfolding binary
is_id Null id = sym (ap is_eq (value_cmp-Null (Blob id)))
is_id (Int n) id = told _
is_id (Real x) id = told _
is_id (Text t) id = told _
is_id (Blob b) id = told _
