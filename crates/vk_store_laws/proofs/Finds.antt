-- What the two queries of `get` find.
use Rattle.std.proofs.Common.{◌≡◌, ◌≤◌, ◌<◌, suc, length, get_or, arith, Equal, ℕ, Bool, true, false, List, [], ◌∷◌, map, filter, take, refl, ap, sym, subst, ◌∙◌, Result, Ok, Err, None, IfOk}
use Rattle.std.specs.Prelude.{◌&&◌, IsPermutation}
use Rattle.std.specs.List.{list_all}
use Rattle.std.specs.Ordering.{is_lt, ordering_then}
use Rattle.std.specs.List.{AllByRecursion}
use Rattle.std.proofs.lemmas.List.Elements.{recursion_from_All}
use Rattle.std.proofs.lemmas.List.Sorted.{sorted_far, ranks_by}
use Rattle.sqlite_value.proofs.OrderLemmas.{then-Equal}
use Rattle.sqlite_trees.specs.Tree.{IsAscending, Trees}
use Rattle.sqlite_rules.proofs.ListLemmas.{all_has, all_from}
use Rattle.sqlite_rules.proofs.ProbeLemmas.{has_mapped}
use Rattle.sqlite_sql.proofs.QueryLemmas.{key_cmp_total}
use Rattle.std.proofs.lemmas.List.Sorted.{IsPermutation-map}
use Rattle.sqlite_value.specs.declared.value.Value.TheVariants.{Null, Blob}
use Rattle.sqlite_value.specs.Order.{Row, column, value_cmp}
use Rattle.sqlite_trees.proofs.ListLemmas.{map-map, all-permutation}
use Rattle.sqlite_sql.specs.Term.{holds}
use Rattle.sqlite.specs.Term.{Term}
use Rattle.sqlite_sql.specs.Program.{overlay}
use Rattle.sqlite_sql.specs.Query.{Output, output, output_cmp, IsAnswer}
use Rattle.sqlite_resolve.specs.declared.compiled.Compiled.{Compiled}
use Rattle.sqlite_resolve.specs.declared.error.CompileError.{CompileError}
use Rattle.sqlite.specs.Clock.{timed}
use Rattle.sqlite.specs.Listing.{understood}
use Rattle.sqlite_schema.specs.declared.schema.Schema.{Schema}
use Rattle.sqlite.specs.State.{State, Shown, ShowsRows, IsUnchanged}
use Rattle.sqlite.proofs.Callers.{reads_as, IsPlain}
use Rattle.vk_keeper_sql.specs.Statements.{auction_query as find_auction, terms_query as find_terms, seals_query as find_seals}
use Rattle.vk_store_laws.specs.Tables.{store_schema}
use Rattle.vk_store_laws.specs.Rows.{has_id, under, head_columns, term_columns, seal_columns}
use Rattle.vk_store_laws.proofs.Texts.{of_id, IsQuery, two_query, head_query, rows_query, term_query, find_auction_is, find_terms_is, find_seals_is}
use Rattle.vk_store_laws.proofs.Selects.{matches_are, filter_same, is_id}

pub and_true : (b : Bool) → b && true ≡ b
and_true true = refl
and_true false = refl

pub tests_id : (id : List ℕ) (r : Row)
    → list_all (holds ((Blob id ∷ []) ∷ r ∷ [])) (of_id ∷ []) ≡ has_id id r
tests_id id r = and_true _ ∙ is_id (column r 1) id

pub matches_under : (id : List ℕ) (rows : List Row)
    → filter (λ r. list_all (holds ((Blob id ∷ []) ∷ r ∷ [])) (of_id ∷ [])) rows ≡ under id rows
matches_under id rows = filter_same _ _ (tests_id id) rows

-- a query for at most two of the rows of the id shows two of them
finds_two : (text : List ℕ) (tree : ℕ) (project : List Term) (names : List (List ℕ))
    → IsQuery text (two_query tree project) names
    → ((trees : Trees) → overlay trees [] tree ≡ trees tree)
    → (old new : State) (id : List ℕ) (rows : List Row)
    → old.now.schema ≡ store_schema → Shown text (Blob id ∷ []) old new rows
    → (all : List Row) × IsPermutation
    (map (λ r. (output (two_query tree project) ((Blob id ∷ []) ∷ r ∷ [])).1)
    (under id (old.now.trees tree))) all × (rows ≡ take 2 all)
finds_two text tree project names is here old new id rows has shown =
    let params = Blob id ∷ [] in
    let query = two_query tree project in
    let a : IsAnswer query (overlay old.now.trees []) params rows =
    (reads_as text params old new store_schema has _ is.0.0 is.1 is.0.1 rows shown).answer Null in
    let found = under id (old.now.trees tree) in
    let asked = ap (filter (λ r. list_all (holds (params ∷ r ∷ [])) (of_id ∷ [])))
    (here old.now.trees) ∙ matches_under id (old.now.trees tree) in
    let staged = a.grouped ∙ (matches_are Null (overlay old.now.trees []) params tree (of_id ∷ [])
    ∙ ap (map (λ r. params ∷ r ∷ [])) asked) in
    let kept = a.distinct ∙ (ap (map (output query)) staged
    ∙ map-map (output query) (λ r. params ∷ r ∷ []) found) in
    let shown_rows = ap (map (λ (o : Output). o.1)) kept
    ∙ map-map (λ (o : Output). o.1) (λ r. output query (params ∷ r ∷ [])) found in (
      map (λ (o : Output). o.1) a.ordered,
      subst (λ all. IsPermutation all (map (λ (o : Output). o.1) a.ordered)) shown_rows
          (IsPermutation-map (λ (o : Output). o.1) a.kept a.ordered a.same),
      a.shown,
    )

-- at most two of the rows of the id
pub finds_heads : (old new : State) (id : List ℕ) (rows : List Row) → old.now.schema ≡ store_schema
    → Shown find_auction (Blob id ∷ []) old new rows
    → (all : List Row) × IsPermutation (map head_columns (under id (old.now.trees 1))) all
    × (rows ≡ take 2 all)
finds_heads = finds_two find_auction 1 head_query.project _ find_auction_is (λ trees. refl)

-- and of the rows of its terms
pub finds_terms : (old new : State) (id : List ℕ) (rows : List Row) → old.now.schema ≡ store_schema
    → Shown find_terms (Blob id ∷ []) old new rows
    → (all : List Row) × IsPermutation (map term_columns (under id (old.now.trees 6))) all
    × (rows ≡ take 2 all)
finds_terms = finds_two find_terms 6 term_query.project _ find_terms_is (λ trees. refl)

far_ascending : {X : Type 0} (lt : X → X → Bool) (xs : List X)
    → ((i j : ℕ) (d : X) → i ≤ j → j < length xs → lt (get_or xs j d) (get_or xs i d) ≡ false)
    → IsAscending (λ x y. lt y x ≡ false) xs
far_ascending lt [] far = tt
far_ascending lt (x ∷ xs) far = (
  recursion_from_All (λ y. lt y x ≡ false) xs
      (λ i d low. far 0 (suc i) d (omega arith) (omega (arith, low))),
  far_ascending lt xs (λ i j d up low. far (suc i) (suc j) d (omega (arith, up))
      (omega (arith, low))),
)

ascending_map : {X Y : Type 0} (R : Y → Y → Type 0) (f : X → Y) (xs : List X)
    → IsAscending (λ a b. R (f a) (f b)) xs → IsAscending R (map f xs)
ascending_map R f [] up = tt
ascending_map R f (x ∷ xs) up = (
  all_from (R (f x)) (map f xs)
      (λ y h. let from = has_mapped f xs y h in
      subst (R (f x)) (sym from.2) (all_has _ xs from.0 up.0 from.1)),
  ascending_map R f xs up.1,
)

ascending_on : {X : Type 0} (P : X → Type 0) (R Q : X → X → Type 0)
    → ((a b : X) → P a → P b → R a b → Q a b) → (xs : List X) → AllByRecursion P xs
    → IsAscending R xs → IsAscending Q xs
ascending_on P R Q step [] all up = tt
ascending_on P R Q step (x ∷ xs) all up = (
  all_from _ xs (λ y h. step x y all.0 (all_has P xs y all.1 h) (all_has _ xs y up.0 h)),
  ascending_on P R Q step xs all.1 up.1,
)

-- what a seal's row is sorted by is its position
abbrev IsByPosition : Output → Type 0
IsByPosition o = o.0 ≡ column o.1 0 ∷ []

-- the position of the second isn't below that of the first
abbrev pub NotBelow : Row → Row → Type 0
NotBelow a b = is_lt (value_cmp (column b 0) (column a 0)) ≡ false

by_position : (a b : Output) → IsByPosition a → IsByPosition b
    → is_lt (output_cmp rows_query b a) ≡ false → NotBelow a.1 b.1
by_position a b p q h = ap is_lt (sym (then-Equal (value_cmp (column b.1 0) (column a.1 0))))
    ∙ subst (λ (k : Row). is_lt (ordering_then (value_cmp (column b.1 0) (column k 0)) Equal)
    ≡ false) p (subst (λ (k : Row). is_lt
    (ordering_then (value_cmp (column k 0) (column a.0 0)) Equal) ≡ false) q h)

-- at most 65 of the seals of the id, by their positions
pub finds_seals : (old new : State) (id : List ℕ) (rows : List Row) → old.now.schema ≡ store_schema
    → Shown find_seals (Blob id ∷ []) old new rows
    → (all : List Row) × IsPermutation (map seal_columns (under id (old.now.trees 3))) all
    × (rows ≡ take 65 all) × IsAscending NotBelow all
finds_seals old new id rows has shown =
    let params = Blob id ∷ [] in
    let got = reads_as find_seals params old new store_schema has _ find_seals_is.0.0
    find_seals_is.1 find_seals_is.0.1 rows shown in
    let a : IsAnswer rows_query (overlay old.now.trees []) params rows = got.answer Null in
    let staged = a.grouped ∙ (matches_are Null (overlay old.now.trees []) params 3 (of_id ∷ [])
    ∙ ap (map (λ r. params ∷ r ∷ [])) (matches_under id (old.now.trees 3))) in
    let kept = a.distinct ∙ (ap (map (output rows_query)) staged
    ∙ map-map (output rows_query) (λ r. params ∷ r ∷ []) (under id (old.now.trees 3))) in
    let shown_rows = ap (map (λ (o : Output). o.1)) kept
    ∙ map-map (λ (o : Output). o.1) (λ r. output rows_query (params ∷ r ∷ []))
    (under id (old.now.trees 3)) in
    let outputs = λ (r : Row). output rows_query (params ∷ r ∷ []) in
    let placed : AllByRecursion IsByPosition a.ordered =
    all-permutation IsByPosition (map outputs (under id (old.now.trees 3))) a.ordered
    (subst (λ all. IsPermutation all a.ordered) kept a.same)
    (all_from IsByPosition (map outputs (under id (old.now.trees 3)))
    (λ o h. let from = has_mapped outputs (under id (old.now.trees 3)) o h in
    subst IsByPosition (sym from.2) refl)) in
    let far = far_ascending (λ x y. is_lt (output_cmp rows_query x y)) a.ordered
    (sorted_far _ (ranks_by (key_cmp_total (map (λ k. k.1) rows_query.order) 0)
    (λ (o : Output). o.0)) a.ordered a.sorted) in
    let up = ascending_on IsByPosition _ (λ x y. NotBelow x.1 y.1) by_position a.ordered placed far
    in (
      map (λ (o : Output). o.1) a.ordered,
      subst (λ all. IsPermutation all (map (λ (o : Output). o.1) a.ordered)) shown_rows
          (IsPermutation-map (λ (o : Output). o.1) a.kept a.ordered a.same),
      a.shown,
      ascending_map NotBelow (λ (o : Output). o.1) a.ordered up,
    )

never_both : (r : Result Compiled CompileError) (c : Compiled) → IsPlain r → r ≡ Ok c
    → c.returning ≡ None
never_both r c plain is = (subst IsPlain is plain).0

-- a query leaves all as it was
pub shown_leaves : (schema : Schema) (sql : List ℕ) (params : Row) (old new : State)
    (rows : List Row) → old.now.schema ≡ schema → IsPlain (understood schema sql)
    → Shown sql params old new rows → IsUnchanged old new
unfolding Shown
shown_leaves schema sql params old new rows has plain h =
    let none = never_both (understood old.now.schema sql) h.0
    (subst (λ s. IsPlain (understood s sql)) (sym has) plain) h.1.is in
    (subst (ShowsRows old new sql h.0 (timed params h.0.formats h.1.now) rows) none h.2).3

pub if_ok : {T E : Type 0} {P Q : T → Type 0} (r : Result T E) → ((t : T) → P t → Q t) → IfOk r P
    → IfOk r Q
if_ok (Ok t) step h = step t h
if_ok (Err e) step h = tt
