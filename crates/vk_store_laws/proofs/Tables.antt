-- What a DELETE, an UPDATE and an INSERT leave of one table.
use Rattle.std.proofs.Common.{◌≡◌, ◌≢◌, ◌⊎◌, inl, inr, ℕ, ℤ, Bool, true, false, cond, not, List, [], ◌∷◌, map, filter, length, refl, ap, sym, subst, ◌∙◌, Ok, Err, Result, is_eq}
use Rattle.std.specs.Prelude.{None, Some, ◌&&◌, ◌/◌, slice_get, IsPermutation, MatchBool, if◌then◌else◌}
use Rattle.std.specs.List.{AllByRecursion, list_all, list_any}
use Rattle.std.proofs.lemmas.List.Sorted.{IsPermutation-map}
use Rattle.sqlite_value.specs.declared.value.Value.{Value}
use Rattle.sqlite_value.specs.declared.value.Value.TheVariants.{Null, Int}
use Rattle.sqlite_value.specs.Order.{Row, value_cmp}
use Rattle.sqlite_value.specs.Keys.{plain}
use Rattle.sqlite_value.specs.declared.keys.Key.{Key}
use Rattle.sqlite_value.proofs.KeyLemmas.{first_key-plain}
use Rattle.sqlite_value.specs.declared.keys.Collation.TheVariants.{Binary}
use Rattle.sqlite_trees.specs.Tree.{Trees, rowid, put_row}
use Rattle.sqlite_trees.proofs.ListLemmas.{map-map}
use Rattle.sqlite_sql.specs.Ops.{unary, binary, is_true}
use Rattle.sqlite_sql.specs.declared.ops.BinaryOp.TheVariants.{Compare}
use Rattle.sqlite_sql.specs.declared.ops.CompareOp.TheVariants.{Eq}
use Rattle.sqlite_schema.specs.Rules.{agree, equal}
use Rattle.sqlite_rules.specs.Lists.{Has}
use Rattle.sqlite_rules.proofs.ListLemmas.{some_from, all_has, all_from}
use Rattle.sqlite_rules.proofs.ProbeLemmas.{mapped_has, has_mapped}
use Rattle.sqlite_catalog.proofs.ListFacts.{filter_all}
use Rattle.sqlite_schema.specs.declared.command.Conflict.TheVariants.{Replace}
use Rattle.sqlite_rules.proofs.PlaceLemmas.{next_is_free}
use Rattle.std.proofs.lemmas.Bool.{cases_Bool, false≢true}
use Rattle.sqlite_sql.specs.Term.{Term, holds, col}
use Rattle.sqlite_sql.specs.Program.{overlay}
use Rattle.sqlite_sql.specs.Query.{Output, output, IsAnswer}
use Rattle.sqlite_schema.specs.declared.schema.Kind.TheVariants.{Integer}
use Rattle.sqlite_schema.specs.declared.schema.Keys.{Keys}
use Rattle.sqlite_schema.specs.declared.schema.Table.{Table}
use Rattle.sqlite_schema.specs.declared.schema.Schema.{Schema}
use Rattle.sqlite_schema.specs.declared.command.Command.{Command}
use Rattle.sqlite_schema.specs.declared.program.Program.{Program}
use Rattle.sqlite_schema.specs.declared.command.Command.TheVariants.{Delete, Insert, InsertOr, Update}
use Rattle.sqlite_schema.specs.declared.command.Source.TheVariants.{Values}
use Rattle.sqlite_rules.specs.Cast.{cast, cast_row}
use Rattle.sqlite_rules.specs.declared.error.Rowids.TheVariants.{Given, Chosen, Above}
use Rattle.sqlite_rules.specs.Edit.{Edit, id_in, edit_of, edited, are_fresh, is_taken, next_rowid, taken_by, numbered, with_rowid}
use Rattle.sqlite_rules.specs.Action.{works}
use Rattle.sqlite_rules.specs.Keys.{shares, conflicts, AreConflicts}
use Rattle.sqlite_rules.specs.Calls.{ids_of}
use Rattle.sqlite.specs.Does.{Tally, Does, AtPlace, OnRows}
use Rattle.sqlite.specs.Rows.{Written, Edited, Task, Puts, Clears, Tries, TriesEach, mended, stamped, count_of}
use Rattle.sqlite.specs.Effect.{Database, value_rows}
use Rattle.sqlite.specs.State.{State, mode_of, Writes}
use Rattle.sqlite.proofs.Callers.{one_step}
use Rattle.vk_store_laws.specs.Rows.{IsTableOfRows, OnlyTable, PutsRow}
use Rattle.vk_store_laws.proofs.Texts.{plain_query}
use Rattle.vk_store_laws.proofs.Selects.{matches_are, told}
use Rattle.vk_store_laws.proofs.Removes.{left_are, left_by_ids}

-- a part that gave a value did not stop on the way
pub went : {B E R : Type 0} {b : B} {Stops : E → Type 0}
    → ((stop : E) × Stops stop × (Ok b ≡ Err stop)) ⊎ R → R
went (inl stopped) = absurd (let e = stopped.2 in cc)
went (inr on) = on

pub same_value : {B E : Type 0} {a b : B} → ◌≡◌ {A = Result B E} (Ok a) (Ok b) → a ≡ b
same_value e = cc

either : (b : Bool) (x : Value) → cond b x x ≡ x
either true x = refl
either false x = refl

pub cast_null : cast Integer Null ≡ Null
unfolding unary
cast_null = either _ Null

pub cast_int : (n : ℤ) → cast Integer (Int n) ≡ Int n
unfolding unary
cast_int n = either _ (Int n)

is_free : (b : Bool) → (not b && true) ≡ true → b ≡ false
is_free true h = absurd (let e = h in cc)
is_free false h = refl

tied_numbers : (v : Value) (n : ℤ) → is_true (binary (Compare Eq Binary) v (Int n)) ≡ true
    → is_eq (value_cmp v (Int n)) ≡ true
unfolding binary
tied_numbers Null n h = absurd (let e = h in cc)
tied_numbers v n h = sym (told _) ∙ h

and_true_left : (b : Bool) → (b && true) ≡ true → b ≡ true
and_true_left true h = refl
and_true_left false h = h

uncounts : (b less : Bool) (A B : Type 0) → b ≡ false → MatchBool (if b then less else false) A B
    → B
uncounts true less A B e h = absurd cc
uncounts false less A B e h = h

module _ (schema : Schema) (at : ℕ) (table : Table) (placed : slice_get schema.tables at ≡ Some table)
    (alone : (keys : Keys) (db : Trees) (edit : Edit) → works schema keys 0 edit.table.tree (taken_by db edit) edit.news ≡ [])
    (old new : State) (has : old.now.schema ≡ schema) (text : List ℕ) (params : Row) (count : ℕ) where
  abbrev task_on : Table → Task
  task_on t = record {
    limit = old.step_limit;
    keys = (mode_of old).keys;
    schema = schema;
    table = t;
    params = params;
  }

  -- what a statement did, under this schema
  did : (command : Command) → (w : Writes old new None command text params count)
      → Does old.step_limit (mode_of old) params (record old.now { schema = schema }) text None
      command (Ok (w.tally, new.now))
  did command w = subst (λ s. Does old.step_limit (mode_of old) params
      (record old.now { schema = s }) text None command (Ok (w.tally, new.now))) has w.changed

  -- and what it did on the rows of the table
  ran : (command : Command) (tally : Tally)
      → AtPlace (λ t. OnRows (task_on t) (mode_of old) None command old.now.trees)
      (slice_get schema.tables at) (Ok (tally, new.now))
      → OnRows (task_on table) (mode_of old) None command old.now.trees (Ok (tally, new.now))
  ran command tally = subst (λ o. AtPlace
      (λ t. OnRows (task_on t) (mode_of old) None command old.now.trees) o
      (Ok (tally, new.now))) placed

  abbrev Others : Trees → Trees → Type 0
  Others before after = AllByRecursion
      (λ (other : Table). other.tree ≢ table.tree → after other.tree ≡ before other.tree)
      schema.tables

  -- these are the trees that it left, and no other than that of the table was written
  only : (next : Trees) → new.now.schema ≡ schema → new.now.trees ≡ next
      → Others old.now.trees next → OnlyTable table.tree schema old.now new.now
  only next stays is others =
      record { schema = stays; tables = subst (Others old.now.trees) (sym is) others }

  -- the rows that the test passes are gone, and nothing else
  pub deletes : (terms : List Term) → ((db : Trees) → overlay db [] table.tree ≡ db table.tree)
      → IsTableOfRows (old.now.trees table.tree)
      → Writes old new None (Delete at
      (record { lets = []; body = plain_query table.tree terms (col 1 0 ∷ []) })) text params count
      → OnlyTable table.tree schema old.now new.now
      × (new.now.trees table.tree
      ≡ filter (λ r. not (list_all (holds (params ∷ r ∷ [])) terms)) (old.now.trees table.tree))
  deletes terms seen sorted w =
      let db = old.now.trees in
      let query = plain_query table.tree terms (col 1 0 ∷ []) in
      let p = λ (r : Row). list_all (holds (params ∷ r ∷ [])) terms in
      let command = Delete at (record { lets = []; body = query }) in
      let done = went (ran command w.tally (did command w)) in
      let now = ap (λ (q : Tally × Database). q.1) (same_value (went (went done.2).2).2) in
      let found = went done.1 in
      let wrote = went found.2 in
      let trees : done.0.trees ≡ wrote.0 = ap (λ (it : Written). it.trees) (same_value wrote.2) in
      let edit = edit_of db table (ids_of found.0) Given 0 [] in
      let applied = one_step schema _ db wrote.0 edit (alone (mode_of old).keys db edit) wrote.1 in
      let a : IsAnswer query (overlay db []) params found.0 = found.1.answer Null in
      let staged = a.grouped ∙ (matches_are Null (overlay db []) params table.tree terms
      ∙ ap (λ rows. map (λ r. params ∷ r ∷ []) (filter p rows)) (seen db)) in
      let kept = a.distinct ∙ (ap (map (output query)) staged
      ∙ map-map (output query) (λ r. params ∷ r ∷ []) (filter p (db table.tree))) in
      let ids = λ (o : Output). id_in (rowid o.1) in
      let all = ap (map ids) kept
      ∙ map-map ids (λ r. output query (params ∷ r ∷ [])) (filter p (db table.tree)) in
      let listed : ids_of found.0 ≡ map ids a.ordered =
      ap ids_of a.shown ∙ map-map (λ r. id_in (rowid r)) (λ (o : Output). o.1) a.ordered in
      let same : IsPermutation (map (λ r. id_in (rowid r)) (filter p (db table.tree)))
      (ids_of found.0) =
      subst (λ x. IsPermutation x (ids_of found.0)) all
      (subst (IsPermutation (map ids a.kept)) (sym listed)
      (IsPermutation-map ids a.kept a.ordered a.same)) in
      let left = left_are (db table.tree) sorted.0 sorted.1 p (ids_of found.0) same in
      let is : new.now.trees ≡ wrote.0 = ap (λ (d : Database). d.trees) now ∙ trees in (
        only wrote.0 (ap (λ (d : Database). d.schema) now) is applied.tables,
        ap (λ (t : Trees). t table.tree) is ∙ (applied.rows ∙ left),
      )

  -- an update changes no other table
  pub updates : (program : Program) → Writes old new None (Update at program) text params count
      → OnlyTable table.tree schema old.now new.now
  updates program w =
      let db = old.now.trees in
      let done = went (ran (Update at program) w.tally (did (Update at program) w)) in
      let now = ap (λ (q : Tally × Database). q.1) (same_value (went (went done.2).2).2) in
      let found = went done.1 in
      let wrote = went found.2 in
      let edit = edit_of db table (ids_of found.0) Given 1 found.0 in
      let applied = one_step schema _ db wrote.0 edit (alone (mode_of old).keys db edit) wrote.1 in
      only wrote.0 (ap (λ (d : Database). d.schema) now)
      (ap (λ (d : Database). d.trees) now ∙ ap (λ (it : Written). it.trees) (same_value wrote.2))
      applied.tables

  -- one row is put under a rowid that was free, and nothing else is changed
  pub inserts : (terms : List Term) (width : ℕ) → table.is_counted ≡ false
      → stamped table params ≡ params
      → value_rows params width (length terms / width) terms ≡ (Null ∷ params) ∷ []
      → cast_row table (Null ∷ params) ≡ Null ∷ params
      → Writes old new None (Insert at (Values terms width)) text params count
      → OnlyTable table.tree schema old.now new.now
      × PutsRow params (old.now.trees table.tree) (new.now.trees table.tree)
  inserts terms width uncounted unstamped valued casts w =
      let db = old.now.trees in
      let command = Insert at (Values terms width) in
      let done = went (ran command w.tally (did command w)) in
      let now = ap (λ (q : Tally × Database). q.1) (same_value (went (went done.2).2).2) in
      let given = went done.1 in
      let counter = went given.2 in
      let written = went counter.2 in
      let counted = went written.2 in
      let plain = uncounts table.is_counted _ _ _ uncounted counted.1 in
      let trees : done.0.trees ≡ written.0 = ap (λ (it : Written). it.trees) (same_value counted.2)
      ∙ same_value plain in
      let number = next_rowid (db table.tree) in
      let row = Int number ∷ params in
      let rows : given.0 ≡ (Null ∷ params) ∷ [] =
      given.1.1 ∙ (ap (λ ps. value_rows ps width (length terms / width) terms) unstamped
      ∙ valued) in
      let edit = edit_of db table [] Chosen 0 given.0 in
      let written_plain = subst
      (λ b. Edited schema (mode_of old).keys db
      (edit_of db table [] (if b then Above (count_of counter.0) else Chosen) 0 given.0)
      (Ok written.0)) uncounted written.1 in
      let applied = one_step schema _ db written.0 edit (alone (mode_of old).keys db edit)
      written_plain in
      let news : edit.news ≡ row ∷ [] = ap (λ all. (edit_of db table [] Chosen 0 all).news) rows
      ∙ ap (λ r. numbered Chosen (db table.tree) (r ∷ [])) casts in
      let is : new.now.trees ≡ written.0 = ap (λ (d : Database). d.trees) now ∙ trees in (
        only written.0 (ap (λ (d : Database). d.schema) now) is applied.tables,
        record {
          number = number;
          rows = ap (λ (t : Trees). t table.tree) is
              ∙ (applied.rows ∙ ap (λ all.
              edited db (record { table = table; gone = []; news = all })) news);
          free = is_free _ (subst (λ all. are_fresh (db table.tree) all ≡ true) news applied.fresh);
        },
      )

  -- the rows with the key of the new one are gone, and it is put under a rowid that was free
  module _ (key : Row → Bool) (uncounted : table.is_counted ≡ false) (recasts : (n : ℤ) → cast_row table (Int n ∷ params) ≡ Int n ∷ params)
      (keyed : (n : ℤ) (r : Row) → list_any (shares None table (Int n ∷ params) r) schema.indexes
      ≡ key r) where
    abbrev task : Task
    task = task_on table

    puts : (n : ℤ) (mid : Trees) (one : Written) → Puts task (Int n ∷ params) mid (Ok one)
        → (one.trees table.tree ≡ put_row (Int n ∷ params) (mid table.tree))
        × (is_taken (mid table.tree) (Int n ∷ params) ≡ false) × Others mid one.trees
    puts n mid one h =
        let w = went h in
        let row = Int n ∷ params in
        let edit = edit_of mid table [] Given 0 (row ∷ []) in
        let applied = one_step schema (mode_of old).keys mid w.0 edit
        (alone (mode_of old).keys mid edit) w.1 in
        let news : edit.news ≡ row ∷ [] = ap (λ r. r ∷ []) (recasts n) in
        let is : one.trees ≡ w.0 = ap (λ (it : Written). it.trees) (same_value w.2) in (
          ap (λ (t : Trees). t table.tree) is
              ∙ (applied.rows ∙ ap (λ all.
              edited mid (record { table = table; gone = []; news = all })) news),
          is_free _ (subst (λ all. are_fresh (mid table.tree) all ≡ true) news applied.fresh),
          subst (Others mid) (sym is) applied.tables,
        )

    abbrev number : ℤ
    number = next_rowid (old.now.trees table.tree)

    abbrev row : Row
    row = Int number ∷ params

    abbrev rows : List Row
    rows = old.now.trees table.tree

    no_tie : IsTableOfRows rows → (r : Row) → Has rows r
        → agree plain (0 ∷ []) r (0 ∷ []) row ≡ true → ⊥
    no_tie sorted r h tie =
        let same : is_eq (value_cmp (rowid r) (Int number)) ≡ true = tied_numbers (rowid r) _
        (and_true_left _ (subst
        (λ (k : Key). (equal k.collation (rowid r) (Int number) && true) ≡ true) first_key-plain
        tie)) in
        let taken : is_taken rows row ≡ true =
        some_from (λ y. is_eq (value_cmp (rowid y) (Int number))) rows r h same in
        false≢true (sym (next_is_free Chosen rows params sorted.0 sorted.1) ∙ taken)

    conflicts_key : IsTableOfRows rows → (r : Row) → Has rows r
        → conflicts None schema.indexes table row r ≡ key r
    conflicts_key sorted r h = elim (cases_Bool (agree plain (0 ∷ []) r (0 ∷ []) row)) [
      | inl tie ↦ absurd (no_tie sorted r h tie)
      | inr apart ↦ rw apart (keyed number r)
    ]

    spares_all : (p : Row → Bool) (xs : List Row) → ((r : Row) → Has xs r → p r ≡ true → ⊥)
        → filter (λ r. not (p r)) xs ≡ xs
    spares_all p xs none = filter_all (λ r. not (p r)) xs
        (λ r h. elim (cases_Bool (p r))
        [ inl passes ↦ absurd (none r h passes) | inr fails ↦ ap not fails ])

    -- the rows with the key are gone, the row was put, and no other table was written
    abbrev IsReplaced : Written → Type 0
    IsReplaced one = (mid : List Row) × (mid ≡ filter (λ r. not (key r)) rows)
        × (one.trees table.tree ≡ put_row row mid) × (is_taken mid row ≡ false)
        × Others old.now.trees one.trees

    -- the rows that conflict go first
    clears : IsTableOfRows rows → (found : List Row)
        → AreConflicts None schema.indexes table rows row found → (one : Written)
        → Clears task Replace row old.now.trees found (Ok one) → IsReplaced one
    clears sorted [] all one h =
        let put = puts number old.now.trees one h in (
          rows,
          sym (spares_all key rows
              (λ r has passes. all.complete r has (conflicts_key sorted r has ∙ passes))),
          put.0,
          put.1,
          put.2,
        )
    clears sorted (x ∷ more) all one h =
        let w = went h in
        let db = old.now.trees in
        let ids = ids_of (x ∷ more) in
        let edit = edit_of db table ids Given 0 [] in
        let applied = one_step schema (mode_of old).keys db w.0 edit
        (alone (mode_of old).keys db edit) w.1 in
        let put = puts number w.0 one w.2 in
        let left = left_by_ids (db table.tree) sorted.0 sorted.1 key ids
        (λ id has. let from = has_mapped (λ r. id_in (rowid r)) (x ∷ more) id has in
        let found = all.sound from.0 from.1 in (
          found.0,
          found.1,
          sym (conflicts_key sorted found.0 found.1) ∙ found.2,
          from.2
              ∙ ap (λ r. id_in (rowid r)) found.3,
        ))
        (λ r has passes. mapped_has (λ r. id_in (rowid r)) (x ∷ more) (rowid r ∷ [])
        (all.complete r has (conflicts_key sorted r has ∙ passes))) in (
          w.0 table.tree,
          applied.rows ∙ left,
          put.0,
          put.1,
          all_from _ schema.tables
              (λ other has apart. all_has _ schema.tables other put.2 has apart
              ∙ all_has _ schema.tables other applied.tables has apart),
        )

    tries : IsTableOfRows rows → (one : Written)
        → Tries task Replace [] row old.now.trees (Ok one) → IsReplaced one
    tries sorted one (inl no_rowid) = absurd (let e = no_rowid.1 in cc)
    tries sorted one (inr (None, judged, went_on)) = clears sorted went_on.0 went_on.1 one went_on.2
    tries sorted one (inr (Some why, judged, stopped)) = absurd (let e = stopped in cc)

    pub replaces : (terms : List Term) (width : ℕ) → stamped table params ≡ params
        → value_rows params width (length terms / width) terms ≡ (Null ∷ params) ∷ []
        → mended Replace table (Null ∷ params) ≡ Null ∷ params
        → cast_row table (Null ∷ params) ≡ Null ∷ params → IsTableOfRows (old.now.trees table.tree)
        → Writes old new None (InsertOr at Replace (Values terms width) []) text params count
        → OnlyTable table.tree schema old.now new.now
        × PutsRow params (filter (λ r. not (key r)) (old.now.trees table.tree))
        (new.now.trees table.tree)
    replaces terms width unstamped valued mends casts sorted w =
        let db = old.now.trees in
        let command = InsertOr at Replace (Values terms width) [] in
        let done = went (ran command w.tally (did command w)) in
        let given = went done.1 in
        let counter = went given.2 in
        let tried = went counter.2 in
        let counted = went tried.2 in
        let now = ap (λ (q : Tally × Database). q.1) (same_value (went (went done.2).2).2) in
        let after : done.0.trees ≡ tried.0.0.trees =
        ap (λ (it : Written). it.trees) (same_value counted.2)
        ∙ same_value (uncounts table.is_counted _ _ _ uncounted counted.1) in
        let sources : given.0 ≡ (Null ∷ params) ∷ [] =
        given.1.1 ∙ (ap (λ ps. value_rows ps width (length terms / width) terms) unstamped
        ∙ valued) in
        let each = subst (λ all. TriesEach task Replace [] all (count_of counter.0)
        (record { trees = db; rows = []; last = None }) (Ok tried.0)) sources tried.1 in
        let one = went each in
        let trees : tried.0.0.trees ≡ one.0.trees =
        ap (λ (p : Written × ℤ). p.0.trees) (same_value one.2) in
        let source : with_rowid (if table.is_counted then Above (count_of counter.0) else Chosen)
        (db table.tree) (cast_row table (mended Replace table (Null ∷ params))) ≡ row =
        ap (λ b. with_rowid (if b then Above (count_of counter.0) else Chosen) (db table.tree)
        (cast_row table (mended Replace table (Null ∷ params)))) uncounted
        ∙ (ap (λ r. with_rowid Chosen (db table.tree) (cast_row table r)) mends
        ∙ ap (with_rowid Chosen (db table.tree)) casts) in
        let made = tries sorted one.0
        (subst (λ r. Tries task Replace [] r db (Ok one.0)) source one.1) in
        let is : new.now.trees ≡ one.0.trees = ap (λ (d : Database). d.trees) now ∙ (after ∙ trees)
        in (
          only one.0.trees (ap (λ (d : Database). d.schema) now) is made.4,
          record {
            number = number;
            rows = ap (λ (t : Trees). t table.tree) is ∙ (made.2 ∙ ap (put_row row) made.1);
            free = subst (λ mid. is_taken mid row ≡ false) made.1 made.3;
          },
        )
