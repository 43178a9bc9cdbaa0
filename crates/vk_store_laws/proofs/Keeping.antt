-- What each statement of `put` makes of the tables.
use Rattle.std.proofs.Common.{◌≡◌, ◌≢◌, ℕ, ◌+◌, pos, Bool, true, false, not, List, [], ◌∷◌, ◌++◌, map, filter, refl, ap, sym, subst, ◌∙◌, inl, inr}
use Rattle.std.specs.Prelude.{None, Some, Option, ◌&&◌, ◌||◌, IsPermutation}
use Rattle.std.specs.List.{list_all}
use Rattle.std.proofs.lemmas.Bool.{cases_Bool, and_parts}
use Rattle.std.proofs.lemmas.List.Sorted.{IsPermutation-trans, IsPermutation-map, IsPermutation-sym, IsPermutation-middle, IsPermutation-append_right}
use Rattle.sqlite_value.specs.declared.value.Value.TheVariants.{Int, Text, Blob}
use Rattle.sqlite_value.specs.declared.keys.Key.{Key}
use Rattle.sqlite_value.specs.Order.{Row, column}
use Rattle.sqlite_value.proofs.KeyLemmas.{first_key-plain}
use Rattle.sqlite_trees.specs.Tree.{put_row}
use Rattle.sqlite_trees.proofs.ListLemmas.{filter_none, IsPermutation-same}
use Rattle.sqlite_schema.specs.declared.command.Command.{Command}
use Rattle.sqlite_schema.specs.Rules.{equal}
use Rattle.sqlite_sql.specs.Term.{holds}
use Rattle.sqlite_rules.specs.Cast.{as_text}
use Rattle.sqlite_rules.specs.Edit.{is_taken}
use Rattle.sqlite_rules.proofs.ListLemmas.{all_from, has_filtered}
use Rattle.sqlite_catalog.specs.Listing.{IsSound}
use Rattle.sqlite.specs.Values.{or_null}
use Rattle.sqlite.specs.Store.{Ghosts}
use Rattle.sqlite.specs.Held.{Held, state}
use Rattle.sqlite.specs.Effect.{Database}
use Rattle.sqlite.specs.State.{Runs}
use Rattle.sqlite.specs.Listing.{understood}
use Rattle.sqlite.proofs.Callers.{statement_of, one_permutation, runs_as}
use Rattle.vk_keeper.specs.declared.auction.Auction.{Auction}
use Rattle.vk_rows.specs.declared.texts.SealTexts.{SealTexts}
use Rattle.vk_rows.specs.Columns.{auction_row, terms_row, seal_row, bits_in}
use Rattle.vk_keeper_sql.specs.Statements.{keep_auction, keep_terms, drop_seals, keep_seal}
use Rattle.vk_keeper_sql.specs.Transactions.{Ran}
use Rattle.vk_keeper_sql.specs.Writing.{AddsSeals}
use Rattle.vk_store_laws.specs.Tables.{store_schema, placed, auctions, seals, terms}
use Rattle.vk_store_laws.specs.Rows.{has_id, under, head_columns, term_columns, seal_columns, IsTableOfRows, OnlyTable, PutsRow}
use Rattle.vk_store_laws.specs.Holding.{IsStore, IsStoreStep, head_row, term_row, seal_rows}
use Rattle.vk_store_laws.proofs.Texts.{IsCommand, of_id, is_behind, auction_terms, seal_terms, keep_auction_is, terms_terms, keep_terms_is, keep_seal_is, drop_seals_is}
use Rattle.vk_store_laws.proofs.Selects.{is_id}
use Rattle.vk_store_laws.proofs.Finds.{and_true}
use Rattle.vk_store_laws.proofs.Tables.{cast_null, cast_int, deletes, inserts, replaces}
use Rattle.vk_store_laws.proofs.Under.{own_id, put_beside, unlike, others_after_put, others_after_delete, table_after_put, table_after_delete}

pub or_false : (b : Bool) → b || false ≡ b
or_false true = refl
or_false false = refl

text_stays : (text : Option (List ℕ)) → as_text (or_null Text text) ≡ or_null Text text
text_stays None = refl
text_stays (Some text) = refl

-- a row that the test passes, where it passes no other
pub put_alone : (p : Row → Bool) (new : Row) (rows : List Row) → p new ≡ true → filter p rows ≡ []
    → is_taken rows new ≡ false → filter p (put_row new rows) ≡ new ∷ []
put_alone p new rows passes none free =
    one_permutation new (filter p (put_row new rows))
    (subst (λ others. IsPermutation (new ∷ others) (filter p (put_row new rows))) none
    (put_beside p new rows passes free))

pub none_left : (p : Row → Bool) (rows : List Row) → filter p (filter (λ r. not (p r)) rows) ≡ []
none_left p rows = filter_none p (filter (λ r. not (p r)) rows)
    (all_from _ (filter (λ r. not (p r)) rows) (λ r h.
    let kept = (has_filtered (λ x. not (p x)) rows r h).1 in
    elim (cases_Bool (p r)) [
      | inl passes ↦ absurd (let e = rw passes at kept in cc)
      | inr fails ↦
          fails
    ]))

-- a row that takes the place of all of its id is the only one of the id
left_alone : (id : List ℕ) (params : Row) (before after : List Row)
    (put : PutsRow params (filter (λ r. not (has_id id r)) before) after)
    → has_id id (Int put.number ∷ params) ≡ true → under id after ≡ (Int put.number ∷ params) ∷ []
left_alone id params before after put own =
    ap (under id) put.rows ∙ put_alone (has_id id) (Int put.number ∷ params)
    (filter (λ r. not (has_id id r)) before) own (none_left (has_id id) before) put.free

-- the rows that the statement drops
abbrev pub goes : List ℕ → ℕ → Row → Bool
goes id standing r = list_all (holds ((Blob id ∷ Int (pos standing) ∷ []) ∷ r ∷ []))
    (of_id ∷ is_behind ∷ [])

-- ---- one table

-- a table stays one, and its rows of other ids are as they were
record StaysBut (id : List ℕ) (old new : List Row) : Type 0 where
  rows : IsTableOfRows new
  others : (other : List ℕ) → other ≢ id → under other new ≡ under other old

as_was : (id : List ℕ) (old new : List Row) → IsTableOfRows old → new ≡ old → StaysBut id old new
as_was id old new table same = record {
  rows = subst IsTableOfRows (sym same) table;
  others = λ other apart. ap (under other) same;
}

-- where a row took the place of all of its id
put_over : (id : List ℕ) (values : Row) (old new : List Row) → IsTableOfRows old
    → PutsRow (Blob id ∷ values) (filter (λ r. not (has_id id r)) old) new → StaysBut id old new
put_over id values old new table put =
    let left = filter (λ r. not (has_id id r)) old in
    record {
      rows = table_after_put (Blob id ∷ values) left new (table_after_delete _ old table) put;
      others = λ other apart. others_after_put other id values left new apart put
          ∙ others_after_delete other id (has_id id) old apart (λ r h. h);
    }

step_of : (id : List ℕ) (old new : Database) → new.schema ≡ store_schema
    → StaysBut id (old.trees 1) (new.trees 1) → StaysBut id (old.trees 6) (new.trees 6)
    → StaysBut id (old.trees 3) (new.trees 3) → IsStoreStep id old new
step_of id old new schema auctions terms seals = record {
  store = record {
    schema = schema;
    auctions = auctions.rows;
    terms = terms.rows;
    seals = seals.rows;
  };
  others = record { auctions = auctions.others; terms = terms.others; seals = seals.others };
}

module _ {S : Type 0} (g : Ghosts S) (old new : Held S) (store : IsStore (state g old).now) where
  -- a text that was run wrote what its command does
  pub wrote : (text : List ℕ) (params : Row) (command : Command) → IsCommand text command
      → Ran g text params old new
      → (count : ℕ) × Runs (state g old) (state g new) None command
      (statement_of text (understood store_schema text)) params count
  unfolding Ran
  wrote text params command is ran = (
    ran.0,
    runs_as text params (state g old) (state g new) store_schema store.schema command is.0 is.1
        ran.0 ran.1.0,
  )

  -- the row of the auction is the only one of its id, and nothing else is changed
  pub keeps_row : (auction : Auction) → Ran g keep_auction (auction_row auction) old new
      → IsStoreStep auction.id (state g old).now (state g new).now
      × (map head_columns (under auction.id ((state g new).now.trees 1)) ≡ head_row auction ∷ [])
  keeps_row auction ran =
      let id = auction.id in
      let params = auction_row auction in
      let before = (state g old).now.trees 1 in
      let w = wrote keep_auction params _ keep_auction_is ran in
      let done = replaces store_schema 1 (placed auctions 1) refl (λ keys db edit. refl)
      (state g old) (state g new) store.schema _ params w.0
      (has_id id) refl (λ n. rw (
        cast_int n,
        cast_int (pos auction.width),
        cast_int (pos auction.lanes),
        cast_int _,
        text_stays (bits_in auction.phase),
      ) refl)
      (λ n r. subst (λ (k : Key). ((equal k.collation (column r 1) (Blob id) && true) || false)
      ≡ has_id id r) (sym first_key-plain) (or_false _ ∙ (and_true _ ∙ is_id (column r 1) id)))
      auction_terms 7 refl refl refl
      (rw (
        cast_null,
        cast_int (pos auction.width),
        cast_int (pos auction.lanes),
        cast_int _,
        text_stays (bits_in auction.phase),
      ) refl) store.auctions w.1 in (
        step_of id (state g old).now (state g new).now done.0.schema
            (put_over id _ before _ store.auctions done.1)
            (as_was id _ _ store.terms (done.0.tables.1.1.1.0 (unlike 6 1 refl)))
            (as_was id _ _ store.seals (done.0.tables.1.1.0 (unlike 3 1 refl))),
        ap (map head_columns) (left_alone id params before _ done.1 (own_id id)),
      )

  -- the row of its terms is the only one of its id, and nothing else is changed
  pub keeps_terms : (auction : Auction) → Ran g keep_terms (terms_row auction) old new
      → IsStoreStep auction.id (state g old).now (state g new).now
      × (map term_columns (under auction.id ((state g new).now.trees 6)) ≡ term_row auction ∷ [])
      × ((state g new).now.trees 1 ≡ (state g old).now.trees 1)
      × IsSound store_schema (state g new).now.trees
  keeps_terms auction ran =
      let id = auction.id in
      let params = terms_row auction in
      let before = (state g old).now.trees 6 in
      let w = wrote keep_terms params _ keep_terms_is ran in
      let done = replaces store_schema 3 (placed terms 6) refl (λ keys db edit. refl) (state g old)
      (state g new) store.schema _ params w.0
      (has_id id) refl (λ n. rw
      (cast_int n, cast_int (pos auction.version), cast_int (pos auction.reserve)) refl)
      (λ n r. subst (λ (k : Key). ((equal k.collation (column r 1) (Blob id) && true) || false)
      ≡ has_id id r) (sym first_key-plain) (or_false _ ∙ (and_true _ ∙ is_id (column r 1) id)))
      terms_terms 4 refl refl refl
      (rw (cast_null, cast_int (pos auction.version), cast_int (pos auction.reserve)) refl)
      store.terms w.1 in
      let heads = done.0.tables.1.0 (unlike 1 6 refl) in (
        step_of id (state g old).now (state g new).now done.0.schema
            (as_was id _ _ store.auctions heads)
            (put_over id _ before _ store.terms done.1)
            (as_was id _ _ store.seals (done.0.tables.1.1.0 (unlike 3 6 refl))),
        ap (map term_columns) (left_alone id params before _ done.1 (own_id id)),
        heads,
        subst (λ s. IsSound s (state g new).now.trees) done.0.schema w.1.sound,
      )

  -- what writes nothing but seals leaves the other tables as they were
  only_seals : (id : List ℕ) → OnlyTable 3 store_schema (state g old).now (state g new).now
      → StaysBut id ((state g old).now.trees 3) ((state g new).now.trees 3)
      → IsStoreStep id (state g old).now (state g new).now
      × ((state g new).now.trees 1 ≡ (state g old).now.trees 1)
      × ((state g new).now.trees 6 ≡ (state g old).now.trees 6)
  only_seals id only seals =
      let heads = only.tables.1.0 (unlike 1 3 refl) in
      let terms = only.tables.1.1.1.0 (unlike 6 3 refl) in (
        step_of id (state g old).now (state g new).now only.schema
            (as_was id _ _ store.auctions heads) (as_was id _ _ store.terms terms) seals,
        heads,
        terms,
      )

  -- one more seal's row, and nothing else is changed
  pub keeps_seal : (id : List ℕ) (position : ℕ) (texts : SealTexts)
      → Ran g keep_seal (seal_row id position texts) old new
      → IsStoreStep id (state g old).now (state g new).now
      × PutsRow (seal_row id position texts) ((state g old).now.trees 3) ((state g new).now.trees 3)
      × ((state g new).now.trees 1 ≡ (state g old).now.trees 1)
      × ((state g new).now.trees 6 ≡ (state g old).now.trees 6)
  keeps_seal id position texts ran =
      let params = seal_row id position texts in
      let before = (state g old).now.trees 3 in
      let w = wrote keep_seal params _ keep_seal_is ran in
      let done = inserts store_schema 2 (placed seals 3) refl (λ keys db edit. refl) (state g old)
      (state g new) store.schema _ params w.0
      seal_terms 6 refl refl refl
      (rw (cast_null, cast_int (pos position), cast_int (pos texts.seat)) refl) w.1 in
      let step = only_seals id done.0 (record {
        rows = table_after_put params before _ store.seals done.1;
        others = λ other apart. others_after_put other id _ before _ apart done.1;
      }) in
      (step.0, done.1, step.1, step.2)

  -- the rows of the id's seals go but for so many from the first position on, and nothing else is
  -- changed
  pub clears_seals : (id : List ℕ) (standing : ℕ)
      → Ran g drop_seals (Blob id ∷ Int (pos standing) ∷ []) old new
      → IsStoreStep id (state g old).now (state g new).now
      × ((state g new).now.trees 3
      ≡ filter (λ r. not (goes id standing r)) ((state g old).now.trees 3))
      × ((state g new).now.trees 1 ≡ (state g old).now.trees 1)
      × ((state g new).now.trees 6 ≡ (state g old).now.trees 6)
  clears_seals id standing ran =
      let params = Blob id ∷ Int (pos standing) ∷ [] in
      let before = (state g old).now.trees 3 in
      let w = wrote drop_seals params _ drop_seals_is ran in
      let done = deletes store_schema 2 (placed seals 3) refl (λ keys db edit. refl) (state g old)
      (state g new) store.schema _ params w.0
      (of_id ∷ is_behind ∷ []) (λ db. refl) store.seals w.1 in
      let step = only_seals id done.0 (record {
        rows = subst IsTableOfRows (sym done.1) (table_after_delete _ before store.seals);
        others = λ other apart. ap (under other) done.1
            ∙ others_after_delete other id (goes id standing) before apart
            (λ r gone. sym (is_id (column r 1) id) ∙ (and_parts _ _ gone).0);
      }) in
      (step.0, done.1, step.1, step.2)

pub then_step : (id : List ℕ) (a b c : Database) → IsStoreStep id a b → IsStoreStep id b c
    → IsStoreStep id a c
then_step id a b c one two = record {
  store = two.store;
  others = record {
    auctions = λ other apart. two.others.auctions other apart ∙ one.others.auctions other apart;
    terms = λ other apart. two.others.terms other apart ∙ one.others.terms other apart;
    seals = λ other apart. two.others.seals other apart ∙ one.others.seals other apart;
  };
}

pub no_step : (id : List ℕ) (db : Database) → IsStore db → IsStoreStep id db db
no_step id db store = record {
  store = store;
  others = record {
    auctions = λ other apart. refl;
    terms = λ other apart. refl;
    seals = λ other apart. refl;
  };
}

-- the rows of the seals' id, as they are shown
abbrev pub shown_seals : List ℕ → Database → List Row
shown_seals id db = map seal_columns (under id (db.trees 3))

-- the seals' rows come beside those that were there
pub adds_seals : {S : Type 0} (g : Ghosts S) (id : List ℕ) (before : ℕ) (texts : List SealTexts)
    (old new : Held S) → IsStore (state g old).now → AddsSeals g id before texts old new
    → IsStoreStep id (state g old).now (state g new).now
    × IsPermutation (seal_rows before texts ++ shown_seals id (state g old).now)
    (shown_seals id (state g new).now)
    × ((state g new).now.trees 1 ≡ (state g old).now.trees 1)
    × ((state g new).now.trees 6 ≡ (state g old).now.trees 6)
adds_seals g id before [] old new store same =
    let is : (state g new).now ≡ (state g old).now = ap (λ h. (state g h).now) same in (
      subst (IsStoreStep id (state g old).now) (sym is) (no_step id _ store),
      IsPermutation-same _ _ (ap (shown_seals id) (sym is)),
      ap (λ (d : Database). d.trees 1) is,
      ap (λ (d : Database). d.trees 6) is,
    )
adds_seals g id before (seal ∷ texts) old new store it =
    let mid = it.0 in
    let first = keeps_seal g old mid store id (before + 1) seal it.1 in
    let rest = adds_seals g id (before + 1) texts mid new first.0.store it.2 in
    let put = first.1 in
    let row = Int put.number ∷ seal_row id (before + 1) seal in
    let now = shown_seals id (state g old).now in
    let beside : IsPermutation (row ∷ under id ((state g old).now.trees 3))
    (under id ((state g mid).now.trees 3)) =
    subst (λ rows. IsPermutation (row ∷ under id ((state g old).now.trees 3)) (under id rows))
    (sym put.rows) (put_beside (has_id id) row ((state g old).now.trees 3) (own_id id) put.free)
    in
    let shown : IsPermutation (seal_columns row ∷ now) (shown_seals id (state g mid).now) =
    IsPermutation-map seal_columns _ _ beside in (
      then_step id _ _ _ first.0 rest.0,
      IsPermutation-trans _ (seal_rows (before + 1) texts ++ (seal_columns row ∷ now)) _
          (IsPermutation-sym _ _
          (IsPermutation-middle (seal_rows (before + 1) texts) (seal_columns row) now))
          (IsPermutation-trans _ (seal_rows (before + 1) texts ++ shown_seals id (state g mid).now)
          _ (IsPermutation-append_right (seal_rows (before + 1) texts) _ _ shown) rest.1),
      rest.2 ∙ first.2,
      rest.3 ∙ first.3,
    )
