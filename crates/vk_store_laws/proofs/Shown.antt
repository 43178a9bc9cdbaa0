-- What the tables hold under an id is what the rows show that `get` reads there.
use Rattle.std.proofs.Common.{◌≡◌, true, false, ℕ, suc, ◌+◌, List, [], ◌∷◌, map, take, length, refl, ap, sym, subst, ◌∙◌, arith, is_eq, inl, inr, Option, Some, None}
use Rattle.std.specs.Prelude.{IsPermutation, IfSome}
use Rattle.std.specs.FinMap.{get}
use Rattle.std.specs.List.{IsDistinct}
use Rattle.std.proofs.lemmas.List.{length-map, take_all}
use Rattle.std.proofs.lemmas.List.Sorted.{IsPermutation-sym, IsPermutation-trans}
use Rattle.std.proofs.lemmas.Map.Keys.{IsDistinct-IsPermutation}
use Rattle.sqlite_value.specs.Order.{Row}
use Rattle.sqlite_trees.specs.Tree.{IsTable}
use Rattle.sqlite_rules.proofs.ListLemmas.{all_has, all_from}
use Rattle.sqlite.specs.Store.{Ghosts}
use Rattle.sqlite.specs.Held.{Held, state}
use Rattle.vk_commit.specs.Values.{AreBytes}
use Rattle.vk_keeper.specs.declared.auction.Auction.{Auction}
use Rattle.vk_keeper.specs.Auctions.{challenge_of}
use Rattle.vk_keeper.specs.Ledgers.{IsKeptUnder, Ledger}
use Rattle.vk_rows.specs.declared.texts.SealTexts.{SealTexts}
use Rattle.vk_rows.specs.Columns.{ShowFound, ShowSeals, ShowsAuction, ShowsTerms, seal_texts}
use Rattle.vk_rows.proofs.Same.{bits_as}
use Rattle.vk_keeper_sql.specs.Reading.{FailsToRead, FindsNothing, Reads, ShowsNeither}
use Rattle.vk_store_laws.specs.Tables.{store_schema}
use Rattle.vk_store_laws.specs.Rows.{under, head_columns, term_columns, seal_columns}
use Rattle.vk_store_laws.specs.Runs.{Tells}
use Rattle.vk_store_laws.specs.Telling.{TablesTell}
use Rattle.vk_store_laws.specs.Holding.{Holds, IsStore, head_row, term_row, seal_rows}
use Rattle.vk_store_laws.proofs.Clearing.{flips, strict}
use Rattle.vk_store_laws.proofs.Distinct.{same_position}
use Rattle.vk_store_laws.proofs.Once.{rows_rise, same_tables}
use Rattle.vk_store_laws.proofs.Removes.{has_permuted}
use Rattle.vk_store_laws.proofs.Standing.{AreFound, are_found, none_permuted, one_permuted}

-- ---- the rows of an auction show it

head_shows : (auction : Auction) → ShowsAuction (head_row auction) auction
head_shows auction = record {
  size = record { width = refl; lanes = refl };
  phase =
      record {
        number = refl;
        seed = refl;
        bits = sym (bits_as (challenge_of auction.phase));
      };
}

terms_show : (auction : Auction) → ShowsTerms (term_row auction) auction
terms_show auction = record { version = refl; reserve = refl }

rows_show : (before : ℕ) (texts : List SealTexts) → ShowSeals before (seal_rows before texts) texts
rows_show before [] = tt
rows_show before (text ∷ texts) = (
  record { position = refl; seat = refl; seal = refl; secret = refl },
  rows_show (before + 1) texts,
)

row_count : (before : ℕ) (texts : List SealTexts) → length (seal_rows before texts) ≡ length texts
row_count before [] = refl
row_count before (text ∷ texts) = ap suc (row_count (before + 1) texts)

-- ---- in the order of their positions they are these alone

apart : (rows : List Row) → IsTable rows → IsDistinct same_position rows
unfolding IsDistinct
apart [] rise = tt
apart (row ∷ rows) rise = (
  all_from (λ other. same_position row other ≡ false) rows
      (λ other h. ap is_eq (all_has _ rows other rise.0 h)),
  apart rows rise.1,
)

-- what the three queries found is what stands
pub shown_as_held : {S : Type 0} (g : Ghosts S) (id : List ℕ) (old : Held S)
    (has : (state g old).now.schema ≡ store_schema) (heads terms rows : List Row)
    (it : Reads g id old heads terms rows) (found : Option Auction)
    → IfSome found (IsKeptUnder id) → Holds (state g old).now.trees id found
    → AreFound g id old has heads terms rows it → ShowFound heads terms rows found
shown_as_held g id old has heads terms rows it None right holds a = (
  a.heads_are ∙ ap (take 2) (none_permuted a.head_order _ (IsPermutation-sym _ _ a.heads_in)
      (ap (map head_columns) holds.head)),
  a.terms_are ∙ ap (take 2) (none_permuted a.term_order _ (IsPermutation-sym _ _ a.terms_in)
      (ap (map term_columns) holds.terms)),
  a.seals_are ∙ ap (take 65) (none_permuted a.seal_order _ (IsPermutation-sym _ _ a.seals_in)
      (ap (map seal_columns) holds.seals)),
)
shown_as_held g id old has heads terms rows it (Some auction) right (own, stands) a =
    let trees = (state g old).now.trees in
    let texts = map seal_texts auction.seals in
    let head : map head_columns (under id (trees 1)) ≡ head_row auction ∷ [] =
    subst (λ i. map head_columns (under i (trees 1)) ≡ head_row auction ∷ []) own stands.head in
    let term : map term_columns (under id (trees 6)) ≡ term_row auction ∷ [] =
    subst (λ i. map term_columns (under i (trees 6)) ≡ term_row auction ∷ []) own stands.terms in
    let seals : IsPermutation (map seal_columns (under id (trees 3))) (seal_rows 0 texts) =
    subst (λ i. IsPermutation (map seal_columns (under i (trees 3))) (seal_rows 0 texts)) own
    stands.seals in
    let same : IsPermutation (seal_rows 0 texts) a.seal_order =
    IsPermutation-trans _ _ _ (IsPermutation-sym _ _ seals) a.seals_in in
    let above = strict a.seal_order a.seals_rise
    (IsDistinct-IsPermutation same_position flips (seal_rows 0 texts) a.seal_order same
    (apart (seal_rows 0 texts) (rows_rise 0 texts))) in
    let order : a.seal_order ≡ seal_rows 0 texts =
    same_tables a.seal_order (seal_rows 0 texts) above (rows_rise 0 texts)
    (λ r h. has_permuted _ _ r same h)
    (λ r h. has_permuted _ _ r (IsPermutation-sym _ _ same) h) in
    let few = right.right.held.few_seals in
    let all : take 65 (seal_rows 0 texts) ≡ seal_rows 0 texts = take_all 65 (seal_rows 0 texts)
    (omega (arith, few, row_count 0 texts, length-map auction.seals seal_texts)) in
    let rows_are : rows ≡ seal_rows 0 texts = a.seals_are ∙ (ap (take 65) order ∙ all) in (
      head_row auction,
      term_row auction,
      a.heads_are ∙ ap (take 2)
          (one_permuted a.head_order _ _ (IsPermutation-sym _ _ a.heads_in) head),
      a.terms_are ∙ ap (take 2)
          (one_permuted a.term_order _ _ (IsPermutation-sym _ _ a.terms_in) term),
      record {
        head = head_shows auction;
        terms = terms_show auction;
        seals = subst (λ all. ShowSeals 0 all texts) (sym rows_are) (rows_show 0 texts);
      },
    )

module _ {S : Type 0} (g : Ghosts S) (id : List ℕ) (old : Held S) (ledger : Ledger) (bytes : AreBytes 16 id) where
  -- the rows show what the ledger has
  pub not_neither : IsStore (state g old).now → TablesTell (state g old).now.trees ledger
      → ¬ ShowsNeither g id old
  not_neither store tells neither =
      neither.shown (get ledger id) (tells.right id)
      (shown_as_held g id old store.schema neither.heads neither.terms neither.rows neither.read
      (get ledger id) (tells.right id) (tells.held id bytes)
      (are_found g id old store.schema neither.heads neither.terms neither.rows neither.read))

  -- so nothing but a query is refused
  pub only_a_query : Tells g old ledger → FindsNothing g id old
      → FailsToRead g id (record old { in_transaction = true })
  only_a_query tells (inl busy) = absurd (let e = sym busy ∙ tells.seen.ended in cc)
  only_a_query tells (inr (inl fails)) = fails
  only_a_query tells (inr (inr neither)) = absurd (not_neither tells.store tells.told neither)
