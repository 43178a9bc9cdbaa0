-- What `put` wrote stands in the tables, and the rows of other ids are as they were.
use Rattle.std.proofs.Common.{◌≡◌, ℕ, zero, suc, ◌+◌, ◌≤◌, true, List, [], ◌∷◌, ◌++◌, map, take, drop, length, refl, ap, sym, subst, ◌∙◌, arith}
use Rattle.std.specs.Prelude.{IsPermutation}
use Rattle.std.specs.List.{AllByRecursion}
use Rattle.std.proofs.lemmas.List.{length-map}
use Rattle.std.proofs.lemmas.List.Sorted.{IsPermutation-trans, IsPermutation-sym, IsPermutation-append_right, IsPermutation-append_comm}
use Rattle.sqlite_trees.proofs.ListLemmas.{IsPermutation-same}
use Rattle.sqlite.specs.Order.{Row}
use Rattle.sqlite.specs.Effect.{Database}
use Rattle.sqlite.specs.Store.{Ghosts}
use Rattle.sqlite.specs.Held.{Held, state}
use Rattle.vk_keeper.specs.declared.auction.Auction.{Auction}
use Rattle.vk_rows.specs.declared.texts.SealTexts.{SealTexts}
use Rattle.vk_rows.specs.Columns.{ShowSeals, seal_texts}
use Rattle.vk_keeper_sql.specs.Writing.{WritesAuction, Keeps}
use Rattle.vk_store_laws.specs.Rows.{under, head_columns, term_columns, seal_columns}
use Rattle.vk_store_laws.specs.Holding.{IsStore, IsStoreStep, Stands, columns_of, seal_rows}
use Rattle.vk_store_laws.proofs.Texts.{find_seals_is}
use Rattle.vk_store_laws.proofs.Finds.{finds_seals, shown_leaves}
use Rattle.vk_store_laws.proofs.Standing.{IsFour, four_columns, rows_are}
use Rattle.vk_store_laws.proofs.Keeping.{keeps_row, keeps_terms, clears_seals, adds_seals, then_step, shown_seals}
use Rattle.vk_store_laws.proofs.Distinct.{positions_differ, positions_are}
use Rattle.vk_store_laws.proofs.Clearing.{stand_of}

take_twice : {X : Type 0} (n m : ℕ) (xs : List X) → n ≤ m → take n (take m xs) ≡ take n xs
take_twice zero m xs low = refl
take_twice (suc n) zero xs low = absurd (omega (arith, low))
take_twice (suc n) (suc m) [] low = refl
take_twice (suc n) (suc m) (x ∷ xs) low =
    ap (λ more. x ∷ more) (take_twice n m xs (omega (arith, low)))

four_taken : (n : ℕ) (rows : List Row) → AllByRecursion IsFour rows
    → AllByRecursion IsFour (take n rows)
four_taken zero rows all = tt
four_taken (suc n) [] all = tt
four_taken (suc n) (r ∷ rows) all = (all.0, four_taken n rows all.1)

rows_split : (before n : ℕ) (texts : List SealTexts) → n ≤ length texts
    → seal_rows before (take n texts) ++ seal_rows (before + n) (drop n texts)
    ≡ seal_rows before texts
rows_split before zero texts low = ap (λ k. seal_rows k texts) (omega arith)
rows_split before (suc n) [] low = absurd (omega (arith, low))
rows_split before (suc n) (text ∷ texts) low =
    let at : before + suc n ≡ (before + 1) + n = omega arith in
    ap (λ more. columns_of (before + 1) text ∷ more)
    (ap (λ k. seal_rows (before + 1) (take n texts) ++ seal_rows k (drop n texts)) at
    ∙ rows_split (before + 1) n texts (omega (arith, low)))

module _ {S : Type 0} (g : Ghosts S) (auction : Auction) (old new : Held S) (store : IsStore (state g old).now) (few : length auction.seals ≤ 64) (it : WritesAuction g auction (record old { in_transaction = true }) new) where
  texts : List SealTexts
  texts = map seal_texts auction.seals

  pub written_stands : IsStoreStep auction.id (state g old).now (state g new).now
      × Stands (state g new).now.trees auction
  unfolding texts
  written_stands =
      let id = auction.id in
      let mid = it.two in
      let head = keeps_row g (record old { in_transaction = true }) it.one store auction it.row in
      let row = keeps_terms g it.one mid head.0.store auction it.terms in
      let seals = it.seals in
      let leaves = shown_leaves _ _ _ (state g mid) (state g seals.asked) seals.held
      row.0.store.schema find_seals_is.1 seals.query in
      let asked : (state g seals.asked).now ≡ (state g mid).now = leaves.0.now_is in
      let found = finds_seals (state g mid) (state g seals.asked) id seals.held row.0.store.schema
      seals.query in
      let standing = seals.standing in
      let cleared = clears_seals g seals.asked seals.cleared (subst IsStore (sym asked) row.0.store)
      id standing seals.clear in
      let added = adds_seals g id standing (drop standing (map seal_texts auction.seals))
      seals.cleared new cleared.0.store seals.add in
      let within : standing ≤ 64 =
      omega (arith, seals.within, length-map auction.seals seal_texts, few) in
      let prefix : take standing seals.held ≡ take standing found.0 = ap (take standing) found.2
      ∙ take_twice standing 65 found.0 (omega (arith, within)) in
      let stand : ShowSeals 0 (take standing found.0)
      (take standing (map seal_texts auction.seals)) =
      subst (λ rows. ShowSeals 0 rows (take standing (map seal_texts auction.seals))) prefix
      seals.stand in
      let differ = positions_differ (state g mid).now.trees row.3 row.0.store.seals id in
      let full = positions_are (state g mid).now.trees row.3 row.0.store.seals id in
      let stood = stand_of id standing ((state g mid).now.trees 3) found.0
      (map seal_texts auction.seals) found.1 found.3 differ full seals.within stand in
      let first : take standing found.0
      ≡ seal_rows 0 (take standing (map seal_texts auction.seals)) =
      rows_are 0 _ _ (four_taken standing found.0 (four_columns _ found.0 found.1)) stand in
      let table : (state g seals.asked).now.trees 3 ≡ (state g mid).now.trees 3 =
      ap (λ (d : Database). d.trees 3) asked in
      let after : IsPermutation (shown_seals id (state g seals.cleared).now)
      (seal_rows 0 (take standing (map seal_texts auction.seals))) =
      subst (IsPermutation (shown_seals id (state g seals.cleared).now)) first
      (IsPermutation-trans _ _ _
      (IsPermutation-same _ _
      (ap (λ rows. map seal_columns (under id rows))
      (cleared.1 ∙ ap (Rattle.std.proofs.Common.filter _) table))) stood) in
      let rest = seal_rows standing (drop standing (map seal_texts auction.seals)) in
      let whole : IsPermutation (shown_seals id (state g new).now)
      (seal_rows 0 (map seal_texts auction.seals)) =
      IsPermutation-trans _ (rest ++ shown_seals id (state g seals.cleared).now) _
      (IsPermutation-sym _ _ added.1)
      (IsPermutation-trans _ (rest ++ seal_rows 0 (take standing (map seal_texts auction.seals))) _
      (IsPermutation-append_right rest _ _ after)
      (IsPermutation-trans _ (seal_rows 0 (take standing (map seal_texts auction.seals)) ++ rest) _
      (IsPermutation-append_comm rest _)
      (IsPermutation-same _ _ (ap
      (λ k. seal_rows 0 (take standing (map seal_texts auction.seals))
      ++ seal_rows k (drop standing (map seal_texts auction.seals))) (omega arith)
      ∙ rows_split 0 standing (map seal_texts auction.seals) seals.within)))) in
      let heads : (state g new).now.trees 1 ≡ (state g it.one).now.trees 1 =
      added.2 ∙ (cleared.2 ∙ (ap (λ (d : Database). d.trees 1) asked ∙ row.2)) in
      let terms : (state g new).now.trees 6 ≡ (state g mid).now.trees 6 =
      added.3 ∙ (cleared.3 ∙ ap (λ (d : Database). d.trees 6) asked) in
      let from_asked = subst (λ d. IsStoreStep id d (state g new).now) asked
      (then_step id _ _ _ cleared.0 added.0) in (
        then_step id _ _ _ head.0 (then_step id _ _ _ row.0 from_asked),
        record {
          head = ap (λ rows. map head_columns (under id rows)) heads ∙ head.1;
          terms = ap (λ rows. map term_columns (under id rows)) terms ∙ row.1;
          seals = whole;
        },
      )

-- what was made of a store by keeping an auction: it stands there, and the rows of other ids are as
-- they were
pub kept_stands : {S : Type 0} (g : Ghosts S) (auction : Auction) (old : Held S) (whole : Database)
    → IsStore (state g old).now → length auction.seals ≤ 64 → Keeps g auction old whole
    → IsStoreStep auction.id (state g old).now whole × Stands whole.trees auction
kept_stands g auction old whole store few it =
    let made = written_stands g auction old it.0 store few it.1 in (
      subst (IsStoreStep auction.id (state g old).now) (sym it.2) made.0,
      subst (λ (d : Database). Stands d.trees auction) (sym it.2) made.1,
    )
