-- A store whose tables tell a ledger answers and keeps as the ledger says.
use Rattle.std.proofs.Common.{◌≡◌, ◌≢◌, ◌⊎◌, ℕ, List, [], ◌∷◌, cond, map, refl, ap, sym, subst, ◌∙◌, inl, inr, Option, Some, None, is_eq, nat_cmp}
use Rattle.std.specs.Prelude.{IfSome, IsPermutation}
use Rattle.std.specs.FinMap.{empty, get, insert, get-empty, get-insert}
use Rattle.std.specs.Cmp.Lexicographic.{slice_cmp}
use Rattle.std.proofs.lemmas.Cmp.{nat_list_cmp_total}
use Rattle.std.proofs.lemmas.Bool.{cases_Bool}
use Rattle.std.proofs.lemmas.Map.Text.{is_eq-slice_cmp}
use Rattle.std.proofs.lemmas.Slice.Eq.{bytes_eq-Decides}
use Rattle.sqlite.specs.Order.{Row}
use Rattle.sqlite.specs.Tree.{Trees}
use Rattle.vk_commit.specs.Values.{AreBytes}
use Rattle.vk_keeper.specs.declared.auction.Auction.{Auction}
use Rattle.vk_keeper.specs.Auctions.{IsAuction}
use Rattle.vk_keeper.specs.Ledgers.{Ledger, IsKeptUnder}
use Rattle.vk_keeper.proofs.Places.{ledger_with}
use Rattle.vk_rows.specs.Columns.{seal_texts}
use Rattle.vk_store_laws.specs.Rows.{under, head_columns, term_columns, seal_columns}
use Rattle.vk_store_laws.specs.Holding.{KeepsOthers, Stands, IsAbsent, Holds, head_row, seal_rows}
use Rattle.vk_store_laws.specs.Telling.{TablesTell}
use Rattle.vk_store_laws.proofs.Once.{stands_one}

-- what stands isn't absent
not_absent : (trees : Trees) (id : List ℕ) (auction : Auction) → IsAbsent trees id → auction.id ≡ id
    → Stands trees auction → ⊥
not_absent trees id auction absent same stands =
    let head : map head_columns (under id (trees 1)) ≡ head_row auction ∷ [] =
    subst (λ i. map head_columns (under i (trees 1)) ≡ head_row auction ∷ []) same stands.head
    in
    let none : ◌≡◌ {A = List Row} [] (head_row auction ∷ []) =
    sym (ap (map head_columns) absent.head) ∙ head in
    absurd (let e = none in cc)

-- tables hold one thing under an id
pub holds_one : (trees : Trees) (id : List ℕ) (a b : Option Auction) → IfSome a IsAuction
    → IfSome b IsAuction → Holds trees id a → Holds trees id b → a ≡ b
holds_one trees id None None p q one two = refl
holds_one trees id None (Some b) p q one two = absurd (not_absent trees id b one two.0 two.1)
holds_one trees id (Some a) None p q one two = absurd (not_absent trees id a two one.0 one.1)
holds_one trees id (Some a) (Some b) p q one two =
    ap Some (stands_one trees a b p q (one.0 ∙ sym two.0) one.1 two.1)

-- what is found is what the ledger has
pub found_is_told : (trees : Trees) (ledger : Ledger) (id : List ℕ) (found : Option Auction)
    → AreBytes 16 id → TablesTell trees ledger → IfSome found IsAuction → Holds trees id found
    → found ≡ get ledger id
found_is_told trees ledger id found bytes tells right holds =
    holds_one trees id found (get ledger id) right (kept (get ledger id) (tells.right id)) holds
    (tells.held id bytes)
  where
    kept : (o : Option Auction) → IfSome o (IsKeptUnder id) → IfSome o IsAuction
    kept None h = tt
    kept (Some auction) h = h.right

-- other ids hold what they held
held_still : (old new : Trees) (id other : List ℕ) (found : Option Auction) → other ≢ id
    → KeepsOthers id old new → Holds old other found → Holds new other found
held_still old new id other None apart keeps holds =
    record {
      head = keeps.auctions other apart ∙ holds.head;
      terms = keeps.terms other apart
          ∙ holds.terms;
      seals = keeps.seals other apart ∙ holds.seals;
    }
held_still old new id other (Some auction) apart keeps (same, stands) =
    let here : auction.id ≢ id = λ e. apart (sym same ∙ e) in (
      same,
      record {
        head = ap (map head_columns) (keeps.auctions auction.id here) ∙ stands.head;
        terms = ap (map term_columns) (keeps.terms auction.id here) ∙ stands.terms;
        seals = subst (λ rows. IsPermutation (map seal_columns rows)
            (seal_rows 0 (map seal_texts auction.seals))) (sym (keeps.seals auction.id here))
            stands.seals;
      },
    )

-- what a ledger with one more auction has under an id
pub held_at : (ledger : Ledger) (auction : Auction) (id : List ℕ)
    → ((id ≡ auction.id) × (get (insert ledger auction.id auction) id ≡ Some auction))
    ⊎ (get (insert ledger auction.id auction) id ≡ get ledger id)
held_at ledger auction id =
    let is = get-insert nat_list_cmp_total ledger auction.id auction id in
    elim (cases_Bool (is_eq (slice_cmp nat_cmp id auction.id))) [
      | inl same ↦ inl (
        (bytes_eq-Decides id auction.id).0 (sym (is_eq-slice_cmp id auction.id) ∙ same),
        is ∙ ap (λ b. cond b (Some auction) (get ledger id)) same,
      )
      | inr differs ↦ inr (is ∙ ap (λ b. cond b (Some auction) (get ledger id)) differs)
    ]

-- once an auction is kept the tables tell the ledger with it
pub kept_is_told : (old new : Trees) (ledger : Ledger) (auction : Auction) → IsAuction auction
    → TablesTell old ledger → KeepsOthers auction.id old new → Stands new auction
    → TablesTell new (insert ledger auction.id auction)
kept_is_told old new ledger auction right tells keeps stands = record {
  right = ledger_with ledger auction tells.right right;
  held = λ other bytes. subst (Holds new other)
      (sym (get-insert nat_list_cmp_total ledger auction.id auction other))
      (elim (cases_Bool (is_eq (slice_cmp nat_cmp other auction.id))) [
        | inl same ↦ let equal : other ≡ auction.id =
            (bytes_eq-Decides other auction.id).0 (sym (is_eq-slice_cmp other auction.id) ∙ same) in
            subst (λ b. Holds new other (cond b (Some auction) (get ledger other))) (sym same)
            (sym equal, stands)
        | inr differs ↦ subst (λ b. Holds new other (cond b (Some auction) (get ledger other)))
            (sym differs)
            (held_still old new auction.id other (get ledger other)
            (λ e. absurd (let f = sym differs
            ∙ (is_eq-slice_cmp other auction.id ∙ (bytes_eq-Decides other auction.id).1 e) in cc))
            keeps (tells.held other bytes))
      ]);
}

-- tables without rows
pub nothing_is_told : (trees : Trees) → trees 1 ≡ [] → trees 3 ≡ [] → trees 6 ≡ []
    → TablesTell trees empty
nothing_is_told trees heads seals terms = record {
  right = λ id. subst (λ o. IfSome o (IsKeptUnder id)) (sym (get-empty (slice_cmp nat_cmp) id)) tt;
  held = λ id bytes. subst (Holds trees id) (sym (get-empty (slice_cmp nat_cmp) id))
      (record {
        head = ap (under id) heads;
        terms = ap (under id) terms;
        seals = ap (under id) seals;
      });
}
