-- A store over a list of calls tells the ledger that the list leads to, and that keeps what is
-- answered.
use Rattle.std.proofs.Common.{◌≡◌, ◌∙◌, ℕ, refl, sym, ap, subst, inl, inr, List, [], ◌∷◌, Option, Some, Ok, IsTrue}
use Rattle.std.specs.FinMap.{empty, get, insert}
use Rattle.sqlite.specs.Tree.{Trees}
use Rattle.sqlite.specs.Effect.{Database}
use Rattle.sqlite.specs.Store.{Ghosts}
use Rattle.sqlite.specs.State.{HasCleanDisk}
use Rattle.sqlite.specs.Held.{Held, state}
use Rattle.vk_reply.specs.declared.challenge.Challenge.{Challenge}
use Rattle.vk_keeper.specs.declared.auction.Auction.{Auction}
use Rattle.vk_keeper.specs.Auctions.{challenge_of}
use Rattle.vk_keeper.specs.Ledgers.{Ledger}
use Rattle.vk_keeper_sql.specs.Transactions.{ChangesNothing, CommitsAtOnce}
use Rattle.vk_keeper_sql.specs.declared.errors.OpenErr.{OpenErr}
use Rattle.vk_keeper_sql.specs.Opening.{Prepares}
use Rattle.vk_keeper_sql.specs.Writing.{Keeps}
use Rattle.vk_store_laws.specs.Holding.{IsStore}
use Rattle.vk_store_laws.specs.Tables.{no_schema}
use Rattle.vk_store_laws.specs.Telling.{TablesTell}
use Rattle.vk_store_laws.specs.Runs.{Act, found, kept, refused, opened, stopped, Leads, LeadOn, Spares, SparesAnswered, AllSpare, Tells, Does, Runs, HasFound, HasKept, IsOpenedAgain, IsStopped}
use Rattle.vk_store_laws.proofs.Crashes.{seen_at_once, at_once}
use Rattle.vk_store_laws.proofs.Kept.{kept_stands}
use Rattle.vk_store_laws.proofs.Modelled.{kept_is_told, found_is_told, held_at}
use Rattle.vk_store_laws.proofs.Standing.{found_stands, both_of}
use Rattle.vk_store_laws.proofs.Opening.{prepared_new, prepared_stays}

-- the trait's law of stores: while one is open, a crash leaves the last commit and nothing else
abbrev pub IsSettled : {S : Type 0} → Ghosts S → Type 0
IsSettled {S} g = (s : S) (db : Trees) → IsTrue (g.view s).is_open → g.recovers s db
    → db ≡ (g.view s).committed

module _ {S : Type 0} (g : Ghosts S) (settled : IsSettled g) where
  -- a store that is seen to have been changed in nothing tells what it told
  stays : (old new : Held S) (ledger : Ledger) → IsTrue (state g new).is_open
      → ChangesNothing (state g old) (state g new) → Tells g old ledger → Tells g new ledger
  stays old new ledger is_open nothing tells =
      let ended = nothing.ended tells.seen.ended in
      let seen = nothing.settled is_open ended in
      let same : (state g new).now ≡ (state g old).now =
      seen ∙ nothing.kept.committed is_open ∙ sym tells.seen.same in
      record {
        seen = record { is_open = is_open; ended = ended; same = seen };
        store = subst IsStore (sym same) tells.store;
        told = subst (λ (d : Database). TablesTell d.trees ledger) (sym same) tells.told;
      }

  keeps : (old new : Held S) (ledger : Ledger) (auction : Auction) → HasKept g auction old new
      → Tells g old ledger → Tells g new (insert ledger auction.id auction)
  keeps old new ledger auction did tells =
      let after : (whole : Database) → Keeps g auction old whole
      → IsStore whole × TablesTell whole.trees (insert ledger auction.id auction) =
      λ whole it.
      let made = kept_stands g auction old whole tells.store did.right.held.few_seals it in (
        made.0.store,
        kept_is_told (state g old).now.trees whole.trees ledger auction did.right
            tells.told made.0.others made.1,
      ) in
      let now = seen_at_once (Keeps g auction old)
      (λ (d : Database). IsStore d × TablesTell d.trees (insert ledger auction.id auction)) (state g old)
      (state g new) (Ok tt) after did.once did.disk in
      record { seen = did.once.seen did.disk; store = now.0; told = now.1 }

  -- what was opened again tells what was left
  opens : (old new : Held S) (ledger : Ledger) (it : IsOpenedAgain g old new)
      → TablesTell (state g it.begun).committed.trees ledger → Tells g new ledger
  opens old new ledger it told =
      let here : TablesTell (state g it.begun).now.trees ledger =
      subst (λ (d : Database). TablesTell d.trees ledger) (sym it.seen.same) told in
      let now = seen_at_once (Prepares g it.begun)
      (λ (d : Database). IsStore d × TablesTell d.trees ledger) (state g it.begun) (state g new) (Ok tt)
      (λ whole made.
      subst (λ (d : Database). IsStore d × TablesTell d.trees ledger)
      (sym (prepared_stays g it.begun whole it.store made)) (it.store, here))
      it.once it.disk in
      record { seen = it.once.seen it.disk; store = now.0; told = now.1 }

  -- a crash leaves what an open store told
  leaves : (old : Held S) (ledger : Ledger) → Tells g old ledger → (trees : Trees)
      → (state g old).may_leave trees → TablesTell trees ledger
  leaves old ledger tells trees left =
      let is : trees ≡ (state g old).committed.trees =
      settled old.store trees tells.seen.is_open left in
      subst (λ t. TablesTell t ledger) (sym is)
      (subst (λ (d : Database). TablesTell d.trees ledger) tells.seen.same tells.told)

  after_stop : (old new : Held S) (ledger : Ledger) (auction : Auction)
      → IsStopped g auction old new → Tells g old ledger
      → (next : Ledger) × Leads (stopped auction) ledger next × Tells g new next
  after_stop old new ledger auction did tells =
      let left = at_once (Keeps g auction old) (λ t. TablesTell t ledger)
      (λ t. TablesTell t (insert ledger auction.id auction)) (state g old) (state g did.last)
      did.result
      (λ whole it.
      let made = kept_stands g auction old whole tells.store did.right.held.few_seals it in
      kept_is_told (state g old).now.trees whole.trees ledger auction did.right
      tells.told made.0.others made.1)
      (leaves old ledger tells) did.once did.disk in
      elim (left.0 _ did.again.left) [
        | inl before ↦ (ledger, inl refl, opens did.last new ledger did.again before)
        | inr after ↦ (
          insert ledger auction.id auction,
          inr refl,
          opens did.last new (insert ledger auction.id auction) did.again after,
        )
      ]

  one_act : (act : Act) (old new : Held S) (ledger : Ledger) → Does g act old new
      → Tells g old ledger → (next : Ledger) × Leads act ledger next × Tells g new next
  one_act (found id answer) old new ledger did tells = (
    ledger,
    (
      found_is_told (state g old).now.trees ledger id answer did.bytes tells.told did.right
          (found_stands g id old answer tells.store.schema (both_of id answer did.own did.right)
          did.finds),
      refl,
    ),
    stays old new ledger did.is_open did.nothing tells,
  )
  one_act (kept auction) old new ledger did tells =
      (insert ledger auction.id auction, refl, keeps old new ledger auction did tells)
  one_act refused old new ledger did tells =
      (ledger, refl, stays old new ledger did.is_open did.nothing tells)
  one_act opened old new ledger did tells =
      (ledger, refl, opens old new ledger did (leaves old ledger tells _ did.left))
  one_act (stopped auction) old new ledger did tells =
      after_stop old new ledger auction did tells

  -- what a store tells behind a list of acts
  pub run_tells : (acts : List Act) (old new : Held S) (ledger : Ledger) → Runs g acts old new
      → Tells g old ledger → (after : Ledger) × LeadOn acts ledger after × Tells g new after
  run_tells [] old new ledger ran tells =
      (ledger, refl, subst (λ (h : Held S). Tells g h ledger) (sym ran) tells)
  run_tells (act ∷ acts) old new ledger ran tells =
      let first = one_act act old ran.0 ledger ran.1 tells in
      let rest = run_tells acts ran.0 new first.0 ran.2 first.2 in
      (rest.0, (first.0, first.1, rest.1), rest.2)

-- ---- what is answered stays

module _ (id : List ℕ) (held : Auction) (challenge : Challenge) (answered : challenge_of held.phase ≡ Some challenge) where
  put_stays : (ledger : Ledger) (auction : Auction) → SparesAnswered auction ledger
      → get ledger id ≡ Some held → get (insert ledger auction.id auction) id ≡ Some held
  put_stays ledger auction spares has = elim (held_at ledger auction id) [
    | inl same ↦
        let here : get ledger auction.id ≡ Some held = subst (λ i. get ledger i ≡ Some held) same.0 has
        in
        same.1 ∙ ap (λ a. Some a) (spares held challenge here answered)
    | inr other ↦ other ∙ has
  ]

  one_stays : (act : Act) (old new : Ledger) → Spares act old → Leads act old new
      → get old id ≡ Some held → get new id ≡ Some held
  one_stays (found other answer) old new spares leads has =
      subst (λ (l : Ledger). get l id ≡ Some held) (sym leads.1) has
  one_stays (kept auction) old new spares leads has =
      subst (λ (l : Ledger). get l id ≡ Some held) (sym leads) (put_stays old auction spares has)
  one_stays refused old new spares leads has = subst (λ (l : Ledger). get l id ≡ Some held) (sym leads) has
  one_stays opened old new spares leads has = subst (λ (l : Ledger). get l id ≡ Some held) (sym leads) has
  one_stays (stopped auction) old new spares (inl same) has =
      subst (λ (l : Ledger). get l id ≡ Some held) (sym same) has
  one_stays (stopped auction) old new spares (inr is) has =
      subst (λ (l : Ledger). get l id ≡ Some held) (sym is) (put_stays old auction spares has)

  pub answered_stays : (acts : List Act) (old new : Ledger) → AllSpare acts old
      → LeadOn acts old new → get old id ≡ Some held → get new id ≡ Some held
  answered_stays [] old new spares leads has = subst (λ (l : Ledger). get l id ≡ Some held) (sym leads) has
  answered_stays (act ∷ acts) old new spares leads has =
      answered_stays acts leads.0 new (spares.1 leads.0 leads.1) leads.2
      (one_stays act old leads.0 spares.0 leads.1 has)

-- whatever is found behind a list of acts under the id of what was answered is that
pub found_for_ever : {S : Type 0} (g : Ghosts S) (settled : IsSettled g) (acts : List Act)
    (old new last : Held S) (ledger : Ledger) (id : List ℕ) (held : Auction)
    (challenge : Challenge) (answer : Option Auction)
    → Tells g old ledger → get ledger id ≡ Some held → challenge_of held.phase ≡ Some challenge
    → AllSpare acts ledger → Runs g acts old new → HasFound g id answer new last
    → answer ≡ Some held
found_for_ever g settled acts old new last ledger id held challenge answer tells has answered spares ran did =
    let after = run_tells g settled acts old new ledger ran tells in
    let asked = one_act g settled (found id answer) new last after.0 did after.2 in
    asked.1.0 ∙ answered_stays id held challenge answered acts ledger after.0 spares after.1 has

-- a new store tells the ledger without auctions
pub begun_tells : {S : Type 0} (g : Ghosts S) (old new : Held S)
    → (state g old).now.schema ≡ no_schema → HasCleanDisk (state g new)
    → CommitsAtOnce {E = OpenErr} (Prepares g old) (state g old) (state g new) (Ok tt)
    → Tells g new empty
begun_tells g old new blank clean once =
    let now = seen_at_once (Prepares g old) (λ (d : Database). IsStore d × TablesTell d.trees empty)
    (state g old) (state g new) (Ok tt) (λ whole made. prepared_new g old whole blank made) once
    clean in
    record { seen = once.seen clean; store = now.0; told = now.1 }
