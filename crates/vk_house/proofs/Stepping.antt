-- What one call does to what stands under an id.
use Rattle.std.proofs.Common.{◌≡◌, ◌≢◌, ℕ, ◌⊎◌, inl, inr, true, false, cond, List, Option, Some, None, refl, sym, ap, subst, ◌∙◌}
use Rattle.std.specs.Option.{option_or}
use Rattle.std.specs.Str.{bytes_eq}
use Rattle.std.specs.FinMap.{get, insert, get-insert}
use Rattle.std.proofs.lemmas.Bool.{true≢false}
use Rattle.std.proofs.lemmas.Cmp.{nat_list_cmp_total}
use Rattle.std.proofs.lemmas.Map.Text.{is_eq-slice_cmp}
use Rattle.std.proofs.lemmas.Slice.Eq.{bytes_eq-Decides}
use Rattle.vk_reply.specs.declared.challenge.Challenge.{Challenge}
use Rattle.vk_seal.specs.declared.secret.Secret.{Secret}
use Rattle.vk_seal.specs.declared.secret.Seal.{Seal}
use Rattle.vk_keeper.specs.declared.auction.Auction.{Auction}
use Rattle.vk_keeper.specs.declared.auction.Phase.{Phase}
use Rattle.vk_keeper.specs.declared.auction.Phase.TheVariants.{Taking, Proved, Answered}
use Rattle.vk_keeper.specs.Joining.{first_of, join_refusal, with_last}
use Rattle.vk_keeper.specs.Ledgers.{Ledger}
use Rattle.vk_job.specs.Jobs.{dry_in}
use Rattle.vk_house.specs.declared.errors.HouseErr.{HouseErr}
use Rattle.vk_house.specs.declared.errors.HouseErr.TheVariants.{KeeperFailed, NoMemory}
use Rattle.vk_house.specs.Commands.{HouseCommand, Announce, AnnounceReserve, Submit, Prove, Answer, Show, id_of}
use Rattle.vk_house.specs.Replies.{HouseReply, Refused, new_auction, reply_to}
use Rattle.vk_house.specs.Tests.{house_err_of, no_seals, other_length}
use Rattle.vk_house.specs.Refusals.{refusals_of, refusal_of}
use Rattle.vk_house.specs.Steps.{step_by, step_at, kept_by, in_phase, ledger_after, house_step, HouseCall}
use Rattle.vk_house.proofs.Passing.{none_holds, nothing_there}

-- ---- a ledger at an id

pub same_or_other : (id other : List ℕ)
    → (id ≡ other) ⊎ ((id ≢ other) × (bytes_eq id other ≡ false))
same_or_other id other =
    elim (bytes_eq id other) as
    (λ b. bytes_eq id other ≡ b → (id ≡ other) ⊎ ((id ≢ other) × (bytes_eq id other ≡ false))) [
      | true ↦ λ equal. inl ((bytes_eq-Decides id other).0 equal)
      | false ↦ λ differ. inr (
        (λ same.
            true≢false (sym ((bytes_eq-Decides id other).1 same) ∙ differ)),
        differ,
      )
    ] refl

pub get_after : (ledger : Ledger) (id asked : List ℕ) (auction : Auction)
    → get (insert ledger id auction) asked
    ≡ cond (bytes_eq asked id) (Some auction) (get ledger asked)
get_after ledger id asked auction =
    get-insert nat_list_cmp_total ledger id auction asked
    ∙ ap (λ b. cond b (Some auction) (get ledger asked)) (is_eq-slice_cmp asked id)

pub get_here : (ledger : Ledger) (id : List ℕ) (auction : Auction)
    → get (insert ledger id auction) id ≡ Some auction
get_here ledger id auction =
    get_after ledger id id auction
    ∙ ap (λ b. cond b (Some auction) (get ledger id)) ((bytes_eq-Decides id id).1 refl)

pub here_after : (ledger : Ledger) (id : List ℕ) (kept : Option Auction)
    → get (ledger_after ledger id kept) id ≡ option_or kept (get ledger id)
here_after ledger id None = refl
here_after ledger id (Some auction) = get_here ledger id auction

other_test : (id other : List ℕ) → id ≢ other → bytes_eq id other ≡ false
other_test id other differ =
    elim (same_or_other id other) [ inl same ↦ absurd (differ same) | inr tests ↦ tests.1 ]

pub others_after : (ledger : Ledger) (id other : List ℕ) (kept : Option Auction) → other ≢ id
    → get (ledger_after ledger id kept) other ≡ get ledger other
others_after ledger id other None differ = refl
others_after ledger id other (Some auction) differ =
    get_after ledger id other auction
    ∙ ap (λ b. cond b (Some auction) (get ledger other)) (other_test other id differ)

-- ---- a call

-- a call is the step, or leaves the ledger
pub call_cases : (old new : Ledger) (command : HouseCommand) (reply : HouseReply)
    → HouseCall old command reply new → (house_step old command ≡ (reply, new)) ⊎ (new ≡ old)
call_cases old new command (Refused KeeperFailed) call = inr call
call_cases old new command (Refused NoMemory) call = inr call
call_cases old new command reply call = inl call

-- a call between other ledgers, where the step and the ledger that is left are
pub call_moved : (old new other later : Ledger) (command : HouseCommand) (reply : HouseReply)
    → (house_step old command ≡ (reply, new) → house_step other command ≡ (reply, later))
    → (new ≡ old → later ≡ other) → HouseCall old command reply new
    → HouseCall other command reply later
call_moved old new other later command (Refused KeeperFailed) steps stays call = stays call
call_moved old new other later command (Refused NoMemory) steps stays call = stays call
call_moved old new other later command reply steps stays call = steps call

-- what stands under an id after a command
unfoldable pub value_after : HouseCommand → Option Auction → Option Auction
value_after command found = option_or (step_at command found).kept found

-- what a step leaves under its own id, and under another
pub step_here : (old new : Ledger) (command : HouseCommand) (reply : HouseReply)
    → house_step old command ≡ (reply, new)
    → get new (id_of command) ≡ value_after command (get old (id_of command))
unfolding value_after
step_here old new command reply is =
    ap (λ (r : HouseReply × Ledger). get r.1 (id_of command)) (sym is)
    ∙ here_after old (id_of command) (step_at command (get old (id_of command))).kept

pub step_reply : (old new : Ledger) (command : HouseCommand) (reply : HouseReply)
    → house_step old command ≡ (reply, new)
    → (step_at command (get old (id_of command))).reply ≡ reply
step_reply old new command reply is = ap (λ (r : HouseReply × Ledger). r.0) is

pub call_others : (old new : Ledger) (command : HouseCommand) (reply : HouseReply) (id : List ℕ)
    → HouseCall old command reply new → id ≢ id_of command → get new id ≡ get old id
call_others old new command reply id call differ =
    elim (call_cases old new command reply call) [
      | inl is ↦ ap (λ (r : HouseReply × Ledger). get r.1 id) (sym is)
          ∙ others_after old (id_of command) id (step_at command (get old (id_of command))).kept
          differ
      | inr same ↦ ap (λ l. get l id) same
    ]

step_each : (P : List ℕ → Option Auction → Option Auction → Type 0) (old new : Ledger)
    (command : HouseCommand) (reply : HouseReply)
    → ((id : List ℕ) (found : Option Auction) → P id found found)
    → P (id_of command) (get old (id_of command)) (value_after command (get old (id_of command)))
    → house_step old command ≡ (reply, new) → (id : List ℕ) → (id ≡ id_of command)
    ⊎ ((id ≢ id_of command) × (bytes_eq id (id_of command) ≡ false))
    → P id (get old id) (get new id)
step_each P old new command reply same own is id (inl its) =
    subst (λ i. P i (get old i) (get new i)) (sym its)
    (subst (P (id_of command) (get old (id_of command)))
    (sym (step_here old new command reply is)) own)
step_each P old new command reply same own is id (inr differ) =
    subst (P id (get old id)) (sym
    (ap (λ (r : HouseReply × Ledger). get r.1 id) (sym is)
    ∙ others_after old (id_of command) id (step_at command (get old (id_of command))).kept
    differ.0)) (same id (get old id))

-- what a call makes of each id, by what a step makes of its own
pub call_each : (P : List ℕ → Option Auction → Option Auction → Type 0) (old new : Ledger)
    (command : HouseCommand) (reply : HouseReply)
    → ((id : List ℕ) (found : Option Auction) → P id found found)
    → P (id_of command) (get old (id_of command)) (value_after command (get old (id_of command)))
    → HouseCall old command reply new → (id : List ℕ) → P id (get old id) (get new id)
call_each P old new command reply same own call id =
    elim (call_cases old new command reply call) [
      | inl is ↦ step_each P old new command reply same own is id (same_or_other id (id_of command))
      | inr stays ↦ subst (λ l. P id (get old id) (get l id)) (sym stays) (same id (get old id))
    ]

-- ---- a refused step

replies : (command : HouseCommand) (auction : Auction) (refusal : HouseErr)
    → reply_to command (Some auction) ≡ Refused refusal → ⊥
replies (Announce id width lanes) auction refusal is = cc
replies (AnnounceReserve id width lanes reserve) auction refusal is = cc
replies (Submit id seal secret) auction refusal is = cc
replies (Prove id seed) auction refusal is = cc
replies (Answer id challenge) auction refusal is = cc
replies (Show id) auction refusal is = cc

kept_none : (command : HouseCommand) (test : Option HouseErr) (found kept : Option Auction)
    (refusal : HouseErr) → (step_by test command found kept).reply ≡ Refused refusal
    → (step_by test command found kept).kept ≡ None
kept_none command (Some given) found kept refusal is = refl
kept_none command None found None refusal is = refl
kept_none command None found (Some auction) refusal is = absurd (replies command auction refusal is)

-- it leaves the ledger
pub refused_stays : (ledger : Ledger) (command : HouseCommand) (refusal : HouseErr)
    → (house_step ledger command).0 ≡ Refused refusal → (house_step ledger command).1 ≡ ledger
unfolding step_at
refused_stays ledger command refusal is =
    let found = get ledger (id_of command) in
    ap (ledger_after ledger (id_of command))
    (kept_none command (refusal_of command found) found (kept_by command found) refusal is)

-- so each step is a call
pub step_is_call : (old new : Ledger) (command : HouseCommand) (reply : HouseReply)
    → house_step old command ≡ (reply, new) → HouseCall old command reply new
step_is_call old new command (Refused KeeperFailed) is =
    sym (ap (λ (r : HouseReply × Ledger). r.1) is)
    ∙ refused_stays old command KeeperFailed (ap (λ (r : HouseReply × Ledger). r.0) is)
step_is_call old new command (Refused NoMemory) is =
    sym (ap (λ (r : HouseReply × Ledger). r.1) is)
    ∙ refused_stays old command NoMemory (ap (λ (r : HouseReply × Ledger). r.0) is)
step_is_call old new command reply is = is

-- ---- each change of what stands under an id

-- what holds of each change that a command makes, and where it makes none
pub record OfChanges (P : HouseCommand → Option Auction → Option Auction → Type 0) : Type 0 where
  pub same : (command : HouseCommand) (found : Option Auction) → P command found found
  pub opens : (id : List ℕ) (width lanes : ℕ)
      → P (Announce id width lanes) None (Some (new_auction 1 id width lanes 0))
  pub reserves : (id : List ℕ) (width lanes reserve : ℕ)
      → P (AnnounceReserve id width lanes reserve) None
      (Some (new_auction 2 id width lanes reserve))
  pub joins : (id : List ℕ) (seal : Seal) (secret : Secret) (held : Auction)
      → let auction = in_phase held Taking in join_refusal auction seal secret ≡ None
      → P (Submit id seal secret) (Some auction)
      (Some (with_last auction (record { seal = seal; secret = secret })))
  pub proves : (id seed : List ℕ) (held : Auction) → let auction = in_phase held Taking in
      no_seals auction.seals ≡ None → dry_in auction seed ≡ None
      → P (Prove id seed) (Some auction) (Some (in_phase auction (Proved seed)))
  pub answers : (id seed : List ℕ) (challenge : Challenge) (held : Auction)
      → let auction = in_phase held (Proved seed) in other_length challenge auction.lanes ≡ None
      → P (Answer id challenge) (Some auction) (Some (in_phase auction (Answered seed challenge)))

module _ (P : HouseCommand → Option Auction → Option Auction → Type 0) (of : OfChanges P) where
  -- a command that isn't refused, by the phase of what it finds
  each_by : (command : HouseCommand) (held : Auction) (phase : Phase)
      → let auction = in_phase held phase in refusal_of command (Some auction) ≡ None
      → P command (Some auction) (option_or (kept_by command (Some auction)) (Some auction))
  unfolding first_of
  each_by (Announce id width lanes) held phase passes = cc
  each_by (AnnounceReserve id width lanes reserve) held phase passes = cc
  each_by (Submit id seal secret) held Taking passes =
      let auction = in_phase held Taking in
      let tests = none_holds (refusals_of (Submit id seal secret) (Some auction)) passes in
      of.joins id seal secret held
      (nothing_there house_err_of (join_refusal auction seal secret) tests.1.1.0)
  each_by (Submit id seal secret) held (Proved kept) passes = cc
  each_by (Submit id seal secret) held (Answered kept given) passes = cc
  each_by (Prove id seed) held Taking passes =
      let auction = in_phase held Taking in
      let tests = none_holds (refusals_of (Prove id seed) (Some auction)) passes in
      of.proves id seed held tests.1.0 (nothing_there _ (dry_in auction seed) tests.1.1.1.0)
  each_by (Prove id seed) held (Proved kept) passes =
      of.same (Prove id seed) (Some (in_phase held (Proved kept)))
  each_by (Prove id seed) held (Answered kept given) passes =
      of.same (Prove id seed) (Some (in_phase held (Answered kept given)))
  each_by (Answer id challenge) held Taking passes = cc
  each_by (Answer id challenge) held (Proved seed) passes =
      let auction = in_phase held (Proved seed) in
      let tests = none_holds (refusals_of (Answer id challenge) (Some auction)) passes in
      of.answers id seed challenge held tests.1.1.0
  each_by (Answer id challenge) held (Answered seed kept) passes =
      of.same (Answer id challenge) (Some (in_phase held (Answered seed kept)))
  each_by (Show id) held phase passes = of.same (Show id) (Some (in_phase held phase))

  each_tested : (command : HouseCommand) (found : Option Auction) (refusal : Option HouseErr)
      → refusal_of command found ≡ refusal → P command found
      (option_or (step_by refusal command found (kept_by command found)).kept found)
  each_tested command found (Some refusal) is = of.same command found
  each_tested (Announce id width lanes) None None is = of.opens id width lanes
  each_tested (AnnounceReserve id width lanes reserve) None None is =
      of.reserves id width lanes reserve
  each_tested command None None is = of.same command None
  each_tested command (Some auction) None is = each_by command auction auction.phase is

  pub value_each : (command : HouseCommand) (found : Option Auction)
      → P command found (value_after command found)
  unfolding value_after step_at
  value_each command found = each_tested command found (refusal_of command found) refl

-- ---- the first law

pub same_reply : (one other : Ledger) (command : HouseCommand)
    → get one (id_of command) ≡ get other (id_of command)
    → (house_step one command).0 ≡ (house_step other command).0
same_reply one other command same = ap (λ found. (step_at command found).reply) same

pub same_value : (one other : Ledger) (command : HouseCommand)
    → get one (id_of command) ≡ get other (id_of command)
    → get (house_step one command).1 (id_of command)
    ≡ get (house_step other command).1 (id_of command)
same_value one other command same =
    let id = id_of command in
    here_after one id (step_at command (get one id)).kept
    ∙ ap (λ found. option_or (step_at command found).kept found) same
    ∙ sym (here_after other id (step_at command (get other id)).kept)
