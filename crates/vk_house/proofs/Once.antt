-- A proved auction keeps its seals and its seed, and an answered one stays as it is.
use Rattle.std.proofs.Common.{◌≡◌, ℕ, zero, suc, List, [], ◌∷◌, Option, Some, None, IfSome, IsSomeAnd, refl, sym, ap, subst, ◌∙◌, arith}
use Rattle.std.specs.Option.{option_or}
use Rattle.std.specs.FinMap.{get}
use Rattle.std.proofs.lemmas.Option.{same_Some}
use Rattle.vk_vickrey.specs.declared.sales.Sale.{Sale}
use Rattle.vk_reply.specs.declared.challenge.Challenge.{Challenge}
use Rattle.vk_keeper.specs.declared.auction.Auction.{Auction}
use Rattle.vk_keeper.specs.declared.auction.Phase.{Phase}
use Rattle.vk_keeper.specs.declared.auction.Phase.TheVariants.{Taking, Proved, Answered}
use Rattle.vk_keeper.specs.Auctions.{challenge_of, seed_of}
use Rattle.vk_keeper.specs.Joining.{first_of}
use Rattle.vk_keeper.specs.Ledgers.{Ledger}
use Rattle.vk_job.specs.Proofs.{drawn_in, lane_in}
use Rattle.vk_job.specs.Jobs.{plan_of, values_of}
use Rattle.vk_job.specs.Published.{board_of, head_of}
use Rattle.vk_house.specs.declared.errors.HouseErr.{HouseErr}
use Rattle.vk_house.specs.Commands.{HouseCommand, Answer, id_of}
use Rattle.vk_house.specs.Replies.{HouseReply, Work}
use Rattle.vk_house.specs.Tests.{other_than}
use Rattle.vk_house.specs.Refusals.{refusals_of, refusal_of}
use Rattle.vk_house.specs.Steps.{step_by, step_at, kept_by, in_phase, HouseCall}
use Rattle.vk_house.specs.Runs.{Event, HouseRun}
use Rattle.vk_house.specs.Once.{KeepsSeed, KeepsAnswer, KeepsAnswers, IsAnswered}
use Rattle.vk_house.proofs.Passing.{none_holds, nothing_there}
use Rattle.vk_house.proofs.Deciding.{challenge_with, kept_same}
use Rattle.vk_house.proofs.Stepping.{OfChanges, value_after, step_here, step_reply, call_each, value_each}

-- what KeepsAnswers says at an id
abbrev Stays : Option Auction → Option Auction → Type 0
Stays old new = IfSome old (λ auction. KeepsAnswer auction auction.phase new)

-- ---- one auction

stays_by : (held : Auction) (phase : Phase) → let auction = in_phase held phase in
    KeepsAnswer auction phase (Some auction)
stays_by held Taking = tt
stays_by held (Proved seed) = record { same = refl; seed = refl }
stays_by held (Answered seed challenge) = refl

stays : (found : Option Auction) → Stays found found
stays None = tt
stays (Some auction) = stays_by auction auction.phase

of_stays : OfChanges (λ command. Stays)
of_stays = record {
  same = λ command. stays;
  opens = λ id width lanes. tt;
  reserves = λ id width lanes reserve. tt;
  joins = λ id seal secret held may_join. tt;
  proves = λ id seed held some none_dry. tt;
  answers = λ id seed challenge held each. record { same = refl; seed = refl };
}

-- ---- ledgers

pub call_keeps : (old new : Ledger) (command : HouseCommand) (reply : HouseReply)
    → HouseCall old command reply new → KeepsAnswers old new
call_keeps old new command reply =
    call_each (λ id. Stays) old new command reply (λ id. stays)
    (value_each (λ command. Stays) of_stays command (get old (id_of command)))

pub keeps_same : (ledger : Ledger) → KeepsAnswers ledger ledger
keeps_same ledger id = stays (get ledger id)

-- an auction with that seed later, and one still later
seed_on : (auction later last : Auction) (kept : List ℕ) → KeepsSeed auction kept later
    → KeepsSeed later kept last → KeepsSeed auction kept last
seed_on auction later last kept first second = record {
  same = second.same ∙ ap (λ (a : Auction). record a { phase = last.phase }) first.same;
  seed = second.seed;
}

proved_on : (auction : Auction) (kept : List ℕ) (held : Auction) (phase : Phase)
    (last : Option Auction) → let later = in_phase held phase in KeepsSeed auction kept later
    → KeepsAnswer later phase last → IsSomeAnd last (KeepsSeed auction kept)
proved_on auction kept held Taking last first second = cc first.seed
proved_on auction kept held (Proved seed) None first second = absurd second
proved_on auction kept held (Proved seed) (Some last) first second =
    seed_on auction (in_phase held (Proved seed)) last kept first
    (subst (λ s. KeepsSeed (in_phase held (Proved seed)) s last)
    (same_Some seed kept first.seed) second)
proved_on auction kept held (Answered seed challenge) last first second =
    subst (λ l. IsSomeAnd l (KeepsSeed auction kept)) (sym second) first

on_by : (held : Auction) (phase : Phase) (between last : Option Auction)
    → let auction = in_phase held phase in KeepsAnswer auction phase between → Stays between last
    → KeepsAnswer auction phase last
on_by held Taking between last first second = tt
on_by held (Proved seed) None last first second = absurd first
on_by held (Proved seed) (Some later) last first second =
    proved_on (in_phase held (Proved seed)) seed later later.phase last first second
on_by held (Answered seed challenge) between last first second =
    subst (λ b. Stays b last) first second

stays_on : (found between last : Option Auction) → Stays found between → Stays between last
    → Stays found last
stays_on None between last first second = tt
stays_on (Some auction) between last first second =
    on_by auction auction.phase between last first second

pub keeps_on : (old between new : Ledger) → KeepsAnswers old between → KeepsAnswers between new
    → KeepsAnswers old new
keeps_on old between new first second id =
    stays_on (get old id) (get between id) (get new id) (first id) (second id)

pub run_keeps : (events : List Event) (old new : Ledger) → HouseRun events old new
    → KeepsAnswers old new
run_keeps [] old new run = subst (KeepsAnswers old) (sym run) (keeps_same old)
run_keeps (event ∷ later) old new run =
    keeps_on old run.0 new (call_keeps old run.0 event.command event.reply run.1)
    (run_keeps later run.0 new run.2)

-- ---- what is published of an auction

-- its board is that of its seed: no challenge is in it
board_by : (held : Auction) (phase : Phase) (seed : List ℕ) → seed_of phase ≡ Some seed
    → board_of (in_phase held phase) ≡ board_of (in_phase held (Proved seed))
unfolding head_of lane_in plan_of values_of drawn_in
board_by held Taking seed is = cc
board_by held (Proved kept) seed is =
    ap (λ s. board_of (in_phase held (Proved s))) (same_Some kept seed is)
board_by held (Answered kept challenge) seed is =
    ap (λ s. board_of (in_phase held (Proved s))) (same_Some kept seed is)

-- an auction stands there, whose board is that one
pub record HasBoard (found : Option Auction) (board : List ℕ) : Type 0 where
  pub auction : Auction
  pub stands : found ≡ Some auction
  pub board_is : board_of auction ≡ board

board_stays_by : (held : Auction) (phase : Phase) (seed : List ℕ) (later : Option Auction)
    → let auction = in_phase held phase in seed_of phase ≡ Some seed
    → KeepsAnswer auction phase later → HasBoard later (board_of auction)
board_stays_by held Taking seed later is keeps = cc
board_stays_by held (Proved kept) seed None is keeps = absurd keeps
board_stays_by held (Proved kept) seed (Some last) is keeps = record {
  auction = last;
  stands = refl;
  board_is = ap board_of keeps.same ∙ board_by held last.phase kept keeps.seed;
}
board_stays_by held (Answered kept challenge) seed later is keeps =
    record { auction = in_phase held (Answered kept challenge); stands = keeps; board_is = refl }

answer_stays_by : (auction : Auction) (phase : Phase) (challenge : Challenge)
    (later : Option Auction) → challenge_of phase ≡ Some challenge
    → KeepsAnswer auction phase later → later ≡ Some auction
answer_stays_by auction Taking challenge later is keeps = cc
answer_stays_by auction (Proved seed) challenge later is keeps = cc
answer_stays_by auction (Answered seed kept) challenge later is keeps = keeps

keeps_at : (old new : Ledger) (id : List ℕ) (auction : Auction) → KeepsAnswers old new
    → get old id ≡ Some auction → KeepsAnswer auction auction.phase (get new id)
keeps_at old new id auction keeps stands =
    subst (λ found. Stays found (get new id)) stands (keeps id)

-- an auction that has a seed keeps its board
pub board_stays : (old new : Ledger) (id seed : List ℕ) (auction : Auction) → KeepsAnswers old new
    → get old id ≡ Some auction → seed_of auction.phase ≡ Some seed
    → HasBoard (get new id) (board_of auction)
board_stays old new id seed auction keeps stands is =
    board_stays_by auction auction.phase seed (get new id) is
    (keeps_at old new id auction keeps stands)

-- and one that was answered stays
pub answer_stays : (old new : Ledger) (id : List ℕ) (challenge : Challenge) (auction : Auction)
    → KeepsAnswers old new → get old id ≡ Some auction
    → challenge_of auction.phase ≡ Some challenge → get new id ≡ Some auction
answer_stays old new id challenge auction keeps stands is =
    answer_stays_by auction auction.phase challenge (get new id) is
    (keeps_at old new id auction keeps stands)

-- ---- once

-- an auction in which this challenge is answered
abbrev Answers : Challenge → Option Auction → Type 0
Answers challenge found = IsSomeAnd found (λ auction. challenge_of auction.phase ≡ Some challenge)

stays_answered : (challenge : Challenge) (found later : Option Auction) → Answers challenge found
    → Stays found later → Answers challenge later
stays_answered challenge None later is keeps = absurd is
stays_answered challenge (Some auction) later is keeps =
    subst (Answers challenge)
    (sym (answer_stays_by auction auction.phase challenge later is keeps)) is

answered_in : (asked : List ℕ) (challenge : Challenge) (held : Auction) (phase : Phase)
    → let auction = in_phase held phase in refusal_of (Answer asked challenge) (Some auction) ≡ None
    → Answers challenge (option_or (kept_by (Answer asked challenge) (Some auction)) (Some auction))
unfolding first_of
answered_in asked challenge held Taking passes = cc
answered_in asked challenge held (Proved seed) passes = refl
answered_in asked challenge held (Answered seed kept) passes =
    let auction = in_phase held (Answered seed kept) in
    let tests = none_holds (refusals_of (Answer asked challenge) (Some auction)) passes in
    ap (λ bits. Some (challenge_with bits))
    (kept_same challenge.bits kept.bits
    (nothing_there _ (other_than challenge (Some kept)) tests.1.1.1.0))

work_answers : (asked : List ℕ) (challenge : Challenge) (found : Option Auction)
    (refusal : Option HouseErr) (auction : Auction) (sale : Sale)
    → refusal_of (Answer asked challenge) found ≡ refusal
    → (step_by refusal (Answer asked challenge) found
    (kept_by (Answer asked challenge) found)).reply ≡ Work auction sale
    → Answers challenge (option_or
    (step_by refusal (Answer asked challenge) found (kept_by (Answer asked challenge) found)).kept
    found)
work_answers asked challenge found (Some refusal) auction sale is works = cc
work_answers asked challenge None None auction sale is works = cc
work_answers asked challenge (Some found) None auction sale is works =
    answered_in asked challenge found found.phase is

value_answers : (asked : List ℕ) (challenge : Challenge) (found : Option Auction)
    (auction : Auction) (sale : Sale)
    → (step_at (Answer asked challenge) found).reply ≡ Work auction sale
    → Answers challenge (value_after (Answer asked challenge) found)
unfolding value_after step_at
value_answers asked challenge found auction sale works =
    work_answers asked challenge found (refusal_of (Answer asked challenge) found) auction sale refl
    works

call_answers : (old new : Ledger) (id : List ℕ) (challenge : Challenge) (auction : Auction)
    (sale : Sale) → HouseCall old (Answer id challenge) (Work auction sale) new
    → Answers challenge (get new id)
call_answers old new id challenge auction sale is =
    subst (Answers challenge) (sym (step_here old new (Answer id challenge) (Work auction sale) is))
    (value_answers id challenge (get old id) auction sale
    (step_reply old new (Answer id challenge) (Work auction sale) is))

run_answers : (events : List Event) (old new : Ledger) (id : List ℕ) (challenge : Challenge)
    → HouseRun events old new → IsAnswered id events challenge → Answers challenge (get new id)
run_answers [] old new id challenge run (auction, sale, (k, below, at)) = absurd (omega arith)
run_answers (event ∷ later) old new id challenge run (auction, sale, (zero, below, at)) =
    let call = subst (λ (e : Event). HouseCall old e.command e.reply run.0) at run.1 in
    stays_answered challenge (get run.0 id) (get new id)
    (call_answers old run.0 id challenge auction sale call) (run_keeps later run.0 new run.2 id)
run_answers (event ∷ later) old new id challenge run (auction, sale, (suc k, below, at)) =
    run_answers later run.0 new id challenge run.2 (auction, sale, (k, omega arith, at))

one_answer : (first second : Challenge) (found : Option Auction) → Answers first found
    → Answers second found → first ≡ second
one_answer first second None one other = absurd one
one_answer first second (Some auction) one other = cc (one, other)

pub answered_once : (events : List Event) (old new : Ledger) (id : List ℕ)
    (first second : Challenge) → HouseRun events old new → IsAnswered id events first
    → IsAnswered id events second → first ≡ second
answered_once events old new id first second run one other =
    one_answer first second (get new id) (run_answers events old new id first run one)
    (run_answers events old new id second run other)
