-- The auction that `prove` and `answer` are done on: it stands under the id afterwards, and is
-- proved.
use Rattle.std.proofs.Common.{◌≡◌, ℕ, ◌==◌, true, not, List, [], length, Option, Some, None, IfSome, IsSome, unwrap_or, refl, sym, ap, subst, ◌∙◌, arith}
use Rattle.std.specs.Bool.{then_some}
use Rattle.std.specs.FinMap.{get}
use Rattle.std.specs.Option.{option_or}
use Rattle.std.specs.Str.{bytes_eq}
use Rattle.std.proofs.lemmas.Bool.Decides.{Decides-eqb}
use Rattle.vk_reply.specs.declared.challenge.Challenge.{Challenge}
use Rattle.vk_keeper.specs.declared.auction.Auction.{Auction}
use Rattle.vk_keeper.specs.declared.auction.Phase.{Phase}
use Rattle.vk_keeper.specs.declared.auction.Phase.TheVariants.{Taking, Proved, Answered}
use Rattle.vk_keeper.specs.Auctions.{IsAuction, challenge_of, seed_of}
use Rattle.vk_keeper.specs.Joining.{first_of}
use Rattle.vk_keeper.specs.Ledgers.{Ledger, IsKeptUnder, IsLedger}
use Rattle.vk_job.specs.Jobs.{IsProvedAuction, dry_in, sale_in}
use Rattle.vk_house.specs.declared.errors.HouseErr.{HouseErr}
use Rattle.vk_house.specs.declared.errors.HouseErr.TheVariants.{OtherSeed}
use Rattle.vk_house.specs.Commands.{HouseCommand, Prove, Answer, id_of, IsHouseCommand}
use Rattle.vk_house.specs.Tests.{dry_seed}
use Rattle.vk_house.specs.Refusals.{refusal_of, refusals_of}
use Rattle.vk_house.specs.Replies.{HouseReply, Work, reply_to}
use Rattle.vk_house.specs.Steps.{step_by, step_at, kept_by, in_phase, house_step}
use Rattle.vk_house.proofs.Deciding.{challenge_with, dry_in_phase, kept_same, same_seed}
use Rattle.vk_house.proofs.Passing.{none_holds, nothing_there}
use Rattle.vk_house.proofs.Rights.{call_right}
use Rattle.vk_house.proofs.Stepping.{here_after}
use Rattle.vk_auctioneer.specs.Lines.{reply_said}

-- ---- a step that is said with status 0

-- the reply of a command, where it is one that gives work
abbrev pub GivesWork : HouseCommand → Type 0
GivesWork command = (auction : Auction)
    → reply_to command (Some auction) ≡ Work auction (sale_in auction)

work_reply : (command : HouseCommand) → GivesWork command → (later : Option Auction)
    → (reply_said command (reply_to command later)).status ≡ 0 → (auction : Auction)
    × ((later ≡ Some auction) × (reply_to command later ≡ Work auction (sale_in auction)))
work_reply command works None done = absurd (omega arith)
work_reply command works (Some auction) done = (auction, (refl, works auction))

-- the step was not refused, and gave work on the auction that then stands there
record Works (refusal : Option HouseErr) (command : HouseCommand) (found kept : Option Auction)
    (auction : Auction) : Type 0 where
  passes : refusal ≡ None
  later : option_or kept found ≡ Some auction
  reply : (step_by refusal command found kept).reply ≡ Work auction (sale_in auction)
  kept_is : (step_by refusal command found kept).kept ≡ kept

step_works : (command : HouseCommand) → GivesWork command
    → (refusal : Option HouseErr) (found kept : Option Auction)
    → (reply_said command (step_by refusal command found kept).reply).status ≡ 0
    → (auction : Auction) × Works refusal command found kept auction
step_works command works (Some refusal) found kept done = absurd (omega arith)
step_works command works None found kept done =
    let work = work_reply command works (option_or kept found) done in
    (work.0, record { passes = refl; later = work.1.0; reply = work.1.1; kept_is = refl })

-- what was done on the ledger
pub record Worked (ledger : Ledger) (command : HouseCommand) (auction : Auction) : Type 0 where
  pub passes : refusal_of command (get ledger (id_of command)) ≡ None
  pub later : option_or (kept_by command (get ledger (id_of command))) (get ledger (id_of command))
      ≡ Some auction
  pub reply : (house_step ledger command).0 ≡ Work auction (sale_in auction)
  pub kept : get (house_step ledger command).1 (id_of command) ≡ Some auction

pub worked : (ledger : Ledger) (command : HouseCommand) → GivesWork command
    → (reply_said command (house_step ledger command).0).status ≡ 0 → (auction : Auction)
    × Worked ledger command auction
unfolding step_at
worked ledger command works done =
    let id = id_of command in
    let found = get ledger id in
    let kept = kept_by command found in
    let work = step_works command works (refusal_of command found) found kept done in (
      work.0,
      record {
        passes = work.1.passes;
        later = work.1.later;
        reply = work.1.reply;
        kept = here_after ledger id (step_at command found).kept
            ∙ ap (λ k. option_or k found) work.1.kept_is ∙ work.1.later;
      },
    )

-- it is an auction
pub worked_right : (ledger : Ledger) (command : HouseCommand) (auction : Auction)
    → Worked ledger command auction → IsHouseCommand command → IsLedger ledger → IsAuction auction
worked_right ledger command auction work asks right =
    let new = (house_step ledger command).1 in
    let kept = call_right ledger new command (Work auction (sale_in auction))
    (ap (λ (reply : HouseReply). (reply, new)) work.reply) asks right (id_of command) in
    let stands : IsKeptUnder (id_of command) auction =
    subst (λ found. IfSome found (IsKeptUnder (id_of command))) work.kept kept in
    stands.right

pub proved_from : (auction : Auction) (seed : List ℕ) → IsAuction auction
    → seed_of auction.phase ≡ Some seed → dry_in auction seed ≡ None → IsProvedAuction auction
proved_from auction seed right seeded tapes = record {
  right = right;
  seeded = subst IsSome (sym seeded) refl;
  tapes = ap (λ (s : Option (List ℕ)). dry_in auction (unwrap_or s [])) seeded ∙ tapes;
}

-- ---- `prove`

-- the auction has the seed, which gives a tape for every lane
pub record Seeded (auction : Auction) (seed : List ℕ) : Type 0 where
  pub seed_is : seed_of auction.phase ≡ Some seed
  pub tapes : dry_in auction seed ≡ None

-- where the kept seed is the given one
seeded_as : (auction : Auction) (kept seed : List ℕ) → seed_of auction.phase ≡ Some kept
    → then_some (not (bytes_eq kept seed)) (OtherSeed kept) ≡ None
    → dry_seed (dry_in auction seed) ≡ None → Seeded auction seed
seeded_as auction kept seed is same none = record {
  seed_is = is ∙ ap Some (same_seed kept seed same);
  tapes = nothing_there _ (dry_in auction seed) none;
}

prove_by : (asked seed : List ℕ) (held : Auction) (phase : Phase)
    → let auction = in_phase held phase in refusal_of (Prove asked seed) (Some auction) ≡ None
    → IfSome (option_or (kept_by (Prove asked seed) (Some auction)) (Some auction))
    (λ later. Seeded later seed)
unfolding first_of
prove_by asked seed held Taking passes =
    let auction = in_phase held Taking in
    let tests = none_holds (refusals_of (Prove asked seed) (Some auction)) passes in
    record {
      seed_is = refl;
      tapes = dry_in_phase auction (Proved seed) seed
          ∙ nothing_there _ (dry_in auction seed) tests.1.1.1.0;
    }
prove_by asked seed held (Proved kept) passes =
    let auction = in_phase held (Proved kept) in
    let tests = none_holds (refusals_of (Prove asked seed) (Some auction)) passes in
    seeded_as auction kept seed refl tests.1.1.0 tests.1.1.1.0
prove_by asked seed held (Answered kept challenge) passes =
    let auction = in_phase held (Answered kept challenge) in
    let tests = none_holds (refusals_of (Prove asked seed) (Some auction)) passes in
    seeded_as auction kept seed refl tests.1.1.0 tests.1.1.1.0

pub prove_seeds : (asked seed : List ℕ) (found : Option Auction) (later : Auction)
    → refusal_of (Prove asked seed) found ≡ None
    → option_or (kept_by (Prove asked seed) found) found ≡ Some later → Seeded later seed
unfolding first_of
prove_seeds asked seed None later passes is = cc
prove_seeds asked seed (Some auction) later passes is =
    subst (λ found. IfSome found (λ (a : Auction). Seeded a seed)) is
    (prove_by asked seed auction auction.phase passes)

-- ---- `answer`

-- the auction has a seed that gives a tape for every lane, and the challenge was answered
pub record Challenged (auction : Auction) (challenge : Challenge) : Type 0 where
  pub seed : List ℕ
  pub seeded : Seeded auction seed
  pub challenge_is : challenge_of auction.phase ≡ Some challenge

answer_by : (asked : List ℕ) (challenge : Challenge) (held : Auction) (phase : Phase)
    → let auction = in_phase held phase in refusal_of (Answer asked challenge) (Some auction) ≡ None
    → IfSome (option_or (kept_by (Answer asked challenge) (Some auction)) (Some auction))
    (λ later. Challenged later challenge)
unfolding first_of
answer_by asked challenge held Taking passes = cc
answer_by asked challenge held (Proved seed) passes =
    let auction = in_phase held (Proved seed) in
    let tests = none_holds (refusals_of (Answer asked challenge) (Some auction)) passes in
    let tapes = dry_in_phase auction (Answered seed challenge) seed
    ∙ nothing_there _ (dry_in auction seed) tests.1.1.1.1.0 in
    record { seed = seed; seeded = record { seed_is = refl; tapes = tapes }; challenge_is = refl }
answer_by asked challenge held (Answered seed kept) passes =
    let auction = in_phase held (Answered seed kept) in
    let tests = none_holds (refusals_of (Answer asked challenge) (Some auction)) passes in
    let tapes = nothing_there _ (dry_in auction seed) tests.1.1.1.1.0 in
    record {
      seed = seed;
      seeded = record { seed_is = refl; tapes = tapes };
      challenge_is = ap (λ bits. Some (challenge_with bits))
          (kept_same challenge.bits kept.bits (nothing_there _ _ tests.1.1.1.0));
    }

pub answer_challenges : (asked : List ℕ) (challenge : Challenge) (found : Option Auction)
    (later : Auction) → refusal_of (Answer asked challenge) found ≡ None
    → option_or (kept_by (Answer asked challenge) found) found ≡ Some later
    → Challenged later challenge
unfolding first_of
answer_challenges asked challenge None later passes is = cc
answer_challenges asked challenge (Some auction) later passes is =
    subst (λ found. IfSome found (λ (a : Auction). Challenged a challenge)) is
    (answer_by asked challenge auction auction.phase passes)

-- ---- a challenge that is asked first

answer_passes : (asked : List ℕ) (challenge : Challenge) (held : Auction) (seed : List ℕ)
    → let auction = in_phase held (Proved seed) in length challenge.bits ≡ held.lanes
    → dry_in auction seed ≡ None → refusal_of (Answer asked challenge) (Some auction) ≡ None
unfolding first_of
answer_passes asked challenge held seed each tapes =
    let test : (length challenge.bits == held.lanes) ≡ true =
    (Decides-eqb (length challenge.bits) held.lanes).1 each in
    rw (test, tapes) refl

-- the step of an answer that isn't refused is said with status 0
answered_by : (asked : List ℕ) (challenge : Challenge) (refusal : Option HouseErr)
    (auction : Auction) (kept : Option Auction) → refusal ≡ None
    → (reply_said (Answer asked challenge)
    (step_by refusal (Answer asked challenge) (Some auction) kept).reply).status ≡ 0
answered_by asked challenge (Some refusal) auction kept passes = cc
answered_by asked challenge None auction None passes = refl
answered_by asked challenge None auction (Some later) passes = refl

answered_on : (asked : List ℕ) (challenge : Challenge) (held : Auction) (phase : Phase)
    (seed : List ℕ) → let auction = in_phase held phase in phase ≡ Proved seed
    → IsProvedAuction auction → length challenge.bits ≡ held.lanes
    → (reply_said (Answer asked challenge)
    (step_at (Answer asked challenge) (Some auction)).reply).status ≡ 0
unfolding step_at
answered_on asked challenge held Taking seed is proved each = cc
answered_on asked challenge held (Proved kept) seed is proved each =
    let auction = in_phase held (Proved kept) in
    answered_by asked challenge (refusal_of (Answer asked challenge) (Some auction)) auction
    (kept_by (Answer asked challenge) (Some auction))
    (answer_passes asked challenge held kept each proved.tapes)
answered_on asked challenge held (Answered kept given) seed is proved each = cc

pub answered_first : (ledger : Ledger) (asked : List ℕ) (challenge : Challenge) (auction : Auction)
    (seed : List ℕ) → get ledger asked ≡ Some auction → auction.phase ≡ Proved seed
    → IsProvedAuction auction → length challenge.bits ≡ auction.lanes
    → (reply_said (Answer asked challenge) (house_step ledger (Answer asked challenge)).0).status
    ≡ 0
answered_first ledger asked challenge auction seed held phase proved each =
    subst (λ found. (reply_said (Answer asked challenge)
    (step_at (Answer asked challenge) found).reply).status ≡ 0) (sym held)
    (answered_on asked challenge auction auction.phase seed phase proved each)
