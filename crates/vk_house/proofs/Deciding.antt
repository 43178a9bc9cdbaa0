-- The step of proving and of answering, once all tests but that of the seed have passed.
use Rattle.std.proofs.Common.{◌≡◌, ℕ, zero, suc, ◌+◌, Bool, not, List, [], ◌∷◌, Option, Some, None, refl, sym, ap, ◌∙◌}
use Rattle.std.specs.Bool.{then_some, beq}
use Rattle.std.specs.Option.{option_or}
use Rattle.std.specs.Str.{bytes_eq}
use Rattle.std.specs.Cmp.{booleans_Decides}
use Rattle.std.proofs.lemmas.Slice.Eq.{bytes_eq-Decides, slice_eq-Decides}
use Rattle.std.specs.Cmp.Lexicographic.{pointwise}
use Rattle.vk_reply.specs.declared.challenge.Challenge.{Challenge}
use Rattle.vk_keeper.specs.declared.auction.Auction.{Auction}
use Rattle.vk_keeper.specs.declared.auction.Phase.{Phase}
use Rattle.vk_keeper.specs.declared.auction.Phase.TheVariants.{Taking, Proved, Answered}
use Rattle.vk_keeper.specs.Auctions.{challenge_of}
use Rattle.vk_keeper.specs.Joining.{first_of}
use Rattle.vk_job.specs.Proofs.{Dry, dry_or, drawn_in, first_dry_from}
use Rattle.vk_job.specs.Jobs.{dry_from, dry_in, seed_in, tape_of, plan_of, sale_in}
use Rattle.vk_house.specs.declared.errors.HouseErr.{HouseErr}
use Rattle.vk_house.specs.declared.errors.HouseErr.TheVariants.{OtherSeed, OtherChallenge}
use Rattle.vk_house.specs.Commands.{HouseCommand, Prove, Answer}
use Rattle.vk_house.specs.Replies.{Work, reply_to}
use Rattle.vk_house.specs.Tests.{no_seals, other_seed, still_taking, other_length, other_than, other_challenge, dry_seed}
use Rattle.vk_house.specs.Refusals.{refusal_of}
use Rattle.vk_house.specs.Steps.{step_by, step_at, in_phase, phase_proved, phase_answered}
use Rattle.vk_house.proofs.Passing.{test_passed, nothing_there}
use Rattle.vk_house.specs.Deciding.{IsDryAtMost, own_dry, phased, worked, work_step}

-- a phase has no part in which wires are dry
dry_from_phase : (auction : Auction) (phase : Phase) (seed : List ℕ) (lane count : ℕ)
    → dry_from (in_phase auction phase) seed lane count ≡ dry_from auction seed lane count
unfolding first_dry_from drawn_in plan_of
dry_from_phase auction phase seed lane zero = refl
dry_from_phase auction phase seed lane (suc count) =
    ap (dry_or (tape_of auction seed lane) lane)
    (dry_from_phase auction phase seed (lane + 1) count)

pub dry_in_phase : (auction : Auction) (phase : Phase) (seed : List ℕ)
    → dry_in (in_phase auction phase) seed ≡ dry_in auction seed
dry_in_phase auction phase seed = dry_from_phase auction phase seed 1 auction.lanes

dry_seed_in_phase : (auction : Auction) (phase : Phase) (seed : List ℕ)
    → dry_seed (dry_in (in_phase auction phase) seed) ≡ dry_seed (dry_in auction seed)
dry_seed_in_phase auction phase seed = ap dry_seed (dry_in_phase auction phase seed)

-- a test that passed is left out
passed : {X : Type 0} (test : Option X) (rest : List (Option X)) → test ≡ None
    → first_of (test ∷ rest) ≡ first_of rest
unfolding first_of
passed test rest none = ap (λ t. first_of (t ∷ rest)) none

only : {X : Type 0} (test : Option X) → first_of (test ∷ []) ≡ test
unfolding first_of
only None = refl
only (Some x) = refl

-- the work is the step, where it is refused for the same and replies with the auction afterwards
same_step : (refusal : Option HouseErr) (command : HouseCommand) (found kept : Option Auction)
    (later : Auction) → reply_to command (option_or kept found) ≡ Work later (sale_in later)
    → worked refusal later kept ≡ step_by refusal command found kept
same_step (Some refusal) command found kept later replies = refl
same_step None command found kept later replies =
    ap (λ reply. record { reply = reply; kept = kept }) (sym replies)

-- ---- proving

prove_left : (id seed : List ℕ) (auction : Auction) → no_seals auction.seals ≡ None
    → other_seed seed auction.phase ≡ None
    → refusal_of (Prove id seed) (Some auction) ≡ dry_seed (dry_in auction seed)
unfolding first_of
prove_left id seed auction some same =
    passed (no_seals auction.seals) _ some ∙ passed (other_seed seed auction.phase) _ same
    ∙ only (dry_seed (dry_in auction seed))

pub same_seed : (kept seed : List ℕ) → then_some (not (bytes_eq kept seed)) (OtherSeed kept) ≡ None
    → kept ≡ seed
same_seed kept seed none = (bytes_eq-Decides kept seed).0
    (test_passed (bytes_eq kept seed) (OtherSeed kept) none)

-- by the fields of the auction
prove_by : (held : Auction) (phase : Phase) (asked seed : List ℕ)
    → let auction = in_phase held phase in no_seals auction.seals ≡ None
    → other_seed seed auction.phase ≡ None
    → work_step auction (phase_proved seed phase) ≡ step_at (Prove asked seed) (Some auction)
unfolding step_at
prove_by held Taking asked seed some same =
    let auction = in_phase held Taking in
    let later : Auction = in_phase auction (Proved seed) in
    ap (λ r. worked r later (Some later))
    (dry_seed_in_phase auction (Proved seed) seed
    ∙ sym (prove_left asked seed auction some same))
    ∙ same_step _ (Prove asked seed) (Some auction) (Some later) later refl
prove_by held (Proved kept) asked seed some same =
    let auction = in_phase held (Proved kept) in
    ap (λ r. worked r auction None)
    (ap (λ s. dry_seed (dry_in auction s)) (same_seed kept seed same)
    ∙ sym (prove_left asked seed auction some same))
    ∙ same_step _ (Prove asked seed) (Some auction) None auction refl
prove_by held (Answered kept challenge) asked seed some same =
    let auction = in_phase held (Answered kept challenge) in
    ap (λ r. worked r auction None)
    (ap (λ s. dry_seed (dry_in auction s)) (same_seed kept seed same)
    ∙ sym (prove_left asked seed auction some same))
    ∙ same_step _ (Prove asked seed) (Some auction) None auction refl

pub prove_step : (auction : Auction) (found : Option Auction) (phase : Option Phase)
    (asked seed : List ℕ) → found ≡ Some auction → None ≡ no_seals auction.seals
    → None ≡ other_seed seed auction.phase → phase ≡ phase_proved seed auction.phase
    → work_step auction phase ≡ step_at (Prove asked seed) found
prove_step auction found phase asked seed is some same brings =
    ap (work_step auction) brings
    ∙ prove_by auction auction.phase asked seed (sym some) (sym same)
    ∙ ap (step_at (Prove asked seed)) (sym is)

-- the seed that is proved with is as dry before as it is after
dry_by : (held : Auction) (phase : Phase) (seed : List ℕ) → let auction = in_phase held phase in
    other_seed seed auction.phase ≡ None
    → dry_seed (dry_in auction seed) ≡ own_dry (phased auction (phase_proved seed phase))
dry_by held Taking seed same = sym (dry_seed_in_phase (in_phase held Taking) (Proved seed) seed)
dry_by held (Proved kept) seed same =
    ap (λ s. dry_seed (dry_in (in_phase held (Proved kept)) s)) (sym (same_seed kept seed same))
dry_by held (Answered kept challenge) seed same =
    ap (λ s. dry_seed (dry_in (in_phase held (Answered kept challenge)) s))
    (sym (same_seed kept seed same))

pub prove_unrefused : (auction : Auction) (found : Option Auction) (phase : Option Phase)
    (asked seed : List ℕ) → found ≡ Some auction → None ≡ no_seals auction.seals
    → None ≡ other_seed seed auction.phase → phase ≡ phase_proved seed auction.phase
    → own_dry (phased auction phase) ≡ None
    → refusal_of (Prove asked seed) found ≡ None
prove_unrefused auction found phase asked seed is some same brings none =
    rw is (prove_left asked seed auction (sym some) (sym same)
    ∙ dry_by auction auction.phase seed (sym same)
    ∙ ap (λ p. own_dry (phased auction p)) (sym brings) ∙ none)

-- ---- answering

abbrev pub challenge_with : List Bool → Challenge
challenge_with bits = record { bits = bits }

answer_left : (id : List ℕ) (challenge : Challenge) (auction : Auction)
    → still_taking auction.phase ≡ None → other_length challenge auction.lanes ≡ None
    → other_challenge challenge auction.phase ≡ None
    → refusal_of (Answer id challenge) (Some auction) ≡ own_dry auction
unfolding first_of
answer_left id challenge auction proved each same =
    passed (still_taking auction.phase) _ proved
    ∙ passed (other_length challenge auction.lanes) _ each
    ∙ passed (other_challenge challenge auction.phase) _ same ∙ only (own_dry auction)

answer_by : (held : Auction) (phase : Phase) (asked : List ℕ) (challenge : Challenge)
    → let auction = in_phase held phase in still_taking phase ≡ None
    → other_length challenge auction.lanes ≡ None → other_challenge challenge auction.phase ≡ None
    → work_step auction (phase_answered challenge phase)
    ≡ step_at (Answer asked challenge) (Some auction)
unfolding step_at
answer_by held Taking asked challenge proved each same = cc
answer_by held (Proved seed) asked challenge proved each same =
    let auction = in_phase held (Proved seed) in
    let later : Auction = in_phase auction (Answered seed challenge) in
    ap (λ r. worked r later (Some later))
    (dry_seed_in_phase auction (Answered seed challenge) seed
    ∙ sym (answer_left asked challenge auction proved each same))
    ∙ same_step _ (Answer asked challenge) (Some auction) (Some later) later refl
answer_by held (Answered seed kept) asked challenge proved each same =
    let auction = in_phase held (Answered seed kept) in
    ap (λ r. worked r auction None) (sym (answer_left asked challenge auction proved each same))
    ∙ same_step _ (Answer asked challenge) (Some auction) None auction refl

-- a seed that may be dry refuses it at most
dry_at_most : (dry : Option Dry) → IsDryAtMost (dry_seed dry)
dry_at_most None = tt
dry_at_most (Some dry) = tt

pub answer_dry_at_most : (auction : Auction) (found : Option Auction) (asked : List ℕ)
    (challenge : Challenge) → found ≡ Some auction → None ≡ still_taking auction.phase
    → None ≡ other_length challenge auction.lanes
    → None ≡ other_challenge challenge auction.phase
    → IsDryAtMost (refusal_of (Answer asked challenge) found)
answer_dry_at_most auction found asked challenge is proved each same =
    rw (is, answer_left asked challenge auction (sym proved) (sym each) (sym same))
    (dry_at_most (dry_in auction (seed_in auction)))

pub answer_step : (auction : Auction) (found : Option Auction) (phase : Option Phase)
    (asked : List ℕ) (challenge : Challenge) → found ≡ Some auction
    → None ≡ still_taking auction.phase → None ≡ other_length challenge auction.lanes
    → None ≡ other_challenge challenge auction.phase
    → phase ≡ phase_answered challenge auction.phase
    → work_step auction phase ≡ step_at (Answer asked challenge) found
answer_step auction found phase asked challenge is proved each same brings =
    ap (work_step auction) brings
    ∙ answer_by auction auction.phase asked challenge (sym proved) (sym each) (sym same)
    ∙ ap (step_at (Answer asked challenge)) (sym is)

pub kept_same : (bits kept : List Bool)
    → then_some (not (pointwise beq kept bits)) (challenge_with kept) ≡ None → kept ≡ bits
kept_same bits kept none =
    (slice_eq-Decides booleans_Decides kept bits (pointwise beq kept bits) refl).0
    (test_passed (pointwise beq kept bits) (challenge_with kept) none)

-- the auction of the answer has the challenge that was given
answered_by : (held : Auction) (phase : Phase) (challenge : Challenge)
    → let auction = in_phase held phase in None ≡ still_taking phase
    → other_than challenge (challenge_of phase) ≡ None
    → challenge_of (phased auction (phase_answered challenge phase)).phase ≡ Some challenge
answered_by held Taking challenge proved same = cc
answered_by held (Proved seed) challenge proved same = refl
answered_by held (Answered seed kept) challenge proved same =
    ap (λ bits. Some (challenge_with bits)) (kept_same challenge.bits kept.bits same)

pub answered_one : (auction : Auction) (phase : Option Phase) (challenge : Challenge)
    → None ≡ still_taking auction.phase → None ≡ other_challenge challenge auction.phase
    → phase ≡ phase_answered challenge auction.phase
    → challenge_of (phased auction phase).phase ≡ Some challenge
answered_one auction phase challenge proved same brings =
    ap (λ p. challenge_of (phased auction p).phase) brings
    ∙ answered_by auction auction.phase challenge proved
    (nothing_there OtherChallenge (other_than challenge (challenge_of auction.phase)) (sym same))
