-- No seed that is kept is dry.
use Rattle.std.proofs.Common.{◌≡◌, ℕ, ◌==◌, not, List, [], length, Option, Some, None, option_map, IfSome, refl, sym, ap, subst, ◌∙◌}
use Rattle.std.specs.Option.{option_or}
use Rattle.std.specs.FinMap.{empty, get, get-empty}
use Rattle.vk_reply.specs.declared.challenge.Challenge.{Challenge}
use Rattle.vk_keeper.specs.declared.auction.Auction.{Auction}
use Rattle.vk_keeper.specs.declared.auction.Phase.{Phase}
use Rattle.vk_keeper.specs.declared.auction.Phase.TheVariants.{Taking, Proved, Answered}
use Rattle.vk_keeper.specs.Joining.{first_of}
use Rattle.vk_keeper.specs.Ledgers.{Ledger}
use Rattle.vk_job.specs.Proofs.{Dry}
use Rattle.vk_job.specs.Jobs.{dry_in}
use Rattle.vk_house.specs.declared.errors.HouseErr.{HouseErr}
use Rattle.vk_house.specs.declared.errors.HouseErr.TheVariants.{DrySeed, Length, OtherChallenge}
use Rattle.vk_house.specs.Commands.{HouseCommand, Answer, id_of}
use Rattle.vk_house.specs.Replies.{HouseReply, Refused, reply_to}
use Rattle.vk_house.specs.Tests.{dry_seed, other_length, other_than, other_challenge}
use Rattle.vk_house.specs.Refusals.{refusal_of}
use Rattle.vk_house.specs.Steps.{step_by, step_at, kept_by, in_phase, HouseCall}
use Rattle.vk_house.specs.Once.{SeedGivesTapes, SeedsGiveTapes}
use Rattle.vk_house.proofs.Deciding.{dry_in_phase}
use Rattle.vk_house.proofs.Passing.{not_first, refusal_is}
use Rattle.vk_house.proofs.Stepping.{OfChanges, step_reply, call_each, value_each}

-- the tapes are there later where they were before
abbrev Stays : Option Auction → Option Auction → Type 0
Stays old new = IfSome old SeedGivesTapes → IfSome new SeedGivesTapes

of_tapes : OfChanges (λ command. Stays)
of_tapes = record {
  same = λ command found has. has;
  opens = λ id width lanes has. tt;
  reserves = λ id width lanes reserve has. tt;
  joins = λ id seal secret held may_join has. tt;
  proves = λ id seed held some none_dry has.
      dry_in_phase (in_phase held Taking) (Proved seed) seed ∙ none_dry;
  answers = λ id seed challenge held each has.
      dry_in_phase (in_phase held (Proved seed)) (Answered seed challenge) seed ∙ has;
}

pub no_tapes : SeedsGiveTapes empty
no_tapes id = subst (λ found. IfSome found SeedGivesTapes) (sym (get-empty _ id)) tt

pub call_tapes : (old new : Ledger) (command : HouseCommand) (reply : HouseReply)
    → HouseCall old command reply new → SeedsGiveTapes old → SeedsGiveTapes new
call_tapes old new command reply call has id =
    call_each (λ id. Stays) old new command reply (λ id found it. it)
    (value_each (λ command. Stays) of_tapes command (get old (id_of command))) call id (has id)

-- ---- a challenge

length_not_dry : (challenge : Challenge) (auction : Auction) (lane wire : ℕ)
    → other_length challenge auction.lanes ≡ Some (DrySeed lane wire) → ⊥
length_not_dry challenge auction lane wire is =
    let same : Length auction.lanes (length challenge.bits) ≡ DrySeed lane wire =
    refusal_is (not (length challenge.bits == auction.lanes)) _ _ is in
    cc

other_not_dry : (other : Option Challenge) (lane wire : ℕ)
    → option_map OtherChallenge other ≡ Some (DrySeed lane wire) → ⊥
other_not_dry None lane wire is = cc
other_not_dry (Some kept) lane wire is = cc

tapes_not_dry : (found : Option Dry) (lane wire : ℕ) → found ≡ None
    → option_map (λ dry. DrySeed dry.lane dry.wire) found ≡ Some (DrySeed lane wire) → ⊥
tapes_not_dry None lane wire has is = cc
tapes_not_dry (Some dry) lane wire has is = cc

answers_by : (asked : List ℕ) (challenge : Challenge) (held : Auction) (phase : Phase)
    (lane wire : ℕ) → let auction = in_phase held phase in SeedGivesTapes auction
    → refusal_of (Answer asked challenge) (Some auction) ≡ Some (DrySeed lane wire) → ⊥
unfolding first_of
answers_by asked challenge held Taking lane wire has is = cc
answers_by asked challenge held (Proved seed) lane wire has is =
    let auction = in_phase held (Proved seed) in
    not_first (other_length challenge auction.lanes) _ (DrySeed lane wire)
    (length_not_dry challenge auction lane wire)
    (not_first (dry_seed (dry_in auction seed)) [] (DrySeed lane wire)
    (tapes_not_dry (dry_in auction seed) lane wire has) (λ none. cc)) is
answers_by asked challenge held (Answered seed kept) lane wire has is =
    let auction = in_phase held (Answered seed kept) in
    not_first (other_length challenge auction.lanes) _ (DrySeed lane wire)
    (length_not_dry challenge auction lane wire)
    (not_first (other_challenge challenge auction.phase) _ (DrySeed lane wire)
    (other_not_dry (other_than challenge (Some kept)) lane wire)
    (not_first (dry_seed (dry_in auction seed)) [] (DrySeed lane wire)
    (tapes_not_dry (dry_in auction seed) lane wire has) (λ none. cc))) is

answers : (asked : List ℕ) (challenge : Challenge) (found : Option Auction) (lane wire : ℕ)
    → IfSome found SeedGivesTapes
    → refusal_of (Answer asked challenge) found ≡ Some (DrySeed lane wire) → ⊥
unfolding first_of
answers asked challenge None lane wire has is = cc
answers asked challenge (Some auction) lane wire has is =
    answers_by asked challenge auction auction.phase lane wire has is

works : (asked : List ℕ) (challenge : Challenge) (auction : Auction) (kept : Option Auction)
    (refusal : HouseErr) → reply_to (Answer asked challenge) (option_or kept (Some auction))
    ≡ Refused refusal → ⊥
works asked challenge auction None refusal is = cc
works asked challenge auction (Some later) refusal is = cc

step_not_dry : (asked : List ℕ) (challenge : Challenge) (found : Option Auction)
    (refusal : Option HouseErr) (lane wire : ℕ) → IfSome found SeedGivesTapes
    → refusal_of (Answer asked challenge) found ≡ refusal
    → (step_by refusal (Answer asked challenge) found
    (kept_by (Answer asked challenge) found)).reply ≡ Refused (DrySeed lane wire) → ⊥
unfolding first_of
step_not_dry asked challenge found (Some refusal) lane wire has first is =
    let dry : refusal ≡ DrySeed lane wire = cc in
    answers asked challenge found lane wire has (first ∙ ap Some dry)
step_not_dry asked challenge None None lane wire has first is = cc
step_not_dry asked challenge (Some auction) None lane wire has first is =
    works asked challenge auction (kept_by (Answer asked challenge) (Some auction))
    (DrySeed lane wire) is

value_not_dry : (asked : List ℕ) (challenge : Challenge) (found : Option Auction) (lane wire : ℕ)
    → IfSome found SeedGivesTapes
    → (step_at (Answer asked challenge) found).reply ≡ Refused (DrySeed lane wire) → ⊥
unfolding step_at
value_not_dry asked challenge found lane wire has =
    step_not_dry asked challenge found (refusal_of (Answer asked challenge) found) lane wire has
    refl

pub answer_not_dry : (old new : Ledger) (id : List ℕ) (challenge : Challenge) (lane wire : ℕ)
    → SeedsGiveTapes old → HouseCall old (Answer id challenge) (Refused (DrySeed lane wire)) new → ⊥
answer_not_dry old new id challenge lane wire has is =
    value_not_dry id challenge (get old id) lane wire (has id)
    (step_reply old new (Answer id challenge) (Refused (DrySeed lane wire)) is)
