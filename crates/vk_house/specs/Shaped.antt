-- What a house does, whatever it keeps of an auction: its table of tests, its replies and its step.
-- The house of today is one such, and so is the one from before auctions had a version and a
-- reserve.
use Rattle.std.specs.Prelude.{ℕ, List, [], ◌∷◌, length, Option, Some, None, option_map, option_and_then, unwrap_or}
use Rattle.std.specs.Option.{option_or}
use Rattle.std.specs.Ordering.{nat_cmp}
use Rattle.std.specs.Cmp.Lexicographic.{slice_cmp}
use Rattle.std.specs.FinMap.{FinMap, get, insert}
use Rattle.vk_reply.specs.declared.challenge.Challenge.{Challenge}
use Rattle.vk_seal.specs.declared.secret.Secret.{Secret}
use Rattle.vk_seal.specs.declared.secret.Seal.{Seal}
use Rattle.vk_keeper.specs.declared.auction.Phase.{Phase}
use Rattle.vk_keeper.specs.declared.auction.Phase.TheVariants.{Taking, Proved, Answered}
use Rattle.vk_keeper.specs.declared.auction.SealRow.{SealRow}
use Rattle.vk_keeper.specs.declared.joining.Refusal.{Refusal}
use Rattle.vk_keeper.specs.Auctions.{seed_of}
use Rattle.vk_keeper.specs.Joining.{first_of}
use Rattle.vk_job.specs.Proofs.{Dry}
use Rattle.vk_house.specs.declared.errors.HouseErr.{HouseErr}
use Rattle.vk_house.specs.declared.errors.HouseErr.TheVariants.{Unknown}
use Rattle.vk_house.specs.Commands.{HouseCommand, Announce, AnnounceReserve, Submit, Prove, Answer, Show, id_of}
use Rattle.vk_house.specs.Tests.{known, unknown, not_taking, still_taking, house_err_of, other_length, no_seals, other_seed, other_challenge, dry_seed}

-- what it keeps of an auction (A): how that begins, what is read of it and made of it, its sale (S)
-- and how it stands (T)
pub record HouseShape (A S T : Type 0) : Type 0 where
  pub opened : (id : List ℕ) (width lanes : ℕ) → A
  -- with a reserve, if the house knows any
  pub reserved : (id : List ℕ) (width lanes reserve : ℕ) → Option A
  pub lanes : A → ℕ
  pub phase : A → Phase
  pub seals : A → List SealRow
  pub with_last : A → SealRow → A
  pub in_phase : A → Phase → A
  pub may_not_join : A → Seal → Secret → Option Refusal
  -- the first wire that is dry with that seed
  pub dry : A → List ℕ → Option Dry
  pub sale : A → S
  pub standing : A → T

-- that it is done; the position of a seal, from 1; an auction with its sale, to publish or to reply
-- from; how an auction stands; or a refusal
pub data Reply (A S T : Type 0) : Type 0 where
  Done : Reply A S T
  Position : (position : ℕ) → Reply A S T
  Work : (auction : A) (sale : S) → Reply A S T
  Stands : (standing : T) → Reply A S T
  Refused : (refusal : HouseErr) → Reply A S T

-- what comes of a command: its reply, and the auction that is kept anew under its id, if one is
pub record Step (A S T : Type 0) : Type 0 where
  pub reply : Reply A S T
  pub kept : Option A

-- the phase that proving, or answering, brings, where it is another
abbrev pub phase_proved : List ℕ → Phase → Option Phase
phase_proved seed Taking = Some (Proved seed)
phase_proved seed (Proved kept) = None
phase_proved seed (Answered kept challenge) = None

abbrev pub phase_answered : Challenge → Phase → Option Phase
phase_answered challenge Taking = None
phase_answered challenge (Proved seed) = Some (Answered seed challenge)
phase_answered challenge (Answered seed kept) = None

-- the ledger after a step: all other ids stay
abbrev pub ledger_after : {A : Type 0} → FinMap (slice_cmp nat_cmp) A → List ℕ → Option A
    → FinMap (slice_cmp nat_cmp) A
ledger_after ledger id None = ledger
ledger_after ledger id (Some auction) = insert ledger id auction

abbrev pub refused : {A S T : Type 0} → HouseErr → Step A S T
refused refusal = record { reply = Refused refusal; kept = None }

module _ {A S T : Type 0} (shape : HouseShape A S T) where
  -- the tests of each command on what stands under its id, in the order in which they are made
  abbrev pub refusals_of : HouseCommand → Option A → List (Option HouseErr)
  refusals_of (Announce id width lanes) found =
      known found
      ∷ []
  refusals_of (AnnounceReserve id width lanes reserve) found =
      known found
      ∷ []
  refusals_of (Submit id seal secret) found =
      unknown found
      ∷ option_and_then (λ auction. not_taking (shape.phase auction)) found
      ∷ option_and_then (λ auction. option_map house_err_of
      (shape.may_not_join auction seal secret)) found
      ∷ []
  refusals_of (Prove id seed) found =
      unknown found
      ∷ option_and_then (λ auction. no_seals (shape.seals auction)) found
      ∷ option_and_then (λ auction. other_seed seed (shape.phase auction)) found
      ∷ option_and_then (λ auction. dry_seed (shape.dry auction seed)) found
      ∷ []
  refusals_of (Answer id challenge) found =
      unknown found
      ∷ option_and_then (λ auction. still_taking (shape.phase auction)) found
      ∷ option_and_then (λ auction. other_length challenge (shape.lanes auction)) found
      ∷ option_and_then (λ auction. other_challenge challenge (shape.phase auction)) found
      ∷ option_and_then (λ auction.
      dry_seed (shape.dry auction (unwrap_or (seed_of (shape.phase auction)) []))) found
      ∷ []
  refusals_of (Show id) found =
      unknown found
      ∷ []

  -- the first that holds
  abbrev pub refusal_of : HouseCommand → Option A → Option HouseErr
  refusal_of command found = first_of (refusals_of command found)

  -- the auction that a command which isn't refused keeps anew under its id, if it keeps one
  abbrev pub kept_by : HouseCommand → Option A → Option A
  kept_by (Announce id width lanes) found = Some (shape.opened id width lanes)
  kept_by (AnnounceReserve id width lanes reserve) found = shape.reserved id width lanes reserve
  kept_by (Submit id seal secret) found =
      option_map (λ auction. shape.with_last auction (record { seal = seal; secret = secret }))
      found
  kept_by (Prove id seed) None = None
  kept_by (Prove id seed) (Some auction) =
      option_map (shape.in_phase auction) (phase_proved seed (shape.phase auction))
  kept_by (Answer id challenge) None = None
  kept_by (Answer id challenge) (Some auction) =
      option_map (shape.in_phase auction) (phase_answered challenge (shape.phase auction))
  kept_by (Show id) found = None

  -- the reply to a command that isn't refused, by what then stands under the id; a command that is
  -- not an announcement finds an auction there
  abbrev pub reply_to : HouseCommand → Option A → Reply A S T
  reply_to command None = Refused Unknown
  reply_to (Announce id width lanes) (Some auction) = Done
  reply_to (AnnounceReserve id width lanes reserve) (Some auction) = Done
  reply_to (Submit id seal secret) (Some auction) = Position (length (shape.seals auction))
  reply_to (Prove id seed) (Some auction) = Work auction (shape.sale auction)
  reply_to (Answer id challenge) (Some auction) = Work auction (shape.sale auction)
  reply_to (Show id) (Some auction) = Stands (shape.standing auction)

  -- a command that is refused, or that keeps this
  abbrev pub step_by : Option HouseErr → HouseCommand → Option A → Option A → Step A S T
  step_by (Some refusal) command found kept = refused refusal
  step_by None command found kept =
      record { reply = reply_to command (option_or kept found); kept = kept }

  -- the step of a command by what stands under its id
  abbrev pub step_at : HouseCommand → Option A → Step A S T
  step_at command found = step_by (refusal_of command found) command found (kept_by command found)

-- ---- on a ledger

-- a step by what stands under the id of the command
abbrev pub stepped : {A S T : Type 0} → (HouseCommand → Option A → Step A S T)
    → FinMap (slice_cmp nat_cmp) A → HouseCommand → Reply A S T × FinMap (slice_cmp nat_cmp) A
stepped step_at ledger command =
    let step = step_at command (get ledger (id_of command)) in
    (step.reply, ledger_after ledger (id_of command) step.kept)

-- the replies to commands one after another, and the last ledger
abbrev pub stepped_all : {L R : Type 0} → (L → HouseCommand → R × L) → L → List HouseCommand
    → List R × L
stepped_all step ledger [] = ([], ledger)
stepped_all step ledger (command ∷ later) =
    let here = step ledger command in
    let rest = stepped_all step here.1 later in
    (here.0 ∷ rest.0, rest.1)
