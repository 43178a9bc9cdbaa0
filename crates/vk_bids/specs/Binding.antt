-- The law of a secret that is confronted with two accepted replies: its halves are those that they
-- open, or there are two openings of one commitment of its seal.
use Rattle.std.specs.Prelude.{◌≡◌, ◌≢◌, ◌↔◌, ◌⊎◌, ℕ, ◌-◌, All, List, ◌∷◌, ◌++◌, slice_get, Some, Ok, Err}
use Rattle.vk_commit.specs.Commitment.{TwoOpeningsSeen}
use Rattle.vk_io.specs.Files.{Files}
use Rattle.vk_lines.specs.Forms.{fault_line}
use Rattle.vk_wire.specs.Reads.{entry_digest}
use Rattle.vk_wire.specs.declared.wire.WireCom.{WireCom}
use Rattle.vk_seal.specs.Made.{seal_of}
use Rattle.vk_seal.specs.Match.{match_of}
use Rattle.vk_seal.specs.Tables.{secret_table}
use Rattle.vk_seal.specs.Texts.{secret_text}
use Rattle.vk_seal.specs.Values.{IsSecret}
use Rattle.vk_seal.specs.declared.matching.Mismatch.{Mismatch}
use Rattle.vk_seal.specs.declared.secret.Seal.{Seal}
use Rattle.vk_seal.specs.declared.secret.Secret.{Secret}
use Rattle.vk_board.specs.declared.board.SealLines.{SealLines}
use Rattle.vk_board.specs.declared.front.Front.{Front}
use Rattle.vk_extractor.specs.Confronting.{AreItsHalves, IsConfronted}
use Rattle.vk_bids.specs.declared.bids.LaneBids.{LaneBids}
use Rattle.vk_bids.specs.declared.bids.OpenedBid.{OpenedBid}
use Rattle.vk_bids.specs.declared.confrontation.Confrontation.{Confrontation}
use Rattle.vk_bids.specs.declared.confrontation.Confrontation.TheVariants.{Refused, Same, Malformed, NoSeal, Clash, Held}
use Rattle.vk_bids.specs.declared.confrontation.Confrontation.TheVariants as comes
use Rattle.vk_bids.specs.declared.extraction.Extracted.{Extracted}
use Rattle.vk_bids.specs.Confrontation.{confrontation_in, confrontation_on}
use Rattle.vk_judge.specs.HeldFiles.{HeldFiles, IsHeldFile}
use Rattle.vk_bids.specs.Headline.{IsExtraction, IsExtractionClash, TwoAccepted}

-- ---- the seal

-- the board's seal at that index, from 0, with the secret's seat
pub record IsSealAt (front : Front) (secret : Secret) (index : ℕ) : Type 0 where
  pub lines : SealLines
  pub on_board : slice_get front.seals index ≡ Some lines
  pub seat : lines.seat ≡ secret.seat

-- the board's seal with these lines
abbrev pub seal_with : Front → SealLines → Seal
seal_with front lines = record {
  auction = front.head.auction;
  seat = lines.seat;
  lanes = lines.coms;
}

-- the board's seal at that index is the secret's
pub record IsSealOf (front : Front) (secret : Secret) (index : ℕ) : Type 0 where
  pub stands : IsSealAt front secret index
  pub matches : seal_with front stands.lines ≡ seal_of secret

-- it isn't: this is the first field that differs
pub record HasMismatch (front : Front) (secret : Secret) (mismatch : Mismatch) : Type 0 where
  pub index : ℕ
  pub stands : IsSealAt front secret index
  pub differs : match_of secret (seal_with front stands.lines) ≡ Err mismatch

-- ---- the lanes

-- in the lane both halves of the bid of the seal at that index are the secret's, and so is the bid
pub record HoldsIn (secret : Secret) (index : ℕ) (lane : LaneBids) : Type 0 where
  pub bid : OpenedBid
  pub is : slice_get lane.bids index ≡ Some bid
  pub halves : AreItsHalves secret lane.number bid.first bid.second
  pub sum : bid.bid ≡ secret.bid

-- the board's seal of the seat is the secret's, and in each lane both halves are the secret's
pub record IsHeldBy (secret : Secret) (found : Extracted) : Type 0 where
  pub index : ℕ
  pub seal : IsSealOf found.front secret index
  pub lanes : All (HoldsIn secret index) found.lanes

-- the board's seal of the seat is the secret's, and in the first lane in which a half isn't the
-- secret's, one commitment of that seal has two openings: the secret's, and the one that is shown
pub record IsClashWith (secret : Secret) (found : Extracted) (clash : TwoOpeningsSeen) : Type 0
  where
    pub index : ℕ
    pub seal : IsSealOf found.front secret index
    pub earlier : List LaneBids
    pub lane : LaneBids
    pub later : List LaneBids
    pub lanes : found.lanes ≡ earlier ++ lane ∷ later
    pub before : All (HoldsIn secret index) earlier
    pub bid : OpenedBid
    pub is : slice_get lane.bids index ≡ Some bid
    pub two : IsConfronted secret lane.number bid.first bid.second clash
    pub digests : WireCom
    pub in_lane : slice_get seal.stands.lines.coms (lane.number - 1) ≡ Some digests
    pub committed : clash.digest ≡ entry_digest digests two.half

-- what a secret comes to against the bids of two accepted replies
abbrev pub IsConfrontationOf : Secret → Extracted → Confrontation → Type 0
IsConfrontationOf secret found (Refused second verdict) = ⊥
IsConfrontationOf secret found Same = ⊥
IsConfrontationOf secret found (Malformed line) = ⊥
IsConfrontationOf secret found (NoSeal seat) = (seat ≡ secret.seat)
    × All (λ lines. lines.seat ≢ secret.seat) found.front.seals
IsConfrontationOf secret found (comes.Mismatch mismatch) = HasMismatch found.front secret mismatch
IsConfrontationOf secret found (Clash clash) = IsClashWith secret found clash
IsConfrontationOf secret found (Held seat) = (seat ≡ secret.seat) × IsHeldBy secret found

-- ---- the laws

-- the replies open one commitment with two values, and that is the answer; or they give these bids,
-- and the answer is of them
abbrev pub ClashOr : {board challenge reply other second : List ℕ}
    → TwoAccepted board challenge reply other second → (Extracted → Type 0) → Confrontation → Type 0
ClashOr two IsAnswer confrontation =
    ((clash : TwoOpeningsSeen) × IsExtractionClash two clash × (confrontation ≡ Clash clash))
    ⊎ ((found : Extracted) × IsExtraction two found × IsAnswer found)

-- against two replies that are accepted for different challenges
abbrev pub SecretsAreBound : Type 0
SecretsAreBound = (board challenge reply other second file : List ℕ)
    (two : TwoAccepted board challenge reply other second) (secret : Secret)
    → IsSecret secret → file ≡ secret_text secret
    → let confrontation = confrontation_in board challenge reply other second file in
    ClashOr two (λ found. IsConfrontationOf secret found confrontation) confrontation

-- the secret is held, and in each lane both halves are the secret's; or there is a clash
abbrev pub HeldOrClash : Secret → ℕ → Extracted → Confrontation → Type 0
HeldOrClash secret index found confrontation =
    ((confrontation ≡ Held secret.seat) × All (HoldsIn secret index) found.lanes)
    ⊎ ((clash : TwoOpeningsSeen) × (confrontation ≡ Clash clash) × IsClashWith secret found clash)

-- where a seal on the board is the secret's, the secret is held or there is a clash: so there is
-- one where in some lane a half isn't the secret's
abbrev pub SealedAreHeldOrClash : Type 0
SealedAreHeldOrClash = (board challenge reply other second file : List ℕ)
    (two : TwoAccepted board challenge reply other second) (secret : Secret) (index : ℕ)
    → IsSecret secret → file ≡ secret_text secret → IsSealOf (two.first.front) secret index
    → let confrontation = confrontation_in board challenge reply other second file in
    ClashOr two (λ found. HeldOrClash secret index found confrontation) confrontation

-- a file that is no secret is named with its fault line
abbrev pub OthersAreMalformed : Type 0
OthersAreMalformed = (board challenge reply other second file : List ℕ)
    (two : TwoAccepted board challenge reply other second) (line : ℕ)
    → fault_line secret_table file ≡ Some line
    → let confrontation = confrontation_in board challenge reply other second file in
    ClashOr two (λ found. confrontation ≡ Malformed line) confrontation

-- the secret is asked for, or there is a clash
abbrev pub IsOfTwo : Confrontation → Type 0
IsOfTwo (Refused second verdict) = ⊥
IsOfTwo Same = ⊥
IsOfTwo (Malformed line) = Unit {0}
IsOfTwo (NoSeal seat) = Unit {0}
IsOfTwo (comes.Mismatch mismatch) = Unit {0}
IsOfTwo (Clash clash) = Unit {0}
IsOfTwo (Held seat) = Unit {0}

-- only replies that are accepted for different challenges come to that
abbrev pub OnlyAcceptedAreConfronted : Type 0
OnlyAcceptedAreConfronted = (board challenge reply other second file : List ℕ)
    → IsOfTwo (confrontation_in board challenge reply other second file)
    → TwoAccepted board challenge reply other second

-- what their bytes and those of a secret come to
abbrev pub confrontation_of_held : {files : Files} {board challenge reply other second : List ℕ}
    → HeldFiles files board challenge reply other second → List ℕ → Confrontation
confrontation_of_held held secret =
    confrontation_in held.file_bytes held.first.challenge_bytes held.first.reply_bytes
    held.second.challenge_bytes held.second.reply_bytes secret

-- the six files are held, and their bytes come to this confrontation
pub record ConfrontationOf (files : Files) (board challenge reply other second secret : List ℕ)
    (confrontation : Confrontation) : Type 0 where
  pub held : HeldFiles files board challenge reply other second
  pub secret_bytes : List ℕ
  pub secret_is : IsHeldFile files secret secret_bytes
  pub is : confrontation ≡ confrontation_of_held held secret_bytes

-- the confrontation of named files is that of their bytes, where all are held and none is too long
abbrev pub FilesAreConfronted : Type 0
FilesAreConfronted = (files : Files) (board challenge reply other second secret : List ℕ)
    (confrontation : Confrontation)
    → (confrontation_on files board challenge reply other second secret ≡ Ok confrontation)
    ↔ ConfrontationOf files board challenge reply other second secret confrontation
