-- What a bidder's secret comes to against two replies to a board.
use Rattle.std.specs.Prelude.{ℕ, ◌^◌, ◌≤◌, ◌==◌, nat_lt, if◌then◌else◌, false, true, List, [], ◌∷◌, length, position, slice_get, slice_index_or, Option, Some, None, IfSome, Result, Ok, Err}
use Rattle.std.specs.FinMap.{get}
use Rattle.vk_residue.specs.Steps.{◌>>=◌}
use Rattle.vk_commit.specs.Commitment.{TwoOpeningsSeen}
use Rattle.vk_io.specs.Files.{Files}
use Rattle.vk_lines.specs.Lines.{Rest}
use Rattle.vk_seal.specs.declared.matching.Mismatch.{Mismatch}
use Rattle.vk_seal.specs.declared.secret.Seal.{Seal}
pub use Rattle.vk_seal.specs.declared.secret.Secret.{Secret}
pub use Rattle.vk_seal.specs.Match.{match_of}
pub use Rattle.vk_seal.specs.Reading.{secret_at}
use Rattle.vk_board.specs.declared.board.Head.{Head}
use Rattle.vk_board.specs.declared.board.SealLines.{SealLines}
use Rattle.vk_extractor.specs.Clash.{or_else}
use Rattle.vk_extractor.specs.Confronting.{OpensSecret, confronted}
use Rattle.vk_judge.specs.declared.answers.VErr.{VErr}
use Rattle.vk_judge.specs.declared.answers.VErr.TheVariants as verr
use Rattle.vk_judge.specs.Begun.{from_start}
use Rattle.vk_bids.specs.declared.bids.LaneBids.{LaneBids}
use Rattle.vk_bids.specs.declared.bids.OpenedBid.{OpenedBid}
use Rattle.vk_bids.specs.declared.confrontation.ConfrontErr.{ConfrontErr}
use Rattle.vk_bids.specs.declared.confrontation.ConfrontErr.TheVariants.{Unread, MissingSecret, TooLongSecret}
use Rattle.vk_bids.specs.declared.confrontation.SecretAndReplies.{SecretAndReplies}
use Rattle.vk_bids.specs.declared.confrontation.Confrontation.{Confrontation}
use Rattle.vk_bids.specs.declared.confrontation.Confrontation.TheVariants as comes
use Rattle.vk_bids.specs.declared.extraction.Extracted.{Extracted}
use Rattle.vk_bids.specs.declared.extraction.Extraction.TheVariants.{Refused, Same, Clash, Bids}
use Rattle.vk_bids.specs.Extraction.{Extraction, extraction_in, extraction_on}

-- ---- the lanes

-- the secret against a bid of the lane of that number
abbrev pub confronted_bid : Secret → ℕ → Option OpenedBid → Option TwoOpeningsSeen
confronted_bid secret number None = None
confronted_bid secret number (Some bid) = confronted secret number bid.first bid.second

-- the secret against the bid of the seal at that index, from 0, in the lane
abbrev pub confronted_lane : Secret → ℕ → LaneBids → Option TwoOpeningsSeen
confronted_lane secret index lane = confronted_bid secret lane.number (slice_get lane.bids index)

-- lane by lane, the first clash
unfoldable pub confronted_lanes : Secret → ℕ → List LaneBids → Option TwoOpeningsSeen
confronted_lanes secret index [] = None
confronted_lanes secret index (lane ∷ lanes) =
    or_else (confronted_lane secret index lane) (confronted_lanes secret index lanes)

-- ---- the seal

-- the index, from 0, of the seal of that seat
abbrev pub index_of_seat : ℕ → List SealLines → Option ℕ
index_of_seat seat seals = position (λ seal. seal.seat == seat) seals

-- what a board has past its last seal
abbrev pub no_seal : SealLines
no_seal = record { seat = 0; coms = [] }

-- the board's seal at that index
abbrev pub board_seal : Head → List SealLines → ℕ → Seal
board_seal head seals index =
    let lines = slice_index_or seals index no_seal in
    record { auction = head.auction; seat = lines.seat; lanes = lines.coms }

-- where the secret matches its seal: a clash, or it is held
abbrev pub held_by : ℕ → Option TwoOpeningsSeen → Confrontation
held_by seat None = comes.Held seat
held_by seat (Some two) = comes.Clash two

-- the secret against the seal at that index
abbrev pub matched_by : Secret → ℕ → List LaneBids → Result Unit Mismatch → Confrontation
matched_by secret index lanes (Err mismatch) = comes.Mismatch mismatch
matched_by secret index lanes (Ok done) = held_by secret.seat (confronted_lanes secret index lanes)

abbrev pub sealed_by : Secret → Extracted → Option ℕ → Confrontation
sealed_by secret found None = comes.NoSeal secret.seat
sealed_by secret found (Some index) =
    matched_by secret index found.lanes
    (match_of secret (board_seal found.front.head found.front.seals index))

-- the secret against the seal of its seat, and then against the bids of that seal
abbrev pub confronted_found : Secret → Extracted → Confrontation
confronted_found secret found = sealed_by secret found (index_of_seat secret.seat found.front.seals)

-- ---- the files

-- against bids alone a secret is asked for, and then the file may have a fault line
abbrev pub found_by : Extracted → Result Secret ℕ → Confrontation
found_by found (Ok secret) = confronted_found secret found
found_by found (Err line) = comes.Malformed line

abbrev pub confrontation_of : Extraction → Result Secret ℕ → Confrontation
confrontation_of (Refused second verdict) secret = comes.Refused second verdict
confrontation_of Same secret = comes.Same
confrontation_of (Clash two) secret = comes.Clash two
confrontation_of (Bids found) secret = found_by found secret

-- a secret that was read, or the fault line
abbrev pub secret_in : Result (Secret × Rest) ℕ → Result Secret ℕ
secret_in (Ok read) = Ok read.0
secret_in (Err line) = Err line

-- what the bytes of a board, a challenge and the reply to it, another challenge and reply, and a
-- secret come to
abbrev pub confrontation_in : List ℕ → List ℕ → List ℕ → List ℕ → List ℕ → List ℕ → Confrontation
confrontation_in board challenge reply other second secret =
    confrontation_of (extraction_in board challenge reply other second)
    (secret_in (secret_at (from_start secret)))

-- which file of an extraction is missing or too long
abbrev pub of_extraction : {X : Type 0} → Result X VErr → Result X ConfrontErr
of_extraction (Ok x) = Ok x
of_extraction (Err refused) = Err (Unread refused)

-- the file of a secret from its first line on, where it is held and has at most 2^30 bytes
abbrev pub secret_begun : Option (List ℕ) → Result Rest ConfrontErr
secret_begun None = Err MissingSecret
secret_begun (Some bytes) = if nat_lt (2 ^ 30) (length bytes) then Err TooLongSecret
    else Ok (from_start bytes)

-- the same of the named files; or the first of them, in this order, that is missing or too long
unfoldable pub confrontation_on : Files → List ℕ → List ℕ → List ℕ → List ℕ → List ℕ → List ℕ
    → Result Confrontation ConfrontErr
confrontation_on files board challenge reply other second secret = do
  extraction ← of_extraction (extraction_on files board challenge reply other second)
  rest ← secret_begun (get files secret)
  Ok (confrontation_of extraction (secret_in (secret_at rest)))

abbrev pub confrontation_named : Files → SecretAndReplies → Result Confrontation ConfrontErr
confrontation_named files names =
    let replies = names.replies in
    confrontation_on files replies.file.now replies.challenge1.now replies.reply1.now
    replies.challenge2.now replies.reply2.now names.secret.now

-- which file is missing or too long, as a refusal tells it. A failure of the outside and want of
-- memory tell none
abbrev pub fault_of : ConfrontErr → Option ConfrontErr
fault_of (Unread verr.Failed) = None
fault_of (Unread verr.NoMemory) = None
fault_of refusal = Some refusal

-- ---- what is asked for

-- the lane of that number is one of the secret's, and the bid opens the secret's commitments in it
pub record OpensSecretBid (secret : Secret) (number : ℕ) (bid : OpenedBid) : Type 0 where
  pub some_lane : 1 ≤ number
  pub last_lane : number ≤ length secret.lanes
  pub first_opens : OpensSecret secret number false bid.first
  pub second_opens : OpensSecret secret number true bid.second

-- so does the bid of the seal at that index, in the lane
abbrev pub OpensSecretIn : Secret → ℕ → LaneBids → Type 0
OpensSecretIn secret index lane =
    IfSome (slice_get lane.bids index) (OpensSecretBid secret lane.number)
