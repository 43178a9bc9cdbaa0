-- What is said of the replies of a house.
use Rattle.std.specs.Prelude.{ℕ, List, [], codes, decimal, Option, Some, None}
use Rattle.vk_lines.specs.Tokens.{hex_text}
use Rattle.vk_vickrey.specs.declared.sales.Sale.{Sale}
use Rattle.vk_vickrey.specs.declared.sales.Sale.TheVariants.{Sold}
use Rattle.vk_reply.specs.Texts.{bits_text}
use Rattle.vk_seal.specs.Mismatches.{mismatch_fields}
use Rattle.vk_keeper.specs.declared.auction.Auction.{Auction}
use Rattle.vk_job.specs.Jobs.{winner_of}
use Rattle.vk_house.specs.declared.errors.HouseErr.{HouseErr}
use Rattle.vk_house.specs.declared.errors.HouseErr.TheVariants as house
use Rattle.vk_house.specs.declared.standing.PhaseName.{PhaseName}
use Rattle.vk_house.specs.declared.standing.PhaseName.TheVariants.{Taking, Proved, Answered}
use Rattle.vk_house.specs.declared.standing.Standing.{Standing}
use Rattle.vk_house.specs.Commands.{HouseCommand, Submit, Answer, id_of}
use Rattle.vk_house.specs.Replies.{HouseReply, Done, Position, Work, Stands, Refused}
use Rattle.vk_effect.specs.Dry.{house_dry_line}
use Rattle.vk_effect.specs.Effects.{SaidValue}
use Rattle.vk_effect.specs.Texts.{◌+++◌, line_feed}

-- ---- refusals

abbrev pub phase_word : PhaseName → List ℕ
phase_word Taking = codes "taking"
phase_word Proved = codes "proved"
phase_word Answered = codes "answered"

-- the line of a refusal, where the seal that was handed in has this seat. The failure of the keeper
-- and want of memory have none
abbrev pub refusal_line : ℕ → HouseErr → List ℕ
refusal_line seat house.Known = codes "house known" +++ line_feed
refusal_line seat house.Unknown = codes "house unknown" +++ line_feed
refusal_line seat (house.Phase kept) = codes "house phase " +++ phase_word kept +++ line_feed
refusal_line seat house.Full = codes "house full" +++ line_feed
refusal_line seat (house.OtherAuction given) =
    codes "house other auction " +++ hex_text given +++ line_feed
refusal_line seat house.SeatTaken = codes "house seat taken " +++ decimal seat +++ line_feed
refusal_line seat (house.Length kept given) =
    codes "house length kept " +++ decimal kept +++ codes " given " +++ decimal given +++ line_feed
refusal_line seat house.BidTooLarge = codes "house bid too large" +++ line_feed
refusal_line seat (house.Mismatch mismatch) =
    codes "house mismatch " +++ mismatch_fields mismatch +++ line_feed
refusal_line seat house.NoSeals = codes "house no seals" +++ line_feed
refusal_line seat (house.OtherSeed kept) =
    codes "house other seed kept " +++ hex_text kept +++ line_feed
refusal_line seat (house.OtherChallenge kept) =
    codes "house other challenge kept " +++ bits_text kept.bits +++ line_feed
refusal_line seat (house.DrySeed lane wire) = house_dry_line lane wire
refusal_line seat house.KeeperFailed = []
refusal_line seat house.NoMemory = []

-- a refusal for whose line no memory is taken: all that have one, but the kept challenge's bits
abbrev pub TakesNoMemory : HouseErr → Type 0
TakesNoMemory (house.OtherChallenge kept) = ⊥
TakesNoMemory house.KeeperFailed = ⊥
TakesNoMemory house.NoMemory = ⊥
TakesNoMemory _ = Unit {0}

abbrev pub refused_said : ℕ → HouseErr → SaidValue
refused_said seat refusal = record { status = 8; text = refusal_line seat refusal }

-- ---- answers

abbrev pub announced_line : List ℕ → List ℕ
announced_line id = codes "announced " +++ hex_text id +++ line_feed

abbrev pub taken_line : ℕ → ℕ → List ℕ
taken_line seat position = codes "taken seat " +++ decimal seat +++ codes " position " +++ decimal
    position +++ line_feed

-- the line of a sale to the bidder in that seat, or of none
abbrev pub proved_line : Option ℕ → Sale → List ℕ
proved_line (Some winner) (Sold position price) =
    codes "proved winner " +++ decimal winner +++ codes " price " +++ decimal price +++ line_feed
proved_line _ _ = codes "proved unsold" +++ line_feed

abbrev pub answered_line : List ℕ
answered_line = codes "answered" +++ line_feed

-- the reserve of an auction that names one
abbrev pub reserve_words : Option ℕ → List ℕ
reserve_words (Some reserve) = codes " reserve " +++ decimal reserve
reserve_words None = []

-- how far an auction has come that stands so
abbrev pub progress_words : Standing → List ℕ
progress_words standing =
    codes " seals " +++ decimal standing.seals +++ codes " phase " +++ phase_word standing.phase +++
    reserve_words standing.reserve +++ line_feed

abbrev pub standing_line : List ℕ → Standing → List ℕ
standing_line id standing =
    codes "auction " +++ hex_text id +++ codes " width " +++ decimal standing.width +++ codes
    " lanes " +++ decimal standing.lanes
    +++ progress_words standing

-- ---- a reply

-- the seat of the seal that a command hands in, 0 where it hands in none
abbrev pub seat_of : HouseCommand → ℕ
seat_of (Submit id seal secret) = seal.seat
seat_of _ = 0

-- the line of work on an auction: it is answered, or its board is made
abbrev pub work_line : HouseCommand → Auction → Sale → List ℕ
work_line (Answer id challenge) auction sale = answered_line
work_line _ auction sale = proved_line (winner_of auction) sale

abbrev pub done_said : List ℕ → SaidValue
done_said text = record { status = 0; text = text }

-- what is said of the reply to a command
abbrev pub reply_said : HouseCommand → HouseReply → SaidValue
reply_said command Done = done_said (announced_line (id_of command))
reply_said command (Position position) = done_said (taken_line (seat_of command) position)
reply_said command (Work auction sale) = done_said (work_line command auction sale)
reply_said command (Stands standing) = done_said (standing_line (id_of command) standing)
reply_said command (Refused refusal) = refused_said (seat_of command) refusal
