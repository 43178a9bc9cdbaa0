-- An auction as rows: one of the table `auction`, and one of the table `seal` for each seal.
use Rattle.std.specs.Prelude.{◌≡◌, ◌==◌, if◌then◌else◌, ℕ, ◌+◌, pos, List, [], ◌∷◌, map, Option, Some, None, option_map, IfSome}
use Rattle.sqlite.specs.Order.{Row}
use Rattle.sqlite.specs.declared.types.Value.{Value}
use Rattle.sqlite.specs.declared.types.Value.TheVariants.{Int, Text, Blob}
use Rattle.vk_commit.specs.Values.{AreBytes}
use Rattle.vk_reply.specs.declared.challenge.Challenge.{Challenge}
use Rattle.vk_reply.specs.Values.{IsChallenge}
use Rattle.vk_reply.specs.Texts.{bits_text}
use Rattle.vk_seal.specs.Texts.{seal_text, secret_text}
use Rattle.vk_seal.specs.Values.{IsSeal, IsSecret}
use Rattle.vk_keeper.specs.declared.auction.Phase.{Phase}
use Rattle.vk_keeper.specs.declared.auction.Phase.TheVariants.{Taking, Proved, Answered}
use Rattle.vk_keeper.specs.declared.auction.SealRow.{SealRow}
use Rattle.vk_keeper.specs.declared.auction.Auction.{Auction}
use Rattle.vk_keeper.specs.Auctions.{seed_of, challenge_of}
use Rattle.vk_rows.specs.declared.texts.SealTexts.{SealTexts}
use Rattle.vk_rows.specs.declared.texts.Texts.{Texts}
pub use Rattle.sqlite.specs.Order.{column}
pub use Rattle.sqlite.specs.Values.{or_null}

abbrev pub phase_number : Phase → ℕ
phase_number Taking = 0
phase_number (Proved seed) = 1
phase_number (Answered seed challenge) = 2

-- the phase of a number, a seed and a challenge, where there is one
abbrev pub phase_of : ℕ → Option (List ℕ) → Option Challenge → Option Phase
phase_of number None None = if number == 0 then Some Taking else None
phase_of number None (Some challenge) = None
phase_of number (Some seed) None = if number == 1 then Some (Proved seed) else None
phase_of number (Some seed) (Some challenge) = if number == 2 then Some (Answered seed challenge)
    else None

-- a challenge as the text of its bits
abbrev pub bits_value : Challenge → Value
bits_value challenge = Text (bits_text challenge.bits)

-- the characters of the challenge that was answered
abbrev pub bits_in : Phase → Option (List ℕ)
bits_in phase = option_map (λ challenge. bits_text challenge.bits) (challenge_of phase)

-- the row of an auction; the seed and the bits are NULL where the phase has none
abbrev pub auction_row : Auction → Row
auction_row auction =
    Blob auction.id ∷ Int (pos auction.width) ∷ Int (pos auction.lanes)
    ∷ Int (pos (phase_number auction.phase))
    ∷ or_null Blob (seed_of auction.phase) ∷ or_null Text (bits_in auction.phase) ∷ []

-- the row of its terms
abbrev pub terms_row : Auction → Row
terms_row auction = Blob auction.id ∷ Int (pos auction.version) ∷ Int (pos auction.reserve) ∷ []

-- what stands in the row of a seal beside the id and the position: the seat, and the texts of its
-- files
abbrev pub seal_texts : SealRow → SealTexts
seal_texts row = record {
  seat = row.seal.seat;
  seal = seal_text row.seal;
  secret = secret_text row.secret;
}

-- the row of the seal with these texts
abbrev pub seal_row : List ℕ → ℕ → SealTexts → Row
seal_row id position texts =
    Blob id ∷ Int (pos position) ∷ Int (pos texts.seat) ∷ Text texts.seal ∷ Text texts.secret ∷ []

-- a phase whose seed has 32 bytes, and whose challenge is one
pub record IsPhase (phase : Phase) : Type 0 where
  pub seed : IfSome (seed_of phase) (AreBytes 32)
  pub challenge : IfSome (challenge_of phase) IsChallenge

-- a seal and a secret, of whatever bidder
abbrev pub IsStored : SealRow → Type 0
IsStored row = IsSeal row.seal × IsSecret row.secret

-- a row that was read shows the width and the number of lanes of an auction
pub record ShowsSize (row : Row) (auction : Auction) : Type 0 where
  pub width : column row 0 ≡ Int (pos auction.width)
  pub lanes : column row 1 ≡ Int (pos auction.lanes)

-- a row that was read shows a phase, with what is kept in it
pub record ShowsPhase (row : Row) (phase : Phase) : Type 0 where
  pub number : column row 2 ≡ Int (pos (phase_number phase))
  pub seed : column row 3 ≡ or_null Blob (seed_of phase)
  pub bits : column row 4 ≡ or_null bits_value (challenge_of phase)

-- a row that was read shows an auction, but for its id, its terms and its seals
pub record ShowsAuction (row : Row) (auction : Auction) : Type 0 where
  pub size : ShowsSize row auction
  pub phase : ShowsPhase row auction.phase

-- a row that was read shows the terms of an auction
pub record ShowsTerms (row : Row) (auction : Auction) : Type 0 where
  pub version : column row 0 ≡ Int (pos auction.version)
  pub reserve : column row 1 ≡ Int (pos auction.reserve)

-- a row that was read shows the seal with these texts at a position, but for the auction's id
pub record ShowsSeal (row : Row) (place : ℕ) (texts : SealTexts) : Type 0 where
  pub position : column row 0 ≡ Int (pos place)
  pub seat : column row 1 ≡ Int (pos texts.seat)
  pub seal : column row 2 ≡ Text texts.seal
  pub secret : column row 3 ≡ Text texts.secret

-- rows that were read show these seals, one each, at the positions behind so many
abbrev pub ShowSeals : ℕ → List Row → List SealTexts → Type 0
ShowSeals before [] [] = Unit {0}
ShowSeals before [] (seal ∷ seals) = ⊥
ShowSeals before (row ∷ rows) [] = ⊥
ShowSeals before (row ∷ rows) (seal ∷ seals) = ShowsSeal row (before + 1) seal
    × ShowSeals (before + 1) rows seals

-- the row of an auction, that of its terms and those of its seals show all of it but for its id:
-- its seals are those of the rows from position 1 on, one by one and equally many
pub record ShowsWhole (row terms_row : Row) (rows : List Row) (auction : Auction) : Type 0 where
  pub head : ShowsAuction row auction
  pub terms : ShowsTerms terms_row auction
  pub seals : ShowSeals 0 rows (map seal_texts auction.seals)

-- one row shows an auction with one of its terms and those of its seals, and no rows show that
-- there is none
abbrev pub ShowFound : List Row → List Row → List Row → Option Auction → Type 0
ShowFound heads terms rows None = (heads ≡ []) × (terms ≡ []) × (rows ≡ [])
ShowFound heads terms rows (Some auction) =
    (head : Row) × (term : Row) × (heads ≡ head ∷ []) × (terms ≡ term ∷ [])
    × ShowsWhole head term rows auction

-- what stands in the rows of an auction beside what it has itself
abbrev pub texts_of : Auction → Texts
texts_of auction = record { bits = bits_in auction.phase; seals = map seal_texts auction.seals }
