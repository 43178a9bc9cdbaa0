-- What `seal` does.
use Rattle.std.specs.Prelude.{◌≡◌, ◌<◌, ◌≤◌, ℕ, ◌+◌, ◌^◌, List, [], ◌∷◌, ◌++◌, codes, decimal, Option, Some, option_map, Result, Ok, Err}
use Rattle.vk_io.specs.Files.{Files}
use Rattle.vk_io.specs.Writing.{written}
use Rattle.vk_dice.specs.Stream.{word_at}
use Rattle.vk_seal.specs.declared.secret.Secret.{Secret}
use Rattle.vk_seal.specs.declared.secret.Seal.{Seal}
use Rattle.vk_seal.specs.declared.making.SealErr.{SealErr}
use Rattle.vk_seal.specs.declared.making.SealErr.TheVariants.{BidTooLarge, DrySeed, NoMemory}
use Rattle.vk_seal.specs.Made.{made_seal, seal_of, secret_of}
use Rattle.vk_seal.specs.Texts.{secret_text, seal_text}
use Rattle.vk_keeper.specs.Ledgers.{Ledger}
use Rattle.vk_words.specs.Orders.{SealWords}
use Rattle.vk_effect.specs.Dry.{bidder_dry_line}
use Rattle.vk_effect.specs.Effects.{DeedValue, Effect, SaidValue, IsSaid, does}
use Rattle.vk_effect.specs.Texts.{◌+++◌, line_feed}

-- the stream of the bidder at that seat
abbrev pub stream_of : ℕ → ℕ
stream_of seat = 65536 + seat

-- the line of a seal that was made
abbrev pub sealed_line : ℕ → ℕ → List ℕ
sealed_line seat lanes = codes "sealed seat " +++ decimal seat +++ codes " lanes " +++ decimal lanes
    +++ line_feed

-- a refusal, before any file is made
abbrev pub refused_said : List ℕ → SaidValue
refused_said line = record { status = 8; text = line }

abbrev pub made_said : SealWords → Result (Secret × Seal) SealErr → SaidValue
made_said order (Ok made) = record { status = 0; text = sealed_line order.seat order.lanes }
made_said order (Err BidTooLarge) = refused_said (codes "seal bid too large" ++ line_feed)
made_said order (Err (DrySeed lane)) = refused_said (bidder_dry_line lane)
made_said order (Err NoMemory) = refused_said []

-- the secret's file is written, then the seal's
abbrev pub made_writes : SealWords → Result (Secret × Seal) SealErr → List (List ℕ × List ℕ)
made_writes order (Ok made) = (order.secret, secret_text made.0) ∷ (order.seal, seal_text made.1)
    ∷ []
made_writes order (Err refusal) = []

abbrev pub made_deed : SealWords → Result (Secret × Seal) SealErr → DeedValue
made_deed order made = record { said = made_said order made; writes = made_writes order made }

abbrev pub made_effect : Option Ledger → SealWords → Result (Secret × Seal) SealErr → Effect
made_effect ledger order made = does ledger (made_deed order made)

-- what making the seal gives: it is drawn from the seed's words in the stream of the seat
unfoldable pub seal_made : SealWords → Result (Secret × Seal) SealErr
seal_made order = made_seal order.bid order.seat order.auction order.width order.lanes
    (word_at order.seed order.auction (stream_of order.seat))

-- the ledger is left as it is
abbrev pub seal_effect : Option Ledger → SealWords → Effect
seal_effect ledger order = made_effect ledger order (seal_made order)

-- it is known over any files and any ledger
unfoldable pub seal_on : Option Ledger → SealWords → Option Effect
seal_on ledger order = Some (seal_effect ledger order)

-- ---- how it ends

-- the secret that is drawn, or the first lane for which no residue can be
abbrev pub secret_drawn : SealWords → Result Secret ℕ
secret_drawn order = secret_of order.bid order.seat order.auction order.lanes
    (word_at order.seed order.auction (stream_of order.seat))

-- a `seal` that came to its end: a bid that isn't below 2^width is refused, and so is a seed that
-- gives no secret; no file is written then. Else the secret's file is the text of the secret, and
-- the seal's file that of its seal
pub record Seals (order : SealWords) (held left : Option Files) (status : ℕ)
    (old new : Option (List ℕ)) : Type 0 where
  pub too_large : 2 ^ order.width ≤ order.bid
      → IsSaid (refused_said (codes "seal bid too large" ++ line_feed)) status old new
      × (left ≡ held)
  pub dry : (lane : ℕ) → order.bid < 2 ^ order.width → secret_drawn order ≡ Err lane
      → IsSaid (refused_said (bidder_dry_line lane)) status old new × (left ≡ held)
  pub made : (secret : Secret) → order.bid < 2 ^ order.width → secret_drawn order ≡ Ok secret
      → IsSaid (record { status = 0; text = sealed_line order.seat order.lanes }) status old new
      × (left ≡ option_map (written
      ((order.secret, secret_text secret) ∷ (order.seal, seal_text (seal_of secret)) ∷ [])) held)
