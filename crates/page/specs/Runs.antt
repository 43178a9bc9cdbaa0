-- What a run over files in memory is: the promises of `run`, at these files, no auction and no
-- text.
use Rattle.std.specs.Prelude.{◌≡◌, ◌≢◌, ◌⊎◌, ℕ, List, [], Option, Some, IfSome}
use Rattle.std.specs.FinMap.{empty}
use Rattle.vk_io.specs.Files.{Files}
use Rattle.vk_io.specs.Writing.{written}
use Rattle.vk_keeper.specs.Ledgers.{Ledger}
use Rattle.vk_words.specs.declared.claim.Kind.TheVariants.{Matching}
use Rattle.vk_words.specs.Coins.{CoinWords}
use Rattle.vk_words.specs.Commands.{ClaimSample, Coin, Seal, command_words}
use Rattle.vk_words.specs.Orders.{SealWords}
use Rattle.vk_effect.specs.Effects.{Effect, Outside, outside, stores}
use Rattle.vk_coins.specs.Meaning.{MakesChallenge}
use Rattle.vk_app.specs.Commands.{DoesWork, Work, work_on}
use Rattle.vk_app.specs.Promises.{Audits, ClaimExtractIsComplete, ClaimExtractIsSound, ClaimHeadline, Claims, ExtractIsComplete, ExtractIsSound, Headline, HoldsCeremony, KeepsHouse, RunLeaves, RunStops, SamplesMatching, TellsUsage}
use Rattle.vk_app.specs.Sealing.{Seals}
use Rattle.page.specs.declared.room.WantedName.{WantedName}
use Rattle.page.specs.Shown.{BeginsWith, shown_bytes}

-- a house in which no auction is kept
abbrev pub no_auctions : Ledger
no_auctions = empty

-- what is outside before a run: the files that are handed in, no auction, and no text
abbrev pub outside_before : Files → Outside
outside_before files = outside (stores (Some files) (Some no_auctions)) (Some [])

-- what is outside after it
abbrev pub outside_after : Files → Ledger → (text : List ℕ) → Outside
outside_after files ledger text = outside (stores (Some files) (Some ledger)) (Some text)

-- what the words do over these files and no auction
abbrev pub work_alone : Files → List (List ℕ) → Option Work
work_alone files words = work_on (Some files) (Some no_auctions) words

-- ---- the promises of `run`

-- a run of these words over these files came to its end with that status, left these files and
-- auctions, and printed that text
pub record IsPageRun (words : List (List ℕ)) (files : Files) (status : ℕ) (left : Files)
    (kept : Ledger) (text : List ℕ) : Type 0 where
  -- all that the words do was done
  pub done : IfSome (work_alone files words)
      (λ work. status ≢ 6 → status ≢ 9
      → DoesWork status work (outside_before files) (outside_after left kept text))
  -- what two accepted replies come to
  pub sound : ExtractIsSound files words status (Some []) (Some text)
  pub complete : ExtractIsComplete files words status (Some []) (Some text)
  pub headline : Headline files words status (Some []) (Some text)
  pub claim_sound : ClaimExtractIsSound files words status (Some []) (Some text)
  pub claim_complete : ClaimExtractIsComplete files words status (Some []) (Some text)
  pub claim_headline : ClaimHeadline files words status (Some []) (Some text)
  -- what the statuses of each family of commands mean
  pub audits : Audits files words status (Some []) (Some text)
  pub claims : Claims files words status (Some []) (Some text)
  pub seals : (order : SealWords) → command_words words ≡ Some (Seal order) → status ≢ 6
      → status ≢ 9
      → Seals order (Some files) (Some left) status (Some []) (Some text)
  pub coins : (order : CoinWords) → command_words words ≡ Some (Coin order) → status ≢ 6
      → status ≢ 9
      → MakesChallenge order (Some files) (Some left) status (Some []) (Some text)
  pub matching : (number : ℕ) → command_words words ≡ Some (ClaimSample Matching number)
      → SamplesMatching number status (outside_before files) (outside_after left kept text)
  pub house : KeepsHouse files no_auctions words status (Some left) (Some kept) (Some [])
      (Some text)
  pub ceremony : HoldsCeremony files no_auctions words status (Some left) (Some kept) (Some [])
      (Some text)
  pub leaves : status ≢ 6 → status ≢ 9 → RunLeaves words status (Some files) (Some left)
  pub parts : (status ≡ 6) ⊎ (status ≡ 9) → RunStops words (Some files) (Some left)
  pub usage : TellsUsage words status (Some []) (Some text)

-- ---- what is handed back

-- the room begins with the text of such a run, and with the wanted files that it left
pub record HandsBack (words : List (List ℕ)) (files : Files) (wanted : List WantedName) (status : ℕ)
    (room : List ℕ) : Type 0 where
  pub left : Files
  pub kept : Ledger
  pub text : List ℕ
  pub is : IsPageRun words files status left kept text
  pub begins : BeginsWith (shown_bytes text left wanted) room

-- the status is that of the effect, and the room begins with its text and the wanted files that it
-- leaves
pub record HandsEffect (effect : Effect) (files : Files) (wanted : List WantedName) (status : ℕ)
    (room : List ℕ) : Type 0 where
  pub status_is : status ≡ effect.status
  pub begins : BeginsWith (shown_bytes effect.text (written effect.writes files) wanted) room
