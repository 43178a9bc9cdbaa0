-- What the ends of these commands mean, by the bytes of the named files alone.
use Rattle.std.specs.Prelude.{◌≡◌, ℕ, List, [], ◌∷◌, Option, Some, option_map, IfSome}
use Rattle.std.specs.FinMap.{get}
use Rattle.vk_io.specs.Files.{Files}
use Rattle.vk_io.specs.Writing.{written}
use Rattle.vk_keeper.specs.Joining.{first_of}
use Rattle.vk_reply.specs.Texts.{challenge_text}
use Rattle.vk_report.specs.declared.report.Report.{Report}
use Rattle.vk_report.specs.declared.report.ReportErr.{ReportErr}
use Rattle.vk_report.specs.Meaning.{IsReportOn, IsUnreported}
use Rattle.vk_audit.specs.Reports.{unreported_said}
use Rattle.vk_words.specs.Coins.{ChallengeWords, CoinWords, Part, Join, Board}
use Rattle.vk_effect.specs.Effects.{DeedValue, IsSaid, SaidValue, only_says, writes_one}
use Rattle.vk_effect.specs.Reading.{IsFileOf, faulty_said, unheld_said}
use Rattle.vk_coin.specs.declared.coin.Coin.{Coin}
use Rattle.vk_coin.specs.Coins.{IsCoin, IsFirstUnmet, OpensParts, coin_text, joint_challenge}
use Rattle.vk_coin.specs.Derived.{derived_bits}
use Rattle.vk_coin.specs.Tables.{coin_table}
use Rattle.vk_coins.specs.Boards.{board_deed, derived_said}
use Rattle.vk_coins.specs.Drawing.{part_deed}
use Rattle.vk_coins.specs.Joining.{join_deed, joined_said, unmet_said}

-- ---- `coin-join`

-- the file of that name holds the text of the coin
abbrev pub IsCoinFile : Files → List ℕ → Coin → Type 0
IsCoinFile files name coin = IsFileOf IsCoin coin_text files name coin

-- the first of these tests that fails is said of the named file: it is held and not too long, and
-- has no fault line as a coin
abbrev pub coin_fault : Files → List ℕ → Option SaidValue
coin_fault files name = first_of
    (unheld_said name (get files name) ∷ faulty_said coin_table name (get files name) ∷ [])

-- the coin of the named file is one whose shares open its parts
pub record HasJoint (files : Files) (name : List ℕ) (coin : Coin) : Type 0 where
  pub file : IsCoinFile files name coin
  pub opens : OpensParts coin

-- the share of that auditor is the first of the coin in the named file that doesn't open its part
pub record HasUnmet (files : Files) (name : List ℕ) (coin : Coin) (auditor : ℕ) : Type 0 where
  pub file : IsCoinFile files name coin
  pub unmet : IsFirstUnmet coin auditor

-- where each share opens its part, the joint challenge is written; where one doesn't, the first
-- such is said; and of a file that is no coin its fault is said. Status 0 comes with the first
-- alone, and status 1 with the second
pub record Joins (files : Files) (names : ChallengeWords) (Is : DeedValue → Type 0)
    (status : ℕ) : Type 0 where
  pub joined : (coin : Coin) → HasJoint files names.from coin
      → Is (writes_one names.challenge (challenge_text (joint_challenge coin)) (joined_said coin))
  pub unmet : (coin : Coin) (auditor : ℕ) → HasUnmet files names.from coin auditor
      → Is (only_says (unmet_said names.from auditor))
  pub unread : (said : SaidValue) → coin_fault files names.from ≡ Some said → Is (only_says said)
  pub done : status ≡ 0 → (coin : Coin) × HasJoint files names.from coin
  pub refused : status ≡ 1 → (coin : Coin)
      × ((auditor : ℕ) × HasUnmet files names.from coin auditor)

abbrev pub JoinsExactly : Type 0
JoinsExactly = (files : Files) (names : ChallengeWords) → let deed = join_deed names files in
    Joins files names (λ this. deed ≡ this) deed.said.status

-- ---- `coin-board`

-- where the named file is a board that may be reported on, the challenge is written that its bytes
-- give for its lanes; and where it is none, what `report` says is said. Status 0 comes with the
-- first alone
pub record Derives (files : Files) (names : ChallengeWords) (Is : DeedValue → Type 0)
    (status : ℕ) : Type 0 where
  pub derived : (report : Report) (is : IsReportOn files names.from report)
      → Is (writes_one names.challenge
      (challenge_text (record { bits = derived_bits report.head.lanes is.file }))
      (derived_said report.head.lanes))
  pub unreported : (fault : ReportErr) → IsUnreported files names.from fault
      → Is (only_says (unreported_said names.from fault))
  pub done : status ≡ 0 → (report : Report) × IsReportOn files names.from report

abbrev pub DerivesExactly : Type 0
DerivesExactly = (files : Files) (names : ChallengeWords) → let deed = board_deed names files in
    Derives files names (λ this. deed ≡ this) deed.said.status

-- ---- a whole command

-- it was done: it said this, and its files are written
abbrev pub IsDone : DeedValue → (held left : Option Files) → ℕ → (old new : Option (List ℕ))
    → Type 0
IsDone deed held left status old new = IsSaid deed.said status old new
    × (left ≡ option_map (written deed.writes) held)

-- what a command did that came to its end. A share is the one that is drawn, whatever the files are
abbrev pub MakesChallenge : CoinWords → (held left : Option Files) → ℕ → (old new : Option (List ℕ))
    → Type 0
MakesChallenge (Part order) held left status old new =
    IsDone (part_deed order) held left status old new
MakesChallenge (Join names) held left status old new =
    IfSome held (λ files. Joins files names (λ deed. IsDone deed held left status old new) status)
MakesChallenge (Board names) held left status old new =
    IfSome held (λ files. Derives files names (λ deed. IsDone deed held left status old new) status)
