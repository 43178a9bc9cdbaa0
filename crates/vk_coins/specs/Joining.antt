-- What `coin-join` does: it joins the shares of a coin.
use Rattle.std.specs.Prelude.{ℕ, List, ◌++◌, length, codes, decimal, Option, Some, None, Result, Ok, Err}
use Rattle.vk_io.specs.Files.{Files}
use Rattle.vk_reply.specs.Texts.{challenge_text}
use Rattle.vk_words.specs.Coins.{ChallengeWords}
use Rattle.vk_effect.specs.Effects.{DeedValue, SaidValue, only_says, writes_one}
use Rattle.vk_effect.specs.NamedFiles.{refused_said}
use Rattle.vk_effect.specs.Reading.{named_in}
use Rattle.vk_effect.specs.Texts.{◌+++◌, line_feed}
use Rattle.vk_coin.specs.declared.coin.Coin.{Coin}
use Rattle.vk_coin.specs.Coins.{joint_challenge, unmet_part}
use Rattle.vk_coin.specs.Reading.{coin_at}

-- what is said of a coin whose shares open its parts
abbrev pub joined_said : Coin → SaidValue
joined_said coin = record {
  status = 0;
  text = codes "joined auditors " +++ decimal (length coin.parts) +++ codes " bits " +++ decimal
      coin.bits +++ line_feed;
}

-- what is said of a coin in the named file, where the share of that auditor is the first that
-- doesn't open its part
abbrev pub unmet_said : (name : List ℕ) (auditor : ℕ) → SaidValue
unmet_said name auditor = refused_said name (codes "part " ++ decimal auditor)

-- the joint challenge is written where each share opens its part
abbrev pub joined_if : ChallengeWords → Coin → Option ℕ → DeedValue
joined_if names coin None = writes_one names.challenge (challenge_text (joint_challenge coin))
    (joined_said coin)
joined_if names coin (Some auditor) = only_says (unmet_said names.from auditor)

abbrev pub coin_deed : ChallengeWords → Coin → DeedValue
coin_deed names coin = joined_if names coin (unmet_part coin)

-- what there is to be done by what was read
abbrev pub deed_by : {X : Type 0} → (X → DeedValue) → Result X SaidValue → DeedValue
deed_by deed (Ok x) = deed x
deed_by deed (Err said) = only_says said

-- the coin of the named file, or what is said of one that can't be read
abbrev pub coin_in : Files → List ℕ → Result Coin SaidValue
coin_in files name = named_in coin_at files name

abbrev pub join_deed : ChallengeWords → Files → DeedValue
join_deed names files = deed_by (coin_deed names) (coin_in files names.from)
