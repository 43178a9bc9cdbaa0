-- What `coin-board` does: it derives a challenge from a board.
use Rattle.std.specs.Prelude.{ℕ, List, length, codes, decimal, Result, Ok, Err}
use Rattle.vk_io.specs.Files.{Files}
use Rattle.vk_reply.specs.declared.challenge.Challenge.{Challenge}
use Rattle.vk_reply.specs.Texts.{challenge_text}
use Rattle.vk_report.specs.declared.report.ReportErr.{ReportErr}
use Rattle.vk_audit.specs.Reports.{unreported_said}
use Rattle.vk_words.specs.Coins.{ChallengeWords}
use Rattle.vk_effect.specs.Effects.{DeedValue, SaidValue, only_says, writes_one}
use Rattle.vk_effect.specs.Texts.{◌+++◌, line_feed}
use Rattle.vk_coin.specs.Derived.{derived_in}

-- what is said of a challenge of so many bits
abbrev pub derived_said : ℕ → SaidValue
derived_said bits = record {
  status = 0;
  text = codes "derived bits " +++ decimal bits +++ line_feed;
}

-- it is written
abbrev pub derive_deed : ChallengeWords → Result Challenge ReportErr → DeedValue
derive_deed names (Ok challenge) =
    writes_one names.challenge (challenge_text challenge) (derived_said (length challenge.bits))
derive_deed names (Err fault) = only_says (unreported_said names.from fault)

abbrev pub board_deed : ChallengeWords → Files → DeedValue
board_deed names files = derive_deed names (derived_in files names.from)
