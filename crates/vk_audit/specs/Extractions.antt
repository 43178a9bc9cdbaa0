-- What is said of what two replies to a board come to.
use Rattle.vk_io.specs.Files.{Files}
use Rattle.vk_bids.specs.declared.extraction.Extraction.TheVariants.{Refused, Same, Clash, Bids}
use Rattle.vk_bids.specs.Extraction.{Extraction, extraction_on}
use Rattle.vk_bids.specs.Texts.{clash_text, extraction_text}
use Rattle.vk_words.specs.Names.{ExtractWords}
use Rattle.vk_effect.specs.Effects.{SaidValue}
use Rattle.vk_audit.specs.Verdicts.{answer_said, judged_said, name_of, same_said, unread_said}

-- the verdict on a reply that isn't accepted, or what two accepted replies come to
abbrev pub extraction_said : ExtractWords → Extraction → SaidValue
extraction_said names (Refused second verdict) = judged_said (name_of names) second verdict
extraction_said names Same = same_said
extraction_said names (Clash two) = record { status = 3; text = clash_text two }
extraction_said names (Bids found) = record { status = 0; text = extraction_text found }

-- what `extract` says
abbrev pub extract_said : Files → ExtractWords → SaidValue
extract_said files names =
    answer_said (extraction_said names) (unread_said (name_of names))
    (extraction_on files names.board names.first.challenge names.first.reply names.second.challenge
    names.second.reply)
