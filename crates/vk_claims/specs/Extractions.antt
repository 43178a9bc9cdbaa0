-- What is said of what two replies to a claim file come to.
use Rattle.vk_io.specs.Files.{Files}
use Rattle.vk_bids.specs.declared.extraction.Extraction.TheVariants.{Refused, Same, Clash, Bids}
use Rattle.vk_bids.specs.Texts.{clash_text}
use Rattle.vk_claim.specs.Extraction.{ClaimExtraction, claim_extraction_on}
use Rattle.vk_claim.specs.Printing.{claim_extraction_text}
use Rattle.vk_words.specs.Names.{ExtractWords}
use Rattle.vk_effect.specs.Effects.{SaidValue}
use Rattle.vk_audit.specs.Verdicts.{answer_said, name_of, same_said, unread_said}
use Rattle.vk_claims.specs.Circuits.{admitted_plan}
use Rattle.vk_claims.specs.Verdicts.{claim_refused_said}

-- of a reply to a claim file that is refused why it is, else what the two come to
abbrev pub claim_extraction_said : ExtractWords → ClaimExtraction → SaidValue
claim_extraction_said names (Refused second refusal) =
    claim_refused_said (name_of names) second refusal
claim_extraction_said names Same = same_said
claim_extraction_said names (Clash two) = record { status = 3; text = clash_text two }
claim_extraction_said names (Bids found) = record { status = 0; text = claim_extraction_text found }

-- what `claim-extract` says
abbrev pub claim_extract_said : Files → ExtractWords → SaidValue
claim_extract_said files names =
    answer_said (claim_extraction_said names) (unread_said (name_of names))
    (claim_extraction_on admitted_plan files names.board names.first.challenge names.first.reply
    names.second.challenge names.second.reply)
