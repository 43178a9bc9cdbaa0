-- What a command on claims says.
use Rattle.vk_io.specs.Files.{Files}
use Rattle.vk_words.specs.Claims.{ClaimWords, Verify, Extract}
use Rattle.vk_effect.specs.Effects.{SaidValue}
use Rattle.vk_claims.specs.Extractions.{claim_extract_said}
use Rattle.vk_claims.specs.Verdicts.{claim_verify_said}

-- what is said of the named files
abbrev pub claim_said : Files → ClaimWords → SaidValue
claim_said files (Verify names) = claim_verify_said files names
claim_said files (Extract names) = claim_extract_said files names
