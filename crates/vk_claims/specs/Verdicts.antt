-- What is said of the verdict on a claim.
use Rattle.std.specs.Prelude.{Bool, false, codes, Ok, Err}
use Rattle.vk_io.specs.Files.{Files}
use Rattle.vk_judge.specs.declared.answers.Part.TheVariants.{Board}
use Rattle.vk_judge.specs.declared.opened.Refusal.{Refusal}
use Rattle.vk_judge.specs.declared.opened.Refusal.TheVariants as refusal
use Rattle.vk_verifier.specs.declared.answers.BoardVerdict.TheVariants.{Accepted}
use Rattle.vk_verifier.specs.Verdicts.{as_verdict}
use Rattle.vk_claim.specs.declared.claim.ClaimRefusal.{ClaimRefusal}
use Rattle.vk_claim.specs.declared.claim.ClaimRefusal.TheVariants.{Public}
use Rattle.vk_claim.specs.Verdicts.{ClaimJudged, claim_judged_on}
use Rattle.vk_words.specs.Names.{VerifyWords}
use Rattle.vk_effect.specs.Effects.{SaidValue}
use Rattle.vk_effect.specs.NamedFiles.{refused_said}
use Rattle.vk_audit.specs.Verdicts.{PartNames, answer_said, judged_said, name_in, unread_said}
use Rattle.vk_claims.specs.Circuits.{admitted_plan}

-- what is said of the first reply where it is refused, or of the second: refused is the claim file
-- for its public part, and all else is said as it is of a board
abbrev pub claim_refused_said : PartNames → Bool → Refusal ClaimRefusal → SaidValue
claim_refused_said name second (refusal.Front Public) = refused_said (name Board) (codes "public")
claim_refused_said name second (refusal.Fault fault) = judged_said name second (as_verdict fault)

-- of one reply
abbrev pub claim_judged_said : PartNames → ClaimJudged → SaidValue
claim_judged_said name (Ok done) = judged_said name false Accepted
claim_judged_said name (Err refusal) = claim_refused_said name false refusal

-- what `claim-verify` says
abbrev pub claim_verify_said : Files → VerifyWords → SaidValue
claim_verify_said files names =
    answer_said (claim_judged_said (name_in names)) (unread_said (name_in names))
    (claim_judged_on admitted_plan files names.board names.attempt.challenge names.attempt.reply)
