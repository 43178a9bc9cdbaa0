-- The verdict on a claim file, a challenge and a reply: the first test that fails.
use Rattle.std.specs.Prelude.{ℕ, List, Result, Ok, Err}
use Rattle.vk_io.specs.Files.{Files}
use Rattle.vk_lines.specs.Lines.{Rest}
use Rattle.vk_judge.specs.declared.answers.Fault.TheVariants as behind
use Rattle.vk_judge.specs.declared.answers.VErr.{VErr}
use Rattle.vk_judge.specs.declared.named.OneReply.{OneReply}
use Rattle.vk_judge.specs.declared.opened.Refusal.{Refusal}
use Rattle.vk_judge.specs.declared.opened.Refusal.TheVariants as refusal
use Rattle.vk_judge.specs.Begun.{of_attempt}
use Rattle.vk_judge.specs.Opened.{file_judged, judged_in}
use Rattle.vk_claim.specs.declared.claim.ClaimRefusal.{ClaimRefusal}
use Rattle.vk_claim.specs.declared.claim.ClaimRefusal.TheVariants as refuses
use Rattle.vk_claim.specs.declared.verdict.ClaimVerdict.{ClaimVerdict}
use Rattle.vk_claim.specs.declared.verdict.ClaimVerdict.TheVariants.{Accepted, Malformed, Public, Lanes, Wire, Row}
use Rattle.vk_claim.specs.Values.{Plans}
use Rattle.vk_claim.specs.Claims.{claim_at}

-- what judging a claim file and a reply comes to
abbrev pub ClaimJudged : Type 0
ClaimJudged = Result Unit (Refusal ClaimRefusal)

-- the verdict on a file or a reply that is refused so
abbrev pub refused_verdict : Refusal ClaimRefusal → ClaimVerdict
refused_verdict (refusal.Front refuses.Public) = Public
refused_verdict (refusal.Fault (behind.Malformed file line)) = Malformed file line
refused_verdict (refusal.Fault behind.Lanes) = Lanes
refused_verdict (refusal.Fault (behind.Wire lane wire why)) = Wire lane wire why
refused_verdict (refusal.Fault (behind.Row lane row)) = Row lane row

-- the verdict by what judging comes to
abbrev pub verdict_by : ClaimJudged → ClaimVerdict
verdict_by (Ok done) = Accepted
verdict_by (Err refusal) = refused_verdict refusal

-- what judging came to, where this is the verdict
abbrev pub judged_of : ClaimVerdict → ClaimJudged
judged_of Accepted = Ok tt
judged_of Public = Err (refusal.Front refuses.Public)
judged_of (Malformed file line) = Err (refusal.Fault (behind.Malformed file line))
judged_of Lanes = Err (refusal.Fault behind.Lanes)
judged_of (Wire lane wire why) = Err (refusal.Fault (behind.Wire lane wire why))
judged_of (Row lane row) = Err (refusal.Fault (behind.Row lane row))

-- of the bytes of a claim file, a challenge and a reply
abbrev pub claim_judged_in : Plans → List ℕ → List ℕ → List ℕ → ClaimJudged
claim_judged_in plans = judged_in (claim_at plans)

abbrev pub claim_verdict_of : Plans → List ℕ → List ℕ → List ℕ → ClaimVerdict
claim_verdict_of plans file challenge reply =
    verdict_by (claim_judged_in plans file challenge reply)

-- of the named files
unfoldable pub claim_judged_on : Plans → Files → List ℕ → List ℕ → List ℕ → Result ClaimJudged VErr
claim_judged_on plans = of_attempt (file_judged (claim_at plans))

abbrev pub claim_judged_named : Plans → Files → OneReply → Result ClaimJudged VErr
claim_judged_named plans files names =
    claim_judged_on plans files names.file.now names.challenge.now names.reply.now

abbrev pub claim_verdict_at : Plans → Rest → Rest → Rest → ClaimVerdict
claim_verdict_at plans file challenge reply =
    verdict_by (file_judged (claim_at plans) file challenge reply)

unfoldable pub claim_verdict_on : Plans → Files → List ℕ → List ℕ → List ℕ
    → Result ClaimVerdict VErr
claim_verdict_on plans = of_attempt (claim_verdict_at plans)
