-- Each verdict on a claim file is given exactly where it holds.
use Rattle.std.proofs.Common.{◌≡◌, Ok, Err, refl, ap, sym, subst, ◌∙◌}
use Rattle.vk_judge.specs.declared.answers.Fault.TheVariants as behind
use Rattle.vk_judge.specs.declared.opened.Refusal.TheVariants as refusal
use Rattle.vk_judge.specs.FileForms.{JudgedHolds}
use Rattle.vk_judge.proofs.FileForms.{judged_exact, judged_holds}
use Rattle.vk_claim.specs.declared.claim.ClaimRefusal.TheVariants as refuses
use Rattle.vk_claim.specs.declared.verdict.ClaimVerdict.{ClaimVerdict}
use Rattle.vk_claim.specs.declared.verdict.ClaimVerdict.TheVariants.{Accepted, Malformed, Public, Lanes, Wire, Row}
use Rattle.vk_claim.specs.Values.{Plans}
use Rattle.vk_claim.specs.Verdicts.{ClaimJudged, claim_judged_in, judged_of, verdict_by}
use Rattle.vk_claim.specs.Acceptance.{ClaimVerdictHolds, ClaimVerdictsAreExact, claim_form}
use Rattle.vk_claim.proofs.Fronts.{AreRight, is_form}

judged_back : (judged : ClaimJudged) → judged_of (verdict_by judged) ≡ judged
judged_back (Ok done) = refl
judged_back (Err (refusal.Front refuses.Public)) = refl
judged_back (Err (refusal.Fault (behind.Malformed file line))) = refl
judged_back (Err (refusal.Fault behind.Lanes)) = refl
judged_back (Err (refusal.Fault (behind.Wire lane wire why))) = refl
judged_back (Err (refusal.Fault (behind.Row lane row))) = refl

verdict_back : (verdict : ClaimVerdict) → verdict_by (judged_of verdict) ≡ verdict
verdict_back Accepted = refl
verdict_back (Malformed file line) = refl
verdict_back Public = refl
verdict_back Lanes = refl
verdict_back (Wire lane wire why) = refl
verdict_back (Row lane row) = refl

pub verdicts_exact : (plans : Plans) → AreRight plans → ClaimVerdictsAreExact plans
verdicts_exact plans right verdict file challenge reply =
    let form = claim_form plans in
    let judged = claim_judged_in plans file challenge reply in
    let P : ClaimVerdict → Type 0 = λ v. ClaimVerdictHolds plans v file challenge reply in
    let holds : P (verdict_by judged) =
    subst (λ j. JudgedHolds form j file challenge reply) (sym (judged_back judged))
    (judged_holds form (is_form plans right) file challenge reply) in (
      λ is. subst P is holds,
      λ holds. ap verdict_by
          ((judged_exact form (is_form plans right) file challenge reply (judged_of verdict)).1
          holds)
          ∙ verdict_back verdict,
    )
