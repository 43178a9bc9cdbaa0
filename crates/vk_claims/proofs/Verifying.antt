-- What `claim-verify` says holds of the files, and status 0 comes exactly where the reply is
-- accepted.
use Rattle.std.proofs.Common.{◌≡◌, ◌≢◌, ℕ, ◌<◌, ◌≤◌, Bool, false, List, Some, Result, Ok, Err, refl, ap, ◌∙◌, arith, inl, inr}
use Rattle.std.specs.Prelude.{◌⊎◌}
use Rattle.vk_io.specs.Files.{Files}
use Rattle.vk_judge.specs.declared.answers.VErr.{VErr}
use Rattle.vk_judge.specs.declared.answers.Fault.TheVariants.{Malformed, Lanes, Wire, Row}
use Rattle.vk_judge.specs.declared.opened.Refusal.{Refusal}
use Rattle.vk_judge.specs.declared.opened.Refusal.TheVariants as refusal
use Rattle.vk_judge.specs.HeldFiles.{HeldAttempt, IsHeldFile}
use Rattle.vk_judge.specs.Opened.{file_judged}
use Rattle.vk_claim.specs.declared.claim.ClaimRefusal.{ClaimRefusal}
use Rattle.vk_claim.specs.declared.claim.ClaimRefusal.TheVariants.{Public}
use Rattle.vk_claim.specs.Claims.{claim_at}
use Rattle.vk_claim.specs.Verdicts.{ClaimJudged, claim_judged_in, claim_judged_on}
use Rattle.vk_words.specs.Names.{VerifyWords}
use Rattle.vk_audit.specs.Inputs.{verify_inputs}
use Rattle.vk_audit.specs.Verdicts.{PartNames, name_in}
use Rattle.vk_audit.proofs.Answered.{IsAlone, answered_tells, attempt_read, attempt_unread, said_by, verify_holds, verify_parts}
use Rattle.vk_audit.proofs.Inputs.{NamesUnread}
use Rattle.vk_audit.proofs.Telling.{only_value}
use Rattle.vk_claims.specs.Circuits.{admitted_plan, plans_are_right}
use Rattle.vk_claims.specs.Statuses.{AcceptsClaim, ClaimVerifyHolds, HasClaimJudged, TellsClaimVerdicts, VerifiesClaimsExactly}
use Rattle.vk_claims.specs.Verdicts.{claim_judged_said, claim_refused_said}
use Rattle.vk_claims.proofs.Findings.{judged_given, judged_shown}

-- ---- statuses

-- what is said of a refusal has the status 1 or 4
refused_status : (name : PartNames) (second : Bool) (refused : Refusal ClaimRefusal)
    → ((claim_refused_said name second refused).status ≡ 1)
    ⊎ ((claim_refused_said name second refused).status ≡ 4)
refused_status name second (refusal.Front Public) = inl refl
refused_status name second (refusal.Fault (Malformed part line)) = inr refl
refused_status name second (refusal.Fault Lanes) = inl refl
refused_status name second (refusal.Fault (Wire lane wire fault)) = inl refl
refused_status name second (refusal.Fault (Row lane row)) = inl refl

pub status_refused : (name : PartNames) (second : Bool) (refused : Refusal ClaimRefusal)
    → (claim_refused_said name second refused).status ≢ 1
    → (claim_refused_said name second refused).status < 4 → ⊥
status_refused name second refused other small = elim (refused_status name second refused) [
  | inl one ↦ absurd (other one)
  | inr four ↦ omega (arith, four, small)
]

pub status_within : (name : PartNames) (second : Bool) (refused : Refusal ClaimRefusal)
    → (claim_refused_said name second refused).status ≤ 4
status_within name second refused = elim (refused_status name second refused) [
  | inl one ↦ omega (arith, one)
  | inr four ↦ omega (arith, four)
]

-- so status 0 is said only of a reply that is accepted
zero_accepted : (name : PartNames) (P : ClaimJudged → Type 0) (judged : ClaimJudged) → P judged
    → (claim_judged_said name judged).status ≡ 0 → P (Ok tt)
zero_accepted name P (Ok done) holds zero_is = holds
zero_accepted name P (Err refused) holds zero_is =
    absurd (status_refused name false refused (λ one. omega (arith, one, zero_is))
    (omega (arith, zero_is)))

-- ---- the answer

module _ (files : Files) (names : VerifyWords) where
  abbrev answer : Result ClaimJudged VErr
  answer = claim_judged_on admitted_plan files names.board names.attempt.challenge
      names.attempt.reply

  answer_unread : NamesUnread files (name_in names) verify_parts answer
  unfolding claim_judged_on
  answer_unread = attempt_unread (file_judged (claim_at admitted_plan)) files names

  answer_read : (board : List ℕ) → IsHeldFile files names.board board
      → (attempt : HeldAttempt files names.attempt.challenge names.attempt.reply)
      → answer ≡ Ok (claim_judged_in admitted_plan board attempt.challenge_bytes
      attempt.reply_bytes)
  unfolding claim_judged_on
  answer_read board is attempt =
      attempt_read (file_judged (claim_at admitted_plan)) files names board is attempt

  answer_holds : ClaimVerifyHolds files names answer
  answer_holds = verify_holds files names (HasClaimJudged files names) answer answer_unread
      (claim_judged_in admitted_plan) answer_read (λ board is attempt. record {
        board = board;
        board_is = is;
        attempt = attempt;
        holds = judged_shown admitted_plan plans_are_right board attempt.challenge_bytes
            attempt.reply_bytes _ refl;
      })

  answer_alone : IsAlone (λ _. Unit {0}) (HasClaimJudged files names) answer
  answer_alone judged settles has =
      answer_read has.board has.board_is has.attempt
      ∙ ap (λ j. Ok j) (judged_given admitted_plan plans_are_right has.board
      has.attempt.challenge_bytes has.attempt.reply_bytes judged has.holds)

pub tells_claim_verdicts : TellsClaimVerdicts
tells_claim_verdicts files names =
    answered_tells files (name_in names) verify_parts (HasClaimJudged files names)
    (answer files names) (answer_unread files names)
    (claim_judged_said (name_in names)) (λ _. Unit {0})
    (answer_alone files names) (answer_holds files names)

-- ---- status 0

pub verifies_claims_exactly : VerifiesClaimsExactly
verifies_claims_exactly files names = record {
  only =
      only_value files (name_in names) (verify_inputs names) (HasClaimJudged files names)
      (claim_judged_said (name_in names)) (AcceptsClaim files names)
      (zero_accepted (name_in names) (HasClaimJudged files names))
      (answer files names) (answer_holds files names);
  always = λ accepts _ _.
      ap (λ answered. (said_by (name_in names) (claim_judged_said (name_in names)) answered).status)
      (answer_alone files names (Ok tt) tt accepts);
}
