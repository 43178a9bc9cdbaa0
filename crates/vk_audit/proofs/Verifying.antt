-- What `verify` says holds of the files, and status 0 comes exactly where the reply is accepted.
use Rattle.std.proofs.Common.{◌≡◌, ◌≢◌, ℕ, ◌<◌, ◌≤◌, Bool, false, List, Some, Result, Ok, Err, refl, ap, subst, ◌∙◌, arith}
use Rattle.vk_io.specs.Files.{Files}
use Rattle.vk_verifier.specs.declared.answers.BoardVerdict.{BoardVerdict}
use Rattle.vk_verifier.specs.declared.answers.BoardVerdict.TheVariants as verdict
use Rattle.vk_judge.specs.declared.answers.VErr.{VErr}
use Rattle.vk_verifier.specs.Verdicts.{verdict_at, verdict_of, verdict_on}
use Rattle.vk_verifier.proofs.Verdicts.{verdict_holds, verdicts_exact}
use Rattle.vk_judge.specs.HeldFiles.{HeldAttempt, IsHeldFile}
use Rattle.vk_words.specs.Names.{VerifyWords}
use Rattle.vk_effect.specs.Effects.{SaidValue}
use Rattle.vk_audit.specs.Answers.{TellsVerdicts, VerifyHolds}
use Rattle.vk_audit.specs.Inputs.{verify_inputs}
use Rattle.vk_audit.specs.Statuses.{AcceptsFiles, HasVerdict, VerifiesExactly}
use Rattle.vk_audit.specs.Verdicts.{PartNames, answer_said, judged_said, name_in, unread_said}
use Rattle.vk_audit.proofs.Answered.{IsAlone, answered_tells, attempt_read, attempt_unread, verify_holds, verify_parts}
use Rattle.vk_audit.proofs.Inputs.{NamesUnread}
use Rattle.vk_audit.proofs.Telling.{only_value}

-- ---- verdicts

-- only that a reply is accepted has a status below 4 other than 1
pub status_accepted : (name : PartNames) (second : Bool) (answered : BoardVerdict)
    → (judged_said name second answered).status ≢ 1
    → (judged_said name second answered).status < 4 → answered ≡ verdict.Accepted
status_accepted name second verdict.Accepted other small = refl
status_accepted name second (verdict.Malformed file line) other small = absurd (omega arith)
status_accepted name second verdict.Price other small = absurd (omega arith)
status_accepted name second verdict.Winner other small = absurd (omega arith)
status_accepted name second verdict.Lanes other small = absurd (omega arith)
status_accepted name second (verdict.Wire lane wire fault) other small = absurd (omega arith)
status_accepted name second (verdict.Row lane row) other small = absurd (omega arith)

pub status_within : (name : PartNames) (second : Bool) (answered : BoardVerdict)
    → (judged_said name second answered).status ≤ 4
status_within name second verdict.Accepted = omega arith
status_within name second (verdict.Malformed file line) = omega arith
status_within name second verdict.Price = omega arith
status_within name second verdict.Winner = omega arith
status_within name second verdict.Lanes = omega arith
status_within name second (verdict.Wire lane wire fault) = omega arith
status_within name second (verdict.Row lane row) = omega arith

-- ---- the answer

module _ (files : Files) (names : VerifyWords) where
  abbrev answer : Result BoardVerdict VErr
  answer = verdict_on files names.board names.attempt.challenge names.attempt.reply

  answer_unread : NamesUnread files (name_in names) verify_parts answer
  unfolding verdict_on
  answer_unread = attempt_unread verdict_at files names

  answer_read : (board : List ℕ) → IsHeldFile files names.board board
      → (attempt : HeldAttempt files names.attempt.challenge names.attempt.reply)
      → answer ≡ Ok (verdict_of board attempt.challenge_bytes attempt.reply_bytes)
  unfolding verdict_on
  answer_read board is attempt = attempt_read verdict_at files names board is attempt

  answer_holds : VerifyHolds files names answer
  answer_holds = verify_holds files names (HasVerdict files names) answer answer_unread
      verdict_of answer_read (λ board is attempt. record {
        board = board;
        board_is = is;
        attempt = attempt;
        holds = verdict_holds board attempt.challenge_bytes attempt.reply_bytes;
      })

  answer_alone : IsAlone (λ _. Unit {0}) (HasVerdict files names) answer
  answer_alone verdict settles has =
      answer_read has.board has.board_is has.attempt
      ∙ ap (λ v. Ok v) ((verdicts_exact verdict has.board has.attempt.challenge_bytes
      has.attempt.reply_bytes).1 has.holds)

abbrev said_of : VerifyWords → Result BoardVerdict VErr → SaidValue
said_of names = answer_said (judged_said (name_in names) false) (unread_said (name_in names))

pub tells_verdicts : TellsVerdicts
tells_verdicts files names =
    answered_tells files (name_in names) verify_parts (HasVerdict files names)
    (answer files names) (answer_unread files names) (judged_said (name_in names) false)
    (λ _. Unit {0}) (answer_alone files names) (answer_holds files names)

-- ---- status 0

only_accepted : (files : Files) (names : VerifyWords) (answered : Result BoardVerdict VErr)
    → VerifyHolds files names answered
    → (said_of names answered).status ≡ 0 → AcceptsFiles files names
only_accepted files names =
    only_value files (name_in names) (verify_inputs names) (HasVerdict files names)
    (judged_said (name_in names) false) (AcceptsFiles files names)
    (λ answered holds zero_is. subst (HasVerdict files names)
    (status_accepted (name_in names) false answered (λ one. omega arith) (omega arith))
    holds)

pub verifies_exactly : VerifiesExactly
verifies_exactly files names = record {
  only = λ zero_is. only_accepted files names (answer files names) (answer_holds files names)
      zero_is;
  always = λ accepts _ _. ap (λ answered. (said_of names answered).status)
      (answer_alone files names verdict.Accepted tt accepts);
}
