-- What is answered of named files that are read one after another: it holds of them, and what
-- settles what is said is said.
use Rattle.std.proofs.Common.{◌≡◌, ℕ, Bool, false, true, List, [], ◌∷◌, map, Option, Some, None, Result, Ok, Err, refl, sym, ap, subst, ◌∙◌}
use Rattle.std.specs.List.{AllByRecursion}
use Rattle.std.specs.FinMap.{get}
use Rattle.vk_residue.specs.Steps.{◌>>=◌}
use Rattle.vk_io.specs.Files.{Files}
use Rattle.vk_lines.specs.Lines.{Rest}
use Rattle.vk_judge.specs.declared.answers.Part.{Part}
use Rattle.vk_judge.specs.declared.answers.Part.TheVariants as part
use Rattle.vk_judge.specs.declared.answers.VErr.{VErr}
use Rattle.vk_judge.specs.declared.answers.VErr.TheVariants.{Missing, TooLong, Failed, NoMemory}
use Rattle.vk_judge.specs.Begun.{of_files}
use Rattle.vk_judge.specs.Begun.{begun_file, from_start, of_attempt}
use Rattle.vk_judge.specs.HeldFiles.{HeldAttempt, IsHeldFile}
use Rattle.vk_judge.proofs.HeldFiles.{attempt_found, begun_found}
use Rattle.vk_words.specs.Names.{ExtractWords, VerifyWords}
use Rattle.vk_effect.specs.Effects.{SaidValue, puts}
use Rattle.vk_effect.specs.NamedFiles.{missing_said, too_long_said}
use Rattle.vk_audit.specs.Answers.{AnswerHolds, TellsAnswer}
use Rattle.vk_audit.specs.Inputs.{CanBeRead, HoldsFiles, extract_inputs, verify_inputs}
use Rattle.vk_audit.specs.Verdicts.{PartNames, answer_said, name_in, name_of, unread_said}
use Rattle.vk_audit.proofs.Telling.{tells}
use Rattle.vk_audit.proofs.Inputs.{NamesUnread, all_read, begun_unread, fault_of, first_unread, never_none, unread_found, unread_shown}

-- ---- three files

abbrev pub verify_parts : List Part
verify_parts = part.Board ∷ part.Challenge ∷ part.Reply ∷ []

module _ {X : Type 0} (whole : Rest → Rest → Rest → X) (files : Files) (names : VerifyWords) where
  abbrev of_reply : Rest → Rest → Result X VErr
  of_reply board challenge = begun_file part.Reply (get files names.attempt.reply) >>= λ reply.
      Ok (whole board challenge reply)

  abbrev of_challenge : Rest → Result X VErr
  of_challenge board = begun_file part.Challenge (get files names.attempt.challenge) >>= of_reply
      board

  pub attempt_unread : NamesUnread files (name_in names) verify_parts
      (of_attempt whole files names.board names.attempt.challenge names.attempt.reply)
  attempt_unread unread is =
      begun_unread part.Board _ of_challenge unread (λ board rest.
      begun_unread part.Challenge _ (of_reply board) unread (λ challenge rest.
      begun_unread part.Reply None (λ reply. Ok (whole board challenge reply)) unread
      (λ reply none. absurd (never_none unread none))
      (get files names.attempt.reply) rest) (get files names.attempt.challenge) rest)
      (get files names.board) is

  pub attempt_read : (board : List ℕ) → IsHeldFile files names.board board
      → (attempt : HeldAttempt files names.attempt.challenge names.attempt.reply)
      → of_attempt whole files names.board names.attempt.challenge names.attempt.reply
      ≡ Ok (whole (from_start board) (from_start attempt.challenge_bytes)
      (from_start attempt.reply_bytes))
  attempt_read board is attempt =
      begun_found files names.board board part.Board of_challenge is
      ∙ attempt_found files part.Challenge part.Reply names.attempt.challenge names.attempt.reply
      (λ challenge reply. Ok (whole
      (from_start board) challenge reply)) attempt

pub attempt_held : {files : Files} {names : VerifyWords}
    → AllByRecursion (CanBeRead files) (verify_inputs names)
    → HeldAttempt files names.attempt.challenge names.attempt.reply
attempt_held read = record {
  challenge_bytes = read.1.0.0;
  reply_bytes = read.1.1.0.0;
  challenge_is = read.1.0.1;
  reply_is = read.1.1.0.1;
}

-- ---- five files

abbrev pub extract_parts : List Part
extract_parts = part.Board ∷ part.Challenge ∷ part.Reply ∷ part.SecondChallenge ∷ part.SecondReply
    ∷ []

module _ {X : Type 0} (whole : Rest → Rest → Rest → Rest → Rest → X) (files : Files) (names : ExtractWords) where
  abbrev last_then : Rest → Rest → Rest → Rest → Result X VErr
  last_then board challenge reply other =
      begun_file part.SecondReply (get files names.second.reply) >>= λ second.
      Ok (whole board challenge reply other second)

  abbrev other_then : Rest → Rest → Rest → Result X VErr
  other_then board challenge reply =
      begun_file part.SecondChallenge (get files names.second.challenge) >>= last_then board
      challenge reply

  abbrev reply_then : Rest → Rest → Result X VErr
  reply_then board challenge =
      begun_file part.Reply (get files names.first.reply) >>= other_then board challenge

  abbrev challenge_then : Rest → Result X VErr
  challenge_then board = begun_file part.Challenge (get files names.first.challenge) >>= reply_then
      board

  pub files_unread : NamesUnread files (name_of names) extract_parts
      (of_files whole files names.board names.first.challenge names.first.reply
      names.second.challenge names.second.reply)
  files_unread unread is =
      begun_unread part.Board _ challenge_then unread (λ board rest.
      begun_unread part.Challenge _ (reply_then board) unread (λ challenge rest.
      begun_unread part.Reply _ (other_then board challenge) unread (λ reply rest.
      begun_unread part.SecondChallenge _ (last_then board challenge reply) unread (λ other rest.
      begun_unread part.SecondReply None (λ second. Ok (whole board challenge reply other second))
      unread (λ second none. absurd (never_none unread none))
      (get files names.second.reply) rest) (get files names.second.challenge) rest)
      (get files names.first.reply) rest)
      (get files names.first.challenge) rest) (get files names.board) is

pub files_held : {files : Files} {names : ExtractWords}
    → AllByRecursion (CanBeRead files) (extract_inputs names) → HoldsFiles files names
files_held read = record {
  file_bytes = read.0.0;
  file_is = read.0.1;
  first = record {
    challenge_bytes = read.1.0.0;
    reply_bytes = read.1.1.0.0;
    challenge_is = read.1.0.1;
    reply_is = read.1.1.0.1;
  };
  second = record {
    challenge_bytes = read.1.1.1.0.0;
    reply_bytes = read.1.1.1.1.0.0;
    challenge_is = read.1.1.1.0.1;
    reply_is = read.1.1.1.1.0.1;
  };
}

-- ---- the answer

-- what is said of it, where the files have these names
abbrev pub said_by : {X : Type 0} → PartNames → (X → SaidValue) → Result X VErr → SaidValue
said_by name said answered = answer_said said (unread_said name) answered

-- what settles what is said, where it holds, is the answer
abbrev pub IsAlone : {X : Type 0} → (Result X VErr → Type 0) → (X → Type 0) → Result X VErr
    → Type 0
IsAlone {X} Settles Holds answer =
    (value : X) → Settles (Ok value) → Holds value → answer ≡ Ok value

-- an answer that names the first of these parts whose file can't be read, and holds where all can
-- be
module _ {X : Type 0} (files : Files) (name : PartNames) (parts : List Part) (Holds : X → Type 0) (answer : Result X VErr)
    (unread : NamesUnread files name parts answer) where
  abbrev Answers : Result X VErr → Type 0
  Answers = AnswerHolds files name (map name parts) Holds

  answer_by : (AllByRecursion (CanBeRead files) (map name parts) → Answers answer)
      → (found : Option (Part × Bool)) → first_unread files name parts ≡ found → Answers answer
  answer_by read (Some (part, true)) is =
      subst Answers (sym (unread (part, true) is)) (unread_shown files name parts (part, true) is)
  answer_by read (Some (part, false)) is =
      subst Answers (sym (unread (part, false) is)) (unread_shown files name parts (part, false) is)
  answer_by read None is = read (all_read files name parts is)

  pub answered_holds : (AllByRecursion (CanBeRead files) (map name parts) → Answers answer)
      → Answers answer
  answered_holds read = answer_by read (first_unread files name parts) refl

  -- it is said like every answer that holds and is the only one of its kind
  module _ (said : X → SaidValue) where
    abbrev said_of : Result X VErr → SaidValue
    said_of = said_by name said

    pub answered_settled : (Settles : Result X VErr → Type 0) → IsAlone Settles Holds answer
        → (other : Result X VErr) → Settles other → Answers other → said_of answer ≡ said_of other
    answered_settled Settles alone (Ok value) settles holds = ap said_of (alone value settles holds)
    answered_settled Settles alone (Err (Missing part)) settles holds =
        let found = unread_found files name parts (name part) false holds in
        ap said_of (unread (found.0, false) found.1) ∙ ap missing_said found.2
    answered_settled Settles alone (Err (TooLong part)) settles holds =
        let found = unread_found files name parts (name part) true holds in
        ap said_of (unread (found.0, true) found.1) ∙ ap too_long_said found.2
    answered_settled Settles alone (Err Failed) settles holds = absurd holds
    answered_settled Settles alone (Err NoMemory) settles holds = absurd holds

    -- so it is told
    pub answered_tells : (Settles : Result X VErr → Type 0) → IsAlone Settles Holds answer
        → Answers answer → (taken : Option (List ℕ))
        → TellsAnswer Answers Settles said_of (said_of answer).status taken
        (puts (said_of answer).text taken)
    answered_tells Settles alone holds taken =
        tells Answers Settles said_of answer taken holds (answered_settled Settles alone)

-- of three files that can all be read, and of five, that value is the answer
pub verify_holds : {X : Type 0} (files : Files) (names : VerifyWords) (Holds : X → Type 0)
    (answer : Result X VErr)
    → NamesUnread files (name_in names) verify_parts answer
    → (value : (board challenge reply : List ℕ) → X)
    → ((board : List ℕ) → IsHeldFile files names.board board
    → (attempt : HeldAttempt files names.attempt.challenge names.attempt.reply)
    → answer ≡ Ok (value board attempt.challenge_bytes attempt.reply_bytes))
    → ((board : List ℕ) → IsHeldFile files names.board board
    → (attempt : HeldAttempt files names.attempt.challenge names.attempt.reply)
    → Holds (value board attempt.challenge_bytes attempt.reply_bytes))
    → AnswerHolds files (name_in names) (verify_inputs names) Holds answer
verify_holds files names Holds answer unread value read holds =
    answered_holds files (name_in names) verify_parts Holds answer unread (λ all.
    subst (AnswerHolds files (name_in names) (verify_inputs names) Holds)
    (sym (read all.0.0 all.0.1 (attempt_held all)))
    (holds all.0.0 all.0.1 (attempt_held all)))

pub extract_holds : {X : Type 0} (files : Files) (names : ExtractWords) (Holds : X → Type 0)
    (answer : Result X VErr)
    → NamesUnread files (name_of names) extract_parts answer
    → (value : HoldsFiles files names → X)
    → ((held : HoldsFiles files names) → answer ≡ Ok (value held))
    → ((held : HoldsFiles files names) → Holds (value held))
    → AnswerHolds files (name_of names) (extract_inputs names) Holds answer
extract_holds files names Holds answer unread value read holds =
    answered_holds files (name_of names) extract_parts Holds answer unread (λ all.
    subst (AnswerHolds files (name_of names) (extract_inputs names) Holds)
    (sym (read (files_held all))) (holds (files_held all)))
