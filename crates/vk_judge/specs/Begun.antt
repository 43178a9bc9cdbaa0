-- Named files, each from its first line on; or the first of them that is missing or too long.
use Rattle.std.specs.Prelude.{ℕ, ◌^◌, nat_lt, if◌then◌else◌, List, length, Option, Some, None, Result, Ok, Err}
use Rattle.std.specs.FinMap.{get}
use Rattle.vk_residue.specs.Steps.{◌>>=◌}
use Rattle.vk_io.specs.Files.{Files}
use Rattle.vk_lines.specs.Lines.{Rest, rest_of}
use Rattle.vk_judge.specs.declared.answers.Part.{Part}
use Rattle.vk_judge.specs.declared.answers.Part.TheVariants as part
use Rattle.vk_judge.specs.declared.answers.VErr.{VErr}
use Rattle.vk_judge.specs.declared.answers.VErr.TheVariants as verr
use Rattle.vk_judge.specs.declared.stage.Attempt.{Attempt}
use Rattle.vk_judge.specs.declared.named.TwoReplies.{TwoReplies}

-- a file from its first line on
abbrev pub from_start : List ℕ → Rest
from_start bytes = record { taken = 0; left = bytes }

-- the fault that a refusal tells: which file is missing or too long
abbrev pub unread_file : VErr → Option VErr
unread_file (verr.Missing file) = Some (verr.Missing file)
unread_file (verr.TooLong file) = Some (verr.TooLong file)
unread_file verr.Failed = None
unread_file verr.NoMemory = None

-- a file from its first line on, where it is held and has at most 2^30 bytes
abbrev pub begun_file : Part → Option (List ℕ) → Result Rest VErr
begun_file file None = Err (verr.Missing file)
begun_file file (Some bytes) = if nat_lt (2 ^ 30) (length bytes) then Err (verr.TooLong file)
    else Ok (from_start bytes)

-- what three named files come to from their first lines on; or the first of them, in this order,
-- that is missing or too long
abbrev pub of_attempt : {X : Type 0} → (Rest → Rest → Rest → X) → Files → List ℕ → List ℕ → List ℕ
    → Result X VErr
of_attempt whole files file challenge reply = do
  file ← begun_file part.Board (get files file)
  challenge ← begun_file part.Challenge (get files challenge)
  reply ← begun_file part.Reply (get files reply)
  Ok (whole file challenge reply)

-- what they come to for the readers of them
abbrev pub of_begun : {X : Type 0} → (Rest → Rest → Rest → X) → Attempt → Files → X
of_begun whole attempt files =
    whole (rest_of attempt.pair.file files) (rest_of attempt.challenge files)
    (rest_of attempt.pair.reply files)

abbrev pub three_rests : Rest → Rest → Rest → Rest × Rest × Rest
three_rests file challenge reply = (file, challenge, reply)

-- ---- two replies

-- what five named files come to from their first lines on; or the first of them, in this order,
-- that is missing or too long
abbrev pub of_files : {X : Type 0} → (Rest → Rest → Rest → Rest → Rest → X) → Files → List ℕ
    → List ℕ → List ℕ → List ℕ → List ℕ → Result X VErr
of_files whole files file first_challenge first_reply second_challenge second_reply = do
  file ← begun_file part.Board (get files file)
  first_challenge ← begun_file part.Challenge (get files first_challenge)
  first_reply ← begun_file part.Reply (get files first_reply)
  second_challenge ← begun_file part.SecondChallenge (get files second_challenge)
  second_reply ← begun_file part.SecondReply (get files second_reply)
  Ok (whole file first_challenge first_reply second_challenge second_reply)

abbrev pub five_rests : Rest → Rest → Rest → Rest → Rest → Rest × Rest × Rest × Rest × Rest
five_rests file first_challenge first_reply second_challenge second_reply =
    (file, first_challenge, first_reply, second_challenge, second_reply)

abbrev pub named_rests : Files → TwoReplies → Result (Rest × Rest × Rest × Rest × Rest) VErr
named_rests files names = of_files five_rests files names.file.now names.challenge1.now
    names.reply1.now names.challenge2.now names.reply2.now
