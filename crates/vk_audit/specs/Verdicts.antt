-- What is said of a verdict, and of files that give none.
use Rattle.std.specs.Prelude.{ℕ, Bool, false, true, if◌then◌else◌, List, [], codes, decimal, Result, Ok, Err}
use Rattle.vk_io.specs.Files.{Files}
use Rattle.vk_wire.specs.declared.wire.WireFault.{WireFault}
use Rattle.vk_wire.specs.declared.wire.WireFault.TheVariants.{Form, Digest, NotASet}
use Rattle.vk_judge.specs.declared.answers.Part.{Part}
use Rattle.vk_judge.specs.declared.answers.Part.TheVariants.{Board, Challenge, Reply, SecondChallenge, SecondReply}
use Rattle.vk_verifier.specs.declared.answers.BoardVerdict.{BoardVerdict}
use Rattle.vk_verifier.specs.declared.answers.BoardVerdict.TheVariants.{Accepted, Malformed, Price, Winner, Lanes, Wire, Row}
use Rattle.vk_judge.specs.declared.answers.VErr.{VErr}
use Rattle.vk_judge.specs.declared.answers.VErr.TheVariants.{Missing, TooLong, Failed, NoMemory}
use Rattle.vk_verifier.specs.Verdicts.{verdict_on}
use Rattle.vk_words.specs.Names.{AttemptWords, ExtractWords, VerifyWords}
use Rattle.vk_effect.specs.Effects.{SaidValue}
use Rattle.vk_effect.specs.Texts.{◌+++◌, line_feed}
use Rattle.vk_effect.specs.NamedFiles.{malformed_said, missing_said, refused_said, too_long_said}

-- ---- names

-- the names of a command's files, each by the part that it stands for
abbrev pub PartNames : Type 0
PartNames = Part → List ℕ

-- the names of a file, and of the files of two replies to it
abbrev pub names_by : List ℕ → (first second : AttemptWords) → PartNames
names_by board first second Board = board
names_by board first second Challenge = first.challenge
names_by board first second Reply = first.reply
names_by board first second SecondChallenge = second.challenge
names_by board first second SecondReply = second.reply

-- those of one reply, which is both the first and the second
abbrev pub name_in : VerifyWords → PartNames
name_in names = names_by names.board names.attempt names.attempt

-- those of two
abbrev pub name_of : ExtractWords → PartNames
name_of names = names_by names.board names.first names.second

-- the second reply, or the first
abbrev pub reply_part : Bool → Part
reply_part second = if second then SecondReply else Reply

-- ---- verdicts

-- why a wire reads nothing
abbrev pub fault_text : WireFault → List ℕ
fault_text Form = codes "form"
fault_text (Digest false) = codes "digest 0"
fault_text (Digest true) = codes "digest 1"
fault_text NotASet = codes "set"

-- for what a reply is refused: the wire of the lane, or the row
abbrev pub wire_cause : ℕ → ℕ → WireFault → List ℕ
wire_cause lane wire fault = codes "lane " +++ decimal lane +++ codes " wire " +++ decimal wire +++
    codes " " +++ fault_text fault

abbrev pub row_cause : ℕ → ℕ → List ℕ
row_cause lane row = codes "lane " +++ decimal lane +++ codes " row " +++ decimal row

-- what is said of the verdict on the first reply, or on the second: refused is the board for its
-- price and its winner, and that reply for all else
abbrev pub judged_said : PartNames → Bool → BoardVerdict → SaidValue
judged_said name second Accepted = record { status = 0; text = codes "accepted" +++ line_feed }
judged_said name second (Malformed part line) = malformed_said (name part) line
judged_said name second Price = refused_said (name Board) (codes "price")
judged_said name second Winner = refused_said (name Board) (codes "winner")
judged_said name second Lanes = refused_said (name (reply_part second)) (codes "lanes")
judged_said name second (Wire lane wire fault) =
    refused_said (name (reply_part second)) (wire_cause lane wire fault)
judged_said name second (Row lane row) =
    refused_said (name (reply_part second)) (row_cause lane row)

-- both replies are accepted, and the challenges don't differ
abbrev pub same_said : SaidValue
same_said = record { status = 7; text = codes "same challenge" +++ line_feed }

-- ---- files that give no verdict

-- a file is missing or too long
abbrev pub IsOfFile : VErr → Type 0
IsOfFile (Missing part) = Unit {0}
IsOfFile (TooLong part) = Unit {0}
IsOfFile Failed = ⊥
IsOfFile NoMemory = ⊥

-- what is said of the first file that is missing or too long; of a failure of the outside and of
-- want of memory nothing is said
abbrev pub unread_said : PartNames → VErr → SaidValue
unread_said name (Missing part) = missing_said (name part)
unread_said name (TooLong part) = too_long_said (name part)
unread_said name Failed = record { status = 4; text = [] }
unread_said name NoMemory = record { status = 4; text = [] }

-- ---- `verify`

-- what is said of an answer: of the value, or of the fault for which there is none
abbrev pub answer_said : {X E : Type 0} → (X → SaidValue) → (E → SaidValue) → Result X E → SaidValue
answer_said of_value of_fault (Ok value) = of_value value
answer_said of_value of_fault (Err fault) = of_fault fault

-- what `verify` says
abbrev pub verify_said : Files → VerifyWords → SaidValue
verify_said files names =
    answer_said (judged_said (name_in names) false) (unread_said (name_in names))
    (verdict_on files names.board names.attempt.challenge names.attempt.reply)
