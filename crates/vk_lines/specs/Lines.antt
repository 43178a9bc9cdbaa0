-- Files as lines: what is left of a file, its next line, and how a form is read line by line.
use Rattle.std.specs.Prelude.{◌≡◌, ◌≢◌, ℕ, ◌+◌, ◌-◌, ◌^◌, ◌==◌, ◌<◌, ◌≤◌, nat_lt, min, Bool, true, false, if◌then◌else◌, List, [], length, unwrap_or, take, drop, Option, Some, None, Result, Ok, Err, codes, IsSome, IfSome, IfOk, ◌++◌}
use Rattle.std.specs.List.{position_or_len}
use Rattle.std.specs.FinMap.{get}
use Rattle.vk_residue.specs.Steps.{◌>>=◌}
use Rattle.vk_io.specs.declared.errors.OutsideErr.{OutsideErr}
use Rattle.vk_io.specs.Faults.{Causes, told_as}
use Rattle.vk_io.specs.Files.{Files, bytes_of, part_of}
use Rattle.vk_lines.specs.declared.errors.ReadErr.{ReadErr}
use Rattle.vk_lines.specs.declared.errors.ReadErr.TheVariants.{Malformed, Failed, NoMemory}
use Rattle.vk_lines.specs.declared.errors.StartErr.{StartErr}
use Rattle.vk_lines.specs.declared.errors.StartErr.TheVariants.{Missing, TooLong}
use Rattle.vk_lines.specs.declared.errors.StartErr.TheVariants as refused
use Rattle.vk_lines.specs.declared.step.Step.{Step}
use Rattle.vk_lines.specs.declared.step.Step.TheVariants.{Text, End, Long, Cut}
use Rattle.vk_lines.specs.Tokens.{word_of}
use Rattle.vk_lines.specs.Gives.{Gives}
pub use Rattle.vk_io.specs.Reads.{OnlyReads}

-- what is left of a file: how many lines of it were taken, and the bytes after them
pub record Rest : Type 0 where
  pub taken : ℕ
  pub left : List ℕ

-- where the first line feed stands, or how many bytes there are if there is none
abbrev pub feed_at : List ℕ → ℕ
feed_at left = position_or_len (λ byte. byte == 10) left

-- by where the first line feed stands among how many bytes
abbrev pub step_by : ℕ → ℕ → Step
step_by feed count =
    if nat_lt feed (min 256 count) then Text
    else if count == 0 then End
    else if nat_lt count 256 then Cut
    else Long

-- what stands next: a line, which has its line feed within 256 bytes; nothing; 256 bytes without a
-- line feed; or fewer, without one, and then the end
abbrev pub step_of : List ℕ → Step
step_of left = step_by (feed_at left) (length left)

-- the next line without its line feed, with what is left after it; or the number of the line that
-- isn't there
abbrev pub text_by : Step → Rest → Result (List ℕ × Rest) ℕ
text_by Text rest = Ok (
  take (feed_at rest.left) rest.left,
  record { taken = rest.taken + 1; left = drop (feed_at rest.left + 1) rest.left },
)
text_by End rest = Err (rest.taken + 1)
text_by Long rest = Err (rest.taken + 1)
text_by Cut rest = Err (rest.taken + 1)

unfoldable pub text_at : Rest → Result (List ℕ × Rest) ℕ
text_at rest = text_by (step_of rest.left) rest

-- ---- a reader of lines

-- a reader: the file's name and its length as it was told, how many bytes and lines were taken of
-- it, the bytes that were read and not yet taken, and the last line taken
pub record LinesValue : Type 0 where
  pub name : List ℕ
  pub size : ℕ
  pub at : ℕ
  pub taken : ℕ
  pub ahead : List ℕ
  pub text : List ℕ

-- the place of the first byte that was not yet read
abbrev pub unread : LinesValue → ℕ
unread lines = lines.at + length lines.ahead

-- the bytes of its file that a reader has not yet read, by what the file holds
abbrev pub unread_in : LinesValue → List ℕ → List ℕ
unread_in lines bytes = part_of bytes (unread lines) (lines.size - unread lines)

-- what is left for a reader of a file that holds these bytes
unfoldable pub rest_in : LinesValue → List ℕ → Rest
rest_in lines bytes = record { taken = lines.taken; left = lines.ahead ++ unread_in lines bytes }

-- what is left for a reader: of all files, the one of its name counts alone
unfoldable pub rest_of : LinesValue → Files → Rest
rest_of lines files = rest_in lines (bytes_of files lines.name)

-- a reader stays with its file: the name and the length that was told
pub record KeepsFile (old new : LinesValue) : Type 0 where
  pub name : new.name ≡ old.name
  pub size : new.size ≡ old.size

-- a reader of the named file that has taken no line, and shows none
pub record IsBefore (given : List ℕ) (lines : LinesValue) : Type 0 where
  pub name : lines.name ≡ given
  pub taken : lines.taken ≡ 0
  pub text : lines.text ≡ []

-- a reader starts before the first line of a file that is held and has at most 2^30 bytes
pub record StartsIn (files : Files) (name : List ℕ) (lines : LinesValue) : Type 0 where
  pub held : IsSome (get files name)
  pub small : length (bytes_of files name) ≤ 2 ^ 30
  pub size : lines.size ≡ length (bytes_of files name)
  pub rest : rest_of lines files ≡ record { taken = 0; left = bytes_of files name }

-- it is made where that is so, and refused where the file isn't held or has more bytes
abbrev pub Starts : Files → List ℕ → Result LinesValue StartErr → Type 0
Starts files name (Ok lines) = StartsIn files name lines
Starts files name (Err Missing) = get files name ≡ None
Starts files name (Err TooLong) = IsSome (get files name) × (2 ^ 30 < length (bytes_of files name))
Starts files name (Err refused.Failed) = Unit {0}
Starts files name (Err refused.NoMemory) = Unit {0}

-- a file from its first line on, where it is held and has at most 2^30 bytes
abbrev pub started : Option (List ℕ) → Result Rest StartErr
started None = Err Missing
started (Some bytes) = if nat_lt (2 ^ 30) (length bytes) then Err TooLong
    else Ok (record { taken = 0; left = bytes })

-- why a file of this length isn't read as lines, if it isn't
abbrev pub refusal_of : Option ℕ → Option StartErr
refusal_of None = Some Missing
refusal_of (Some size) = if nat_lt (2 ^ 30) size then Some TooLong else None

-- a reader of a file of this length is made or refused so; only one that could be made is refused
-- for want of memory
abbrev pub IsBegun : Option ℕ → Result LinesValue StartErr → Type 0
IsBegun told (Ok lines) = refusal_of told ≡ None
IsBegun told (Err refusal) = refusal ≡ unwrap_or (refusal_of told) refused.NoMemory

-- the same, by the shelf's answer where the length was asked
abbrev pub IsBegunBy : Result (Option ℕ) OutsideErr → Result LinesValue StartErr → Type 0
IsBegunBy (Ok told) result = IsBegun told result
IsBegunBy (Err outside) result = result ≡ Err (told_as refused.Failed refused.NoMemory outside)

-- the line that a reader took, with what is left after it; or the number of the line that isn't
-- there
abbrev pub line_taken : Step → LinesValue → LinesValue → Files → Result (List ℕ × Rest) ℕ
line_taken Text old new files = Ok (new.text, rest_of new files)
line_taken End old new files = Err (old.taken + 1)
line_taken Long old new files = Err (old.taken + 1)
line_taken Cut old new files = Err (old.taken + 1)

-- a step is the next one of what was left, and the reader took the line
pub record IsNext (step : Step) (old new : LinesValue) (files : Files) : Type 0 where
  pub next : step ≡ step_of (rest_of old files).left
  pub line : text_at (rest_of old files) ≡ line_taken step old new files
  pub other : step ≢ Text → rest_of new files ≡ rest_of old files

-- ---- reading a form

-- the fault line that a refusal tells
abbrev pub line_of : ReadErr → Option ℕ
line_of (Malformed line) = Some line
line_of Failed = None
line_of NoMemory = None

-- a reader's answer is what the definition gives: the value with what is left, or the fault line
abbrev pub GivesReading : {T X : Type 0} → (T → X) → Result T ReadErr → Rest → Result (X × Rest) ℕ
    → Type 0
GivesReading value result rest expected = Gives line_of (λ x. (value x, rest)) result expected

-- a call's answer is that of this reading of what was left before it, where the files are modelled
abbrev pub ReadsPart : {X : Type 0} → (Rest → Result (X × Rest) ℕ) → Option Files → LinesValue
    → LinesValue → Result X ReadErr → Type 0
ReadsPart read held old new result =
    IfSome held (λ files. GivesReading (λ x. x) result (rest_of new files)
    (read (rest_of old files)))

-- what every reader of a part promises: over files that are modelled the part is read as its
-- definition says, the reader stays with its file, and the shelf is only read
pub record Reads {X S : Type 0} (read : Rest → Result (X × Rest) ℕ) (held : S → Option Files)
    (faults : S → ℕ) (old new : LinesValue) (before after : S) (result : Result X ReadErr)
    : Type 0 where
  pub modelled : ReadsPart read (held before) old new result
  pub file : KeepsFile old new
  pub shelf : OnlyReads held faults Failed result before after

-- the same of a reader of values, which says besides what is true of each that it answers
pub record ReadsRight {X S : Type 0} (read : Rest → Result (X × Rest) ℕ) (IsValue : X → Type 0)
    (held : S → Option Files) (faults : S → ℕ) (old new : LinesValue) (before after : S)
    (result : Result X ReadErr) : Type 0 where
  pub modelled : ReadsPart read (held before) old new result
  pub file : KeepsFile old new
  pub shelf : OnlyReads held faults Failed result before after
  pub right : IfOk result IsValue

-- what a reader that takes no memory promises besides: only the shelf answers want of it, and each
-- such answer is counted
pub record ReadsFreely {X S : Type 0} (read : Rest → Result (X × Rest) ℕ)
    (held : S → Option Files) (faults wanted : S → ℕ) (old new : LinesValue) (before after : S)
    (result : Result X ReadErr) : Type 0 where
  pub modelled : ReadsPart read (held before) old new result
  pub file : KeepsFile old new
  pub shelf : OnlyReads held faults Failed result before after
  pub wants : Causes NoMemory result (wanted before) (wanted after)

-- the value of a line, or the line's number where it has none
abbrev pub value_at : {X : Type 0} → Option X → Rest → Result (X × Rest) ℕ
value_at (Some x) rest = Ok (x, rest)
value_at None rest = Err rest.taken

-- a line of a form that `parse` tells
unfoldable pub line_by : {X : Type 0} → (List ℕ → Option X) → Rest → Result (X × Rest) ℕ
line_by parse rest = do
  line ← text_at rest
  value_at (parse line.0) line.1

-- nothing is left
abbrev pub none_left : Rest → Result (Unit × Rest) ℕ
none_left rest = if length rest.left == 0 then Ok (tt, rest) else Err (rest.taken + 1)

-- the same, by what stands next
abbrev pub ended : Step → Rest → Result (Unit × Rest) ℕ
ended End rest = Ok (tt, rest)
ended Text rest = Err (rest.taken + 1)
ended Long rest = Err (rest.taken + 1)
ended Cut rest = Err (rest.taken + 1)

abbrev pub is_text : Step → Bool
is_text Text = true
is_text _ = false

abbrev pub is_end : Step → Bool
is_end End = true
is_end _ = false

-- what is answered after so many lines, by whether what is to stand next does
abbrev pub answer_by : Bool → ℕ → Result Unit ReadErr
answer_by stands before = if stands then Ok tt else Err (Malformed (before + 1))

-- the line `end`, and nothing after it
unfoldable pub end_at : Rest → Result (Unit × Rest) ℕ
end_at rest = do
  last ← line_by (word_of (codes "end")) rest
  none_left last.1
