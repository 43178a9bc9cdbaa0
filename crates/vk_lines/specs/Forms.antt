-- A form of file, said three ways that agree: the text of a value, what is read, and the first line
-- that isn't as its place demands.
use Rattle.std.specs.Prelude.{◌≡◌, ◌↔◌, ℕ, ◌+◌, ◌≤◌, ◌==◌, ◌&&◌, ◌<◌, slice_index_or, nat_lt, zero, suc, Bool, true, if◌then◌else◌, List, [], ◌∷◌, ◌++◌, length, Option, Some, None, Result, Ok, Err, IfSome, IfOk}
use Rattle.std.specs.List.{list_all, slice_split, join_with_byte}
use Rattle.vk_residue.specs.Steps.{◌>>=◌}
use Rattle.vk_io.specs.Files.{Files}
use Rattle.vk_lines.specs.declared.errors.ReadErr.{ReadErr}
use Rattle.vk_lines.specs.declared.errors.ReadErr.TheVariants.{Malformed, Failed, NoMemory}
use Rattle.vk_lines.specs.Lines.{KeepsFile, LinesValue, OnlyReads, ReadsPart, Rest, rest_of}
use Rattle.vk_lines.specs.Tokens.{hex_text}

-- ---- the text of a value, and what is read

-- characters above the space alone
abbrev pub is_word : List ℕ → Bool
is_word text = list_all (λ byte. nat_lt 32 byte) text

-- the same, and spaces
abbrev pub is_plain : List ℕ → Bool
is_plain text = list_all (λ byte. nat_lt 31 byte) text

-- a token: each value has one word, of at most `most` bytes, and is read from that word alone
pub record IsToken {X : Type 0} (most : ℕ) (IsValue : X → Type 0) (text : X → List ℕ)
    (parse : List ℕ → Option X) : Type 0 where
  pub found : (x : X) → IsValue x → parse (text x) ≡ Some x
  pub shown : (word : List ℕ) (x : X) → parse word ≡ Some x → IsValue x × (word ≡ text x)
  pub word : (x : X) → IsValue x → is_word (text x) ≡ true
  pub short : (x : X) → IsValue x → length (text x) ≤ most

-- a line: each value has one text, plain and of at most 255 bytes, and is read from that text alone
pub record IsLine {X : Type 0} (IsValue : X → Type 0) (text : X → List ℕ)
    (parse : List ℕ → Option X) : Type 0 where
  pub found : (x : X) → IsValue x → parse (text x) ≡ Some x
  pub shown : (line : List ℕ) (x : X) → parse line ≡ Some x → IsValue x × (line ≡ text x)
  pub plain : (x : X) → IsValue x → is_plain (text x) ≡ true
  pub short : (x : X) → IsValue x → length (text x) ≤ 255

-- words between single spaces
abbrev pub spaced : List (List ℕ) → List ℕ
spaced words = join_with_byte 32 words

-- a text as a line of a file
abbrev pub line : List ℕ → List ℕ
line text = text ++ 10 ∷ []

-- a line of a word and two digests, as text
abbrev pub digests_text : List ℕ → List ℕ → List ℕ → List ℕ
digests_text word first second = spaced (word ∷ hex_text first ∷ hex_text second ∷ [])

-- a part of a file: each value has one text, and is read where what is left begins with that text
-- alone
pub record IsPart {X : Type 0} (IsValue : X → Type 0) (text : X → List ℕ)
    (read : Rest → Result (X × Rest) ℕ) : Type 0 where
  pub found : (rest : Rest) (x : X) (more : List ℕ) → IsValue x → rest.left ≡ text x ++ more
      → (taken : ℕ) × (read rest ≡ Ok (x, record { taken = taken; left = more }))
  pub shown : (rest : Rest) (x : X) (after : Rest) → read rest ≡ Ok (x, after)
      → IsValue x × (rest.left ≡ text x ++ after.left)

-- a whole file: each value has one text, and is read from the bytes that are that text alone
pub record IsWhole {X : Type 0} (IsValue : X → Type 0) (text : X → List ℕ)
    (read : Rest → Result (X × Rest) ℕ) : Type 0 where
  pub found : (rest : Rest) (x : X) → IsValue x → rest.left ≡ text x
      → (after : Rest) × (read rest ≡ Ok (x, after))
  pub shown : (rest : Rest) (x : X) (after : Rest) → read rest ≡ Ok (x, after)
      → IsValue x × (rest.left ≡ text x)

-- so many values one after another, each read in the light of those before it
unfoldable pub many_onto : {X : Type 0} → List X → ℕ → (List X → Rest → Result (X × Rest) ℕ) → Rest
    → Result (List X × Rest) ℕ
many_onto before zero read rest = Ok (before, rest)
many_onto before (suc count) read rest =
    read before rest >>= λ next. many_onto (before ++ next.0 ∷ []) count read next.1

abbrev pub many_at : {X : Type 0} → ℕ → (List X → Rest → Result (X × Rest) ℕ) → Rest
    → Result (List X × Rest) ℕ
many_at count read rest = many_onto [] count read rest

-- each value is right after those before it
abbrev pub EachAfter : {X : Type 0} → (List X → X → Type 0) → List X → List X → Type 0
EachAfter IsValue before [] = Unit {0}
EachAfter IsValue before (x ∷ xs) = IsValue before x × EachAfter IsValue (before ++ x ∷ []) xs

-- the texts of values that are numbered on from that number
abbrev pub numbered_text : {X : Type 0} → (ℕ → X → List ℕ) → ℕ → List X → List ℕ
numbered_text text number [] = []
numbered_text text number (x ∷ xs) = text number x ++ numbered_text text (number + 1) xs

-- each value is right by its number, counted from 0
abbrev pub EachNumbered : {X : Type 0} → (ℕ → X → Type 0) → List X → Type 0
EachNumbered {X} IsValue xs = (k : ℕ) (x : X) → k < length xs → IsValue k (slice_index_or xs k x)

-- a whole file: it is read from its first line to its end
abbrev pub whole : {X : Type 0} → (Rest → Result (X × Rest) ℕ) → List ℕ → Result (X × Rest) ℕ
whole read bytes = read (record { taken = 0; left = bytes })

-- ---- the fault line

-- a form by its table: the first place; the place after a line that may stand at a place, None
-- where no such line may; and whether a place is past the line `end`
pub record Table (Place : Type 0) : Type 0 where
  pub first : Place
  pub next : Place → List ℕ → Option Place
  pub over : Place → Bool

-- what comes of the lines after this one, where it may stand
abbrev pub fault_after : {Place : Type 0} → ℕ → (Place → Option ℕ) → Option Place → Option ℕ
fault_after number later None = Some number
fault_after number later (Some place) = later place

-- the number of the first line that isn't as its place demands, among the pieces between line
-- feeds, of which the last is no line: it isn't there and the lines before it don't end with `end`;
-- or it has no line feed within 256 bytes; or it may not stand there
abbrev pub fault_from : {Place : Type 0} → Table Place → Place → ℕ → List (List ℕ) → Option ℕ
fault_from table place taken [] = Some (taken + 1)
fault_from table place taken (last ∷ []) = if length last == 0 && table.over place then None
    else Some (taken + 1)
fault_from table place taken (text ∷ piece ∷ more) =
    if nat_lt (length text) 256
    then fault_after (taken + 1) (λ after. fault_from table after (taken + 1) (piece ∷ more))
    (table.next place text)
    else Some (taken + 1)

-- the same from a place on
unfoldable pub fault_at : {Place : Type 0} → Table Place → Place → Rest → Option ℕ
fault_at table place rest = fault_from table place rest.taken
    (slice_split (λ byte. byte == 10) rest.left)

-- the fault line of a file, None where it has none
abbrev pub fault_line : {Place : Type 0} → Table Place → List ℕ → Option ℕ
fault_line table bytes = fault_at table table.first (record { taken = 0; left = bytes })

-- reading from a place leads to another, and finds the fault that the table gives
pub record Follows {Place X : Type 0} (table : Table Place) (place : Place)
    (read : Rest → Result (X × Rest) ℕ) (after : X → Place) : Type 0 where
  pub ok : (rest : Rest) (x : X) (more : Rest) → read rest ≡ Ok (x, more)
      → fault_at table place rest ≡ fault_at table (after x) more
  pub err : (rest : Rest) (number : ℕ) → read rest ≡ Err number
      → fault_at table place rest ≡ Some number

-- reading from a place to the end of the file finds the fault that the table gives, and none where
-- there is none
pub record FindsFaults {Place X : Type 0} (table : Table Place) (place : Place)
    (read : Rest → Result (X × Rest) ℕ) : Type 0 where
  pub ok : (rest : Rest) (x : X) (more : Rest) → read rest ≡ Ok (x, more)
      → fault_at table place rest ≡ None
  pub err : (rest : Rest) (number : ℕ) → read rest ≡ Err number
      → fault_at table place rest ≡ Some number

-- a form by its texts and its table, which agree: a file has no fault line exactly where it is the
-- text of a value
abbrev pub FaultsAllButTexts : {Place X : Type 0} → (X → Type 0) → (X → List ℕ) → Table Place
    → Type 0
FaultsAllButTexts {X = X} IsValue text table = (bytes : List ℕ) → (fault_line table bytes ≡ None)
    ↔ ((x : X) × IsValue x × (bytes ≡ text x))

-- what a reader of a whole file answers, by the texts and the table alone: the value whose text the
-- file is, or the file's fault line. After a failure of the outside or want of memory nothing is
-- said
abbrev pub Answers : {Place T X : Type 0} → (X → Type 0) → (X → List ℕ) → Table Place → (T → X)
    → List ℕ → Result T ReadErr → Type 0
Answers IsValue text table value bytes (Ok x) = IsValue (value x) × (bytes ≡ text (value x))
Answers IsValue text table value bytes (Err (Malformed line)) = fault_line table bytes ≡ Some line
Answers IsValue text table value bytes (Err Failed) = Unit {0}
Answers IsValue text table value bytes (Err NoMemory) = Unit {0}

-- the same of a reader that stands before the first line, where the files are modelled
abbrev pub AnswersWhole : {Place X : Type 0} → (X → Type 0) → (X → List ℕ) → Table Place
    → Option Files → LinesValue → Result X ReadErr → Type 0
AnswersWhole {X = X} IsValue text table held lines result =
    IfSome held (λ files. (bytes : List ℕ)
    → rest_of lines files ≡ record { taken = 0; left = bytes }
    → Answers IsValue text table (λ (x : X). x) bytes result)

-- what a reader of a whole file promises: what every reader of right values does, and what it
-- answers by the texts and the table alone
pub record ReadsWhole {Place X S : Type 0} (read : Rest → Result (X × Rest) ℕ)
    (IsValue : X → Type 0) (text : X → List ℕ) (table : Table Place) (held : S → Option Files)
    (faults : S → ℕ) (old new : LinesValue) (before after : S) (result : Result X ReadErr)
    : Type 0 where
  pub modelled : ReadsPart read (held before) old new result
  pub file : KeepsFile old new
  pub shelf : OnlyReads held faults Failed result before after
  pub right : IfOk result IsValue
  pub answers : AnswersWhole IsValue text table (held before) old result
