-- What a file that is given by name is read as, and what is said of it.
use Rattle.std.proofs.Common.{◌≡◌, ℕ, ◌^◌, ◌<◌, ◌≤◌, nat_lt, Bool, true, false, if◌then◌else◌, List, length, Option, Some, None, option_map, Result, Ok, Err, refl, sym, ap, subst, ◌∙◌, arith}
use Rattle.std.specs.Prelude.{IfErr, IfSome}
use Rattle.std.specs.FinMap.{get}
use Rattle.std.specs.Result.{result_err}
use Rattle.std.proofs.lemmas.Bool.Decides.{nat_tests}
use Rattle.std.proofs.lemmas.Bool.{le-ltb, lt-ltb}
use Rattle.vk_residue.specs.Steps.{◌>>=◌}
use Rattle.vk_io.specs.Files.{Files}
use Rattle.vk_lines.specs.declared.errors.ReadErr.{ReadErr}
use Rattle.vk_lines.specs.Forms.{IsWhole, Table, fault_line, whole}
use Rattle.vk_lines.specs.Gives.{Gives}
use Rattle.vk_lines.specs.Lines.{LinesValue, GivesReading, ReadsPart, Rest, rest_of}
use Rattle.vk_effect.specs.declared.reading.Unread.{Unread}
use Rattle.vk_effect.specs.Effects.{SaidValue}
use Rattle.vk_effect.specs.NamedFiles.{malformed_said, missing_said, too_long_said}
use Rattle.vk_effect.specs.Reading.{IsFile, begun_in, faulty_said, from_first, said_of_unread, value_in}
use Rattle.vk_effect.proofs.Acting.{if_some_map}

-- ---- answers

pub same_Ok : {T E : Type 0} (x y : T) → ◌≡◌ {A = Result T E} (Ok x) (Ok y) → x ≡ y
same_Ok x y same = cc

pub same_Err : {T E : Type 0} (x y : E) → ◌≡◌ {A = Result T E} (Err x) (Err y) → x ≡ y
same_Err x y same = cc

-- ---- a file is begun

-- one that is held, by whether it is too long
abbrev begun_if : (name bytes : List ℕ) → Bool → Result Rest SaidValue
begun_if name bytes long = if long then Err (too_long_said name) else Ok (from_first bytes)

pub begun_short : (name bytes : List ℕ) → length bytes ≤ 2 ^ 30
    → begun_in name (Some bytes) ≡ Ok (from_first bytes)
begun_short name bytes short = ap (begun_if name bytes) (le-ltb (2 ^ 30) (length bytes) short)

pub begun_long : (name bytes : List ℕ) → 2 ^ 30 < length bytes
    → begun_in name (Some bytes) ≡ Err (too_long_said name)
begun_long name bytes long = ap (begun_if name bytes) (lt-ltb (2 ^ 30) (length bytes) long)

-- the file of a text, and of no others a file is begun
pub file_begun : (files : Files) (name text : List ℕ) → IsFile files name text
    → begun_in name (get files name) ≡ Ok (from_first text)
file_begun files name text file = ap (begun_in name) file.held ∙ begun_short name text file.short

pub record Begun (file : Option (List ℕ)) (rest : Rest) : Type 0 where
  pub bytes : List ℕ
  pub held : file ≡ Some bytes
  pub short : length bytes ≤ 2 ^ 30
  pub first : rest ≡ from_first bytes

begun_by : (name bytes : List ℕ) (rest : Rest) (long : Bool) → nat_lt (2 ^ 30) (length bytes) ≡ long
    → begun_if name bytes long ≡ Ok rest → Begun (Some bytes) rest
begun_by name bytes rest true test is = cc
begun_by name bytes rest false test is =
    record { bytes = bytes; held = refl; short = grind (arith, nat_tests, test); first = cc }

pub begun_ok : (name : List ℕ) (file : Option (List ℕ)) (rest : Rest) → begun_in name file ≡ Ok rest
    → Begun file rest
begun_ok name None rest is = cc
begun_ok name (Some bytes) rest is =
    begun_by name bytes rest (nat_lt (2 ^ 30) (length bytes)) refl is

-- ---- a file is read whole

whole_by : {X : Type 0} (IsValue : X → Type 0) (text : X → List ℕ)
    (read : Rest → Result (X × Rest) ℕ) → IsWhole IsValue text read
    → (name bytes : List ℕ) (x : X) (answer : Result (X × Rest) ℕ)
    → read (from_first bytes) ≡ answer → value_in name answer ≡ Ok x → IsValue x × (bytes ≡ text x)
whole_by IsValue text read form name bytes x (Ok found) is given =
    let same : found.0 ≡ x = cc in
    let shown = form.shown (from_first bytes) found.0 found.1 is in
    (subst IsValue same shown.0, shown.1 ∙ ap text same)
whole_by IsValue text read form name bytes x (Err number) is given = cc

-- it is the text of the value that is read
pub file_read : {X : Type 0} (IsValue : X → Type 0) (text : X → List ℕ)
    (read : Rest → Result (X × Rest) ℕ) → IsWhole IsValue text read
    → (files : Files) (name : List ℕ) (rest : Rest) (x : X)
    → begun_in name (get files name) ≡ Ok rest → value_in name (read rest) ≡ Ok x
    → IsValue x × IsFile files name (text x)
file_read IsValue text read form files name rest x began given =
    let begun = begun_ok name (get files name) rest began in
    let is =
    whole_by IsValue text read form name begun.bytes x (read (from_first begun.bytes)) refl
    (subst (λ r. value_in name (read r) ≡ Ok x) begun.first given) in (
      is.0,
      record {
        held = begun.held ∙ ap Some is.1;
        short = subst (λ bytes. length bytes ≤ 2 ^ 30) is.1 begun.short;
      },
    )

-- and the text of a value is read as that value
pub whole_found : {X : Type 0} (IsValue : X → Type 0) (text : X → List ℕ)
    (read : Rest → Result (X × Rest) ℕ) → IsWhole IsValue text read
    → (name : List ℕ) (x : X) → IsValue x → value_in name (read (from_first (text x))) ≡ Ok x
whole_found IsValue text read form name x right =
    ap (value_in name) (form.found (from_first (text x)) x right refl).1

-- what is answered of it is of what was left of it before, where the files are modelled
pub part_told : {X : Type 0} (name : List ℕ) (read_at : Rest → Result (X × Rest) ℕ)
    (held : Option Files) (before after : LinesValue) (read : Result X ReadErr)
    (answer : Result X Unread)
    → ReadsPart read_at held before after read
    → ((rest : Rest) (expected : Result (X × Rest) ℕ) → GivesReading (λ x. x) read rest expected
    → Gives said_of_unread (λ x. x) answer (value_in name expected))
    → IfSome held (λ files. Gives said_of_unread (λ x. x) answer
    (value_in name (read_at (rest_of before files))))
part_told name read_at held before after read answer reads told =
    if_some_map _ _ (λ files is. told (rest_of after files) (read_at (rest_of before files)) is)
    held reads

-- ---- what is said of it

value_said : {X : Type 0} (name : List ℕ) (answer : Result (X × Rest) ℕ)
    → result_err (value_in name answer) ≡ option_map (malformed_said name) (result_err answer)
value_said name (Ok read) = refl
value_said name (Err number) = refl

-- of a file that was begun, what its fault line says
pub file_said : {Place X : Type 0} (table : Table Place) (read : Rest → Result (X × Rest) ℕ)
    → ((bytes : List ℕ) → fault_line table bytes ≡ result_err (whole read bytes))
    → (name : List ℕ) (file : Option (List ℕ)) (rest : Rest) → begun_in name file ≡ Ok rest
    → faulty_said table name file ≡ result_err (value_in name (read rest))
file_said table read faults name file rest began =
    let begun = begun_ok name file rest began in
    ap (faulty_said table name) begun.held
    ∙ ap (option_map (malformed_said name)) (faults begun.bytes)
    ∙ sym (value_said name (read (from_first begun.bytes)))
    ∙ ap (λ r. result_err (value_in name (read r))) (sym begun.first)

-- ---- what holds of all that is said

module _ (P : SaidValue → Type 0) where
  pub begun_says : (name : List ℕ) (file : Option (List ℕ)) → P (missing_said name)
      → P (too_long_said name) → IfErr (begun_in name file) P
  begun_says name None missing long = missing
  begun_says name (Some bytes) missing long =
      elim (nat_lt (2 ^ 30) (length bytes)) as (λ test. IfErr (begun_if name bytes test) P) [
        | true ↦ long
        | false ↦ tt
      ]

  pub value_says : {X : Type 0} (name : List ℕ) (read : Result (X × Rest) ℕ)
      → ((line : ℕ) → P (malformed_said name line)) → IfErr (value_in name read) P
  value_says name (Ok read) malformed = tt
  value_says name (Err line) malformed = malformed line

  -- of one reading after another
  pub then_says : {A B : Type 0} (found : Result A SaidValue) (f : A → Result B SaidValue)
      → IfErr found P → ((x : A) → IfErr (f x) P) → IfErr (found >>= f) P
  then_says (Ok x) f here later = later x
  then_says (Err said) f here later = here
