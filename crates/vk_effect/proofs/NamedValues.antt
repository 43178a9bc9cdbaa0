-- The value that a named file is read as, and what is said of others.
use Rattle.std.proofs.Common.{◌≡◌, ℕ, List, [], ◌∷◌, Option, Some, None, Result, Ok, Err, refl, sym, ap, subst, ◌∙◌}
use Rattle.std.specs.Prelude.{◌↔◌, IfErr, IfSome}
use Rattle.std.specs.FinMap.{get}
use Rattle.std.specs.Result.{result_err}
use Rattle.vk_residue.specs.Steps.{◌>>=◌}
use Rattle.vk_io.specs.Files.{Files}
use Rattle.vk_lines.specs.declared.errors.ReadErr.{ReadErr}
use Rattle.vk_lines.specs.Forms.{IsWhole, Table, fault_line, whole}
use Rattle.vk_lines.specs.Gives.{Gives}
use Rattle.vk_lines.specs.Lines.{LinesValue, GivesReading, ReadsPart, Rest, rest_of}
use Rattle.vk_keeper.specs.Joining.{first_of}
use Rattle.vk_effect.specs.declared.reading.Unread.{Unread}
use Rattle.vk_effect.specs.Effects.{SaidValue}
use Rattle.vk_effect.specs.NamedFiles.{malformed_said, missing_said, too_long_said}
use Rattle.vk_effect.specs.Reading.{IsFileOf, begun_in, faulty_said, named_in, said_of_unread, unheld_said, value_in}
use Rattle.vk_effect.proofs.NamedFiles.{begun_says, file_begun, file_read, file_said, part_told, then_says, value_says, whole_found}

pub then_ok : {A B : Type 0} (answer : Result A SaidValue) (next : A → Result B SaidValue) (y : B)
    → (answer >>= next) ≡ Ok y → (x : A) × (answer ≡ Ok x) × (next x ≡ Ok y)
then_ok (Ok x) next y is = (x, refl, is)
then_ok (Err said) next y is = cc

-- what is said of one reading after another is what the first says, or else what the second does
said_first : {A B : Type 0} (answer : Result A SaidValue) (next : A → Result B SaidValue)
    (faulty : Option SaidValue) → ((x : A) → answer ≡ Ok x → faulty ≡ result_err (next x))
    → result_err (answer >>= next) ≡ first_of (result_err answer ∷ faulty ∷ [])
unfolding first_of
said_first (Err said) next faulty is = refl
said_first (Ok x) next None is = sym (is x refl)
said_first (Ok x) next (Some said) is = sym (is x refl)

module _ {X : Type 0} (IsValue : X → Type 0) (text : X → List ℕ) (read : Rest → Result (X × Rest) ℕ) (form : IsWhole IsValue text read) where
  -- it is the value of whose text the file is
  of_text : (files : Files) (name : List ℕ) (x : X) → named_in read files name ≡ Ok x
      → IsFileOf IsValue text files name x
  unfolding named_in
  of_text files name x is =
      let begun = then_ok (begun_in name (get files name)) (λ file. value_in name (read file)) x is
      in
      let given = file_read IsValue text read form files name begun.0 x begun.1 begun.2 in
      record { right = given.0; file = given.1 }

  pub named_found : (files : Files) (name : List ℕ) (x : X) → IsFileOf IsValue text files name x
      → named_in read files name ≡ Ok x
  unfolding named_in
  named_found files name x is =
      ap (λ b. b >>= λ file. value_in name (read file)) (file_begun files name (text x) is.file)
      ∙ whole_found IsValue text read form name x is.right

  pub named_exactly : (files : Files) (name : List ℕ) (x : X) → (named_in read files name ≡ Ok x)
      ↔ IsFileOf IsValue text files name x
  named_exactly files name x = (of_text files name x, named_found files name x)

-- what is said of others is the first of these: it isn't held or is too long, or its fault line
pub named_said : {Place X : Type 0} (table : Table Place) (read : Rest → Result (X × Rest) ℕ)
    → ((bytes : List ℕ) → fault_line table bytes ≡ result_err (whole read bytes))
    → (files : Files) (name : List ℕ)
    → result_err (named_in read files name)
    ≡ first_of (unheld_said name (get files name) ∷ faulty_said table name (get files name) ∷ [])
unfolding named_in
named_said table read faults files name =
    said_first (begun_in name (get files name)) (λ file. value_in name (read file))
    (faulty_said table name (get files name))
    (file_said table read faults name (get files name))

-- ---- what holds of all that is said

module _ (P : SaidValue → Type 0) (missing : (name : List ℕ) → P (missing_said name)) (long : (name : List ℕ) → P (too_long_said name))
    (malformed : (name : List ℕ) (line : ℕ) → P (malformed_said name line)) where
  pub named_says : {X : Type 0} (read : Rest → Result (X × Rest) ℕ) (files : Files) (name : List ℕ)
      → IfErr (named_in read files name) P
  unfolding named_in
  named_says read files name =
      then_says P (begun_in name (get files name)) _
      (begun_says P name (get files name) (missing name) (long name))
      (λ rest. value_says P name (read rest) (malformed name))

-- ---- where it is read line by line

-- what is answered of its lines is of the file, where it was begun
module _ {X : Type 0} (name : List ℕ) (read : Rest → Result (X × Rest) ℕ) (lines : LinesValue) where
  abbrev IsBegun : Files → Type 0
  IsBegun files = begun_in name (get files name) ≡ Ok (rest_of lines files)

  named_by : (held : Option Files) (answer : Result X Unread) → IfSome held IsBegun
      → IfSome held (λ files. Gives said_of_unread (λ x. x) answer
      (value_in name (read (rest_of lines files))))
      → IfSome held (λ files. Gives said_of_unread (λ x. x) answer (named_in read files name))
  unfolding named_in
  named_by None answer begun gives = tt
  named_by (Some files) answer begun gives =
      subst (λ b. Gives said_of_unread (λ x. x) answer (b >>= λ file. value_in name (read file)))
      (sym begun) gives

  pub named_told : (held now : Option Files) (after : LinesValue) (found : Result X ReadErr)
      (answer : Result X Unread) → now ≡ held → IfSome held IsBegun
      → ReadsPart read now lines after found
      → ((rest : Rest) (expected : Result (X × Rest) ℕ) → GivesReading (λ x. x) found rest expected
      → Gives said_of_unread (λ x. x) answer (value_in name expected))
      → IfSome held (λ files. Gives said_of_unread (λ x. x) answer (named_in read files name))
  named_told held now after found answer same begun reads tells =
      named_by held answer begun
      (subst (λ files. IfSome files
      (λ told. Gives said_of_unread (λ x. x) answer
      (value_in name (read (rest_of lines told))))) same
      (part_told name read now lines after found answer reads tells))
