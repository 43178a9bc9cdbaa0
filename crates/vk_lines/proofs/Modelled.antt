-- What a reader of a whole file answers by the texts and the table of its form, for any modelled
-- content.
use Rattle.std.proofs.Common.{◌≡◌, List, ℕ, Option, Some, None, Result, subst}
use Rattle.std.specs.Option.{IfSome}
use Rattle.vk_io.specs.Files.{Files}
use Rattle.vk_lines.specs.declared.errors.ReadErr.{ReadErr}
use Rattle.vk_lines.specs.Lines.{GivesReading, LinesValue, ReadsRight, Rest, rest_of}
use Rattle.vk_lines.specs.Forms.{Table, IsWhole, FindsFaults, Answers, ReadsWhole}
use Rattle.vk_lines.proofs.Faults.{answers_by_texts}

told_answers : {Place X : Type 0} {IsValue : X → Type 0} {text : X → List ℕ}
    (table : Table Place) {read : Rest → Result (X × Rest) ℕ}
    → IsWhole IsValue text read → FindsFaults table table.first read
    → (held : Option Files) (result : Result X ReadErr) (before after : Files → Rest)
    → IfSome held (λ files. GivesReading (λ x. x) result (after files) (read (before files)))
    → IfSome held (λ files. (bytes : List ℕ) → before files ≡ record { taken = 0; left = bytes }
    → Answers IsValue text table (λ (x : X). x) bytes result)
told_answers table form ends None result before after told = tt
told_answers {X = X} table {read} form ends (Some files) result before after told =
    λ bytes start.
    let P : Rest → Type 0 = λ rest. GivesReading (λ (x : X). x) result (after files) (read rest) in
    answers_by_texts table (λ (x : X). x) bytes form ends result (after files) (subst P start told)

-- where the values of a form have one text each, and its faults are those of its table
pub reads_whole : {Place X S : Type 0} {IsValue : X → Type 0} {text : X → List ℕ}
    {table : Table Place} {read : Rest → Result (X × Rest) ℕ} {held : S → Option Files}
    {faults : S → ℕ} {old new : LinesValue} {before after : S} {result : Result X ReadErr}
    → IsWhole IsValue text read → FindsFaults table table.first read
    → ReadsRight read IsValue held faults old new before after result
    → ReadsWhole read IsValue text table held faults old new before after result
reads_whole {table = table} {held = held} {old = old} {new = new} {before = before}
    {result = result} form ends part = record {
      modelled = part.modelled;
      file = part.file;
      shelf = part.shelf;
      right = part.right;
      answers = told_answers table form ends (held before) result (λ files. rest_of old files)
          (λ files. rest_of new files) part.modelled;
    }
