-- The confrontation of named files is that of their bytes.
use Rattle.std.proofs.Common.{◌≡◌, ℕ, ◌^◌, nat_lt, Bool, if◌then◌else◌, List, length, Option, None, Some, Result, Ok, Err, refl, sym, ap, ◌∙◌}
use Rattle.std.specs.FinMap.{get}
use Rattle.vk_residue.specs.Steps.{◌>>=◌}
use Rattle.vk_io.specs.Files.{Files}
use Rattle.vk_lines.specs.Lines.{Rest}
use Rattle.vk_seal.specs.Reading.{secret_at}
use Rattle.vk_judge.specs.declared.answers.VErr.{VErr}
use Rattle.vk_judge.specs.Begun.{from_start}
use Rattle.vk_judge.proofs.Steps.{bind_ok, value_same}
use Rattle.vk_bids.specs.declared.confrontation.ConfrontErr.{ConfrontErr}
use Rattle.vk_bids.specs.declared.confrontation.ConfrontErr.TheVariants.{TooLongSecret}
use Rattle.vk_bids.specs.declared.confrontation.Confrontation.{Confrontation}
use Rattle.vk_bids.specs.Binding.{ConfrontationOf, FilesAreConfronted, confrontation_of_held}
use Rattle.vk_bids.specs.Confrontation.{confrontation_of, confrontation_on, of_extraction, secret_begun, secret_in}
use Rattle.vk_bids.specs.Extraction.{Extraction, extraction_on}
use Rattle.vk_judge.specs.HeldFiles.{HeldFiles, IsHeldFile}
use Rattle.vk_bids.specs.Headline.{extraction_of_held}
use Rattle.vk_judge.proofs.HeldFiles.{BegunThen, begun_test, not_long}
use Rattle.vk_bids.proofs.ConfrontedFiles.{confronted}
use Rattle.vk_bids.proofs.Named.{files_are_extracted}

-- ---- the secret's file

secret_held : {X : Type 0} (files : Files) (name : List ℕ) (next : Rest → Result X ConfrontErr)
    (x : X) (found : Option (List ℕ)) → get files name ≡ found
    → (secret_begun found >>= next) ≡ Ok x → BegunThen files name next x
secret_held files name next x None held ok = cc
secret_held files name next x (Some bytes) held ok =
    begun_test files name bytes TooLongSecret next x (nat_lt (2 ^ 30) (length bytes)) held refl ok

secret_found : (files : Files) (name bytes : List ℕ) → IsHeldFile files name bytes
    → secret_begun (get files name) ≡ Ok (from_start bytes)
secret_found files name bytes is =
    ap secret_begun is.is ∙ ap
    (λ (long : Bool). if long then Err TooLongSecret else Ok (from_start bytes))
    (not_long bytes is.short)

extracted : (answer : Result Extraction VErr) (extraction : Extraction)
    → of_extraction answer ≡ Ok extraction → answer ≡ Ok extraction
extracted (Ok found) extraction is = ap (λ e. Ok e) (value_same found extraction is)
extracted (Err refused) extraction is = cc

-- ---- all six

module _ (files : Files) (board challenge reply other second secret : List ℕ) where
  held_confronted : (held : HeldFiles files board challenge reply other second) (file : List ℕ)
      → IsHeldFile files secret file
      → confrontation_on files board challenge reply other second secret
      ≡ Ok (confrontation_of_held held file)
  unfolding confrontation_on
  held_confronted held file is =
      let extraction = extraction_of_held held in
      confronted (extraction_on files board challenge reply other second)
      (secret_begun (get files secret)) extraction (from_start file)
      (secret_in (secret_at (from_start file))) (confrontation_of_held held file)
      ((files_are_extracted files board challenge reply other second extraction).1
      (record { held = held; is = refl }))
      (secret_found files secret file is) refl refl

  abbrev secret_then : Extraction → Rest → Result Confrontation ConfrontErr
  secret_then extraction rest = Ok (confrontation_of extraction (secret_in (secret_at rest)))

  named_confronts : (confrontation : Confrontation)
      → confrontation_on files board challenge reply other second secret ≡ Ok confrontation
      → ConfrontationOf files board challenge reply other second secret confrontation
  unfolding confrontation_on
  named_confronts confrontation ok =
      let answer = extraction_on files board challenge reply other second in
      let first = bind_ok (of_extraction answer)
      (λ extraction. secret_begun (get files secret) >>= secret_then extraction) confrontation
      ok in
      let held = ((files_are_extracted files board challenge reply other second first.0).0
      (extracted answer first.0 first.1)).held in
      let begun = secret_held files secret (secret_then first.0) confrontation (get files secret)
      refl first.2 in
      record {
        held = held;
        secret_bytes = begun.bytes;
        secret_is = begun.is;
        is = value_same confrontation (confrontation_of_held held begun.bytes)
            (sym ok ∙ held_confronted held begun.bytes begun.is);
      }

pub files_are_confronted : FilesAreConfronted
files_are_confronted files board challenge reply other second secret confrontation = (
  named_confronts files board challenge reply other second secret confrontation,
  λ comes. held_confronted files board challenge reply other second secret comes.held
      comes.secret_bytes comes.secret_is ∙ ap (λ c. Ok c) (sym comes.is),
)
