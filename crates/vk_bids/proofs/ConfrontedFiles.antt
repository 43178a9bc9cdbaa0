-- What a confrontation of named files answers.
use Rattle.std.proofs.Common.{◌≡◌, ℕ, Option, Some, None, Result, Ok, Err, sym, ap, subst, ◌∙◌}
use Rattle.std.specs.Result.{IsErrAnd}
use Rattle.vk_residue.specs.Steps.{◌>>=◌}
use Rattle.vk_lines.specs.Gives.{Refuses, Gives}
use Rattle.vk_lines.specs.Lines.{Rest}
use Rattle.vk_seal.specs.Reading.{secret_at}
use Rattle.vk_seal.specs.declared.secret.Secret.{Secret}
use Rattle.vk_judge.specs.declared.answers.VErr.{VErr}
use Rattle.vk_judge.specs.declared.answers.VErr.TheVariants as verr
use Rattle.vk_judge.specs.Begun.{unread_file}
use Rattle.vk_bids.specs.declared.confrontation.ConfrontErr.{ConfrontErr}
use Rattle.vk_bids.specs.declared.confrontation.ConfrontErr.TheVariants.{Unread}
use Rattle.vk_bids.specs.declared.confrontation.Confrontation.{Confrontation}
use Rattle.vk_bids.specs.Confrontation.{confrontation_of, fault_of, of_extraction, secret_in}
use Rattle.vk_bids.specs.Extraction.{Extraction}

-- what they come to, by what is answered of the replies and of the secret's file
abbrev pub both_come_to : Result Extraction VErr → Result Rest ConfrontErr
    → Result Confrontation ConfrontErr
both_come_to extracted begun =
    of_extraction extracted >>= λ extraction.
    begun >>= λ rest. Ok (confrontation_of extraction (secret_in (secret_at rest)))

module _ (extracted : Result Extraction VErr) (begun : Result Rest ConfrontErr) where
  -- an answer that is refused for this cause
  refused_as : (answer : Result Confrontation ConfrontErr) (refusal : ConfrontErr)
      → IsErrAnd answer (λ r. r ≡ refusal)
      → Refuses (fault_of refusal) (both_come_to extracted begun)
      → Gives {T = Confrontation} fault_of (λ c. c) answer (both_come_to extracted begun)
  refused_as (Ok c) refusal err refuses = absurd err
  refused_as (Err r) refusal err refuses =
      subst (λ r. Refuses (fault_of r) (both_come_to extracted begun)) (sym err) refuses

  refused_by : {T : Type 0} (value : T → Extraction) (refusal : VErr)
      → Gives unread_file value (Err refusal) extracted
      → Refuses (fault_of (Unread refusal)) (both_come_to extracted begun)
  refused_by value (verr.Missing file) is = ap (λ e. both_come_to e begun) is
  refused_by value (verr.TooLong file) is = ap (λ e. both_come_to e begun) is
  refused_by value verr.Failed is = tt
  refused_by value verr.NoMemory is = tt

  -- a file of the extraction is missing or too long
  pub refused_first : {T : Type 0} (value : T → Extraction) (refusal : VErr)
      (answer : Result Confrontation ConfrontErr) → IsErrAnd answer (λ r. r ≡ Unread refusal)
      → Gives unread_file value (Err refusal) extracted
      → Gives {T = Confrontation} fault_of (λ c. c) answer (both_come_to extracted begun)
  refused_first value refusal answer err is =
      refused_as answer (Unread refusal) err (refused_by value refusal is)

  secret_refused : (extraction : Extraction) (fault : Option ConfrontErr)
      → extracted ≡ Ok extraction → Refuses fault begun
      → Refuses fault (both_come_to extracted begun)
  secret_refused extraction (Some fault) given is =
      ap (λ e. both_come_to e begun) given ∙ ap (both_come_to (Ok extraction)) is
  secret_refused extraction None given is = tt

  -- the secret's file is missing or too long
  pub refused_second : {T : Type 0} (value : T → Rest) (extraction : Extraction)
      (refusal : ConfrontErr) (answer : Result Confrontation ConfrontErr)
      → IsErrAnd answer (λ r. r ≡ refusal) → extracted ≡ Ok extraction
      → Gives fault_of value (Err refusal) begun
      → Gives {T = Confrontation} fault_of (λ c. c) answer (both_come_to extracted begun)
  refused_second value extraction refusal answer err given is =
      refused_as answer refusal err (secret_refused extraction (fault_of refusal) given is)

  -- all six are begun
  pub confronted : (extraction : Extraction) (rest : Rest) (read : Result Secret ℕ)
      (confrontation : Confrontation) → extracted ≡ Ok extraction → begun ≡ Ok rest
      → secret_in (secret_at rest) ≡ read → confrontation ≡ confrontation_of extraction read
      → both_come_to extracted begun ≡ Ok confrontation
  confronted extraction rest read confrontation given started reads is =
      ap (λ e. both_come_to e begun) given
      ∙ (ap (both_come_to (Ok extraction)) started
      ∙ (ap (λ read. Ok (confrontation_of extraction read)) reads ∙ ap (λ c. Ok c) (sym is)))
