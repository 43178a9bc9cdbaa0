-- What the program promises: all that `run` does, of the house itself, and what comes behind.
use Rattle.std.specs.Prelude.{◌≡◌, ◌≢◌, ◌⊎◌, ℕ, List, Option, None, Some, IfSome, Result, Err, String}
use Rattle.vk_io.specs.Faults.{Causes, Rose}
use Rattle.vk_io.specs.Files.{Files, Modelled}
use Rattle.vk_io.specs.declared.errors.OutsideErr.{OutsideErr}
use Rattle.vk_io.specs.declared.errors.OutsideErr.TheVariants.{Failed}
use Rattle.vk_keeper.specs.Ledgers.{Ledger}
use Rattle.vk_house.specs.Once.{KeepsAnswers}
use Rattle.vk_words.specs.declared.claim.Kind.TheVariants.{Matching}
use Rattle.vk_words.specs.Coins.{CoinWords}
use Rattle.vk_words.specs.Commands.{ClaimSample, Coin, Seal, command_words}
use Rattle.vk_words.specs.Orders.{SealWords}
use Rattle.vk_effect.specs.Effects.{Outside, outside, stores}
use Rattle.vk_coins.specs.Meaning.{MakesChallenge}
use Rattle.vk_app.specs.Commands.{LeavesKeeper, RunIsDone, RunIsStopped}
use Rattle.vk_app.specs.Promises.{Audits, ClaimExtractIsComplete, ClaimExtractIsSound, ClaimHeadline, Claims, ExtractIsComplete, ExtractIsSound, Headline, HoldsCeremony, KeepsHouse, OverFiles, RunLeaves, RunStops, SamplesMatching, TellsUsage}
use Rattle.vk_app.specs.Sealing.{Seals}
use Rattle.vk_program.specs.Refusals.{stopped_status}
use Rattle.vk_program.specs.Statuses.{status_behind}
use Rattle.vk_program.specs.Words.{AreWordsBehind}

-- the files, the auctions of the house and the text, as far as they are modelled, and how many
-- faults were met with each
pub record Met : Type 0 where
  pub files : Option Files
  pub ledger : Option Ledger
  pub taken : Option (List ℕ)
  pub file_faults : ℕ
  pub house_faults : ℕ
  pub text_faults : ℕ

abbrev pub met : Option Files → ℕ → Option Ledger → ℕ → Option (List ℕ) → ℕ → Met
met files file_faults ledger house_faults taken text_faults = record {
  files = files;
  ledger = ledger;
  taken = taken;
  file_faults = file_faults;
  house_faults = house_faults;
  text_faults = text_faults;
}

-- what of it a command works on
abbrev pub outside_of : Met → Outside
outside_of all = outside (stores all.files all.ledger) all.taken

-- all that `run` promises of the words, the status, and what was met before and after
pub record RunKeeps (words : List (List ℕ)) (status : ℕ) (old new : Met) : Type 0 where
  pub done : RunIsDone words status (outside_of old) (outside_of new)
  pub stopped : RunIsStopped words status (outside_of old) (outside_of new)
  pub sound : OverFiles ExtractIsSound old.files words status old.taken new.taken
  pub complete : OverFiles ExtractIsComplete old.files words status old.taken new.taken
  pub headline : OverFiles Headline old.files words status old.taken new.taken
  pub audits : OverFiles Audits old.files words status old.taken new.taken
  pub claim_sound : OverFiles ClaimExtractIsSound old.files words status old.taken new.taken
  pub claim_complete : OverFiles ClaimExtractIsComplete old.files words status old.taken new.taken
  pub claim_headline : OverFiles ClaimHeadline old.files words status old.taken new.taken
  pub claims : OverFiles Claims old.files words status old.taken new.taken
  pub matching : (number : ℕ) → command_words words ≡ Some (ClaimSample Matching number)
      → SamplesMatching number status (outside_of old) (outside_of new)
  pub coins : (order : CoinWords) → command_words words ≡ Some (Coin order) → status ≢ 6
      → status ≢ 9 → MakesChallenge order old.files new.files status old.taken new.taken
  pub seals : (order : SealWords) → command_words words ≡ Some (Seal order) → status ≢ 6
      → status ≢ 9 → Seals order old.files new.files status old.taken new.taken
  pub house : IfSome old.files (λ files. IfSome old.ledger
      (λ ledger. KeepsHouse files ledger words status new.files new.ledger old.taken new.taken))
  pub ceremony : IfSome old.files (λ files. IfSome old.ledger
      (λ ledger. HoldsCeremony files ledger words status new.files new.ledger old.taken new.taken))
  pub leaves : status ≢ 6 → status ≢ 9 → RunLeaves words status old.files new.files
  pub parts : (status ≡ 6) ⊎ (status ≡ 9) → RunStops words old.files new.files
  pub usage : TellsUsage words status old.taken new.taken
  pub once : Modelled KeepsAnswers old.ledger new.ledger
  pub keeper : LeavesKeeper (λ all. all.ledger) (λ all. all.house_faults) (command_words words) old
      new
  pub fault : status ≡ 6 → Rose old.file_faults new.file_faults
      ⊎ Rose old.house_faults new.house_faults ⊎ Rose old.text_faults new.text_faults
  pub no_fault : status ≢ 6 → (new.file_faults ≡ old.file_faults)
      × (new.house_faults ≡ old.house_faults) × (new.text_faults ≡ old.text_faults)

-- `run` kept its promises, and the last sync came behind it. Of that the count tells; where it is
-- refused, and the run was not stopped already, the status is that of the refusal
pub record SettledKeeps (words : List (List ℕ)) (status : ℕ) (old new : Met) : Type 0 where
  pub ran : ℕ
  pub faults : ℕ
  pub settled : Result Unit OutsideErr
  pub run : RunKeeps words ran old (record new { file_faults = faults })
  pub causes : Causes Failed settled faults new.file_faults
  pub status_is : status ≡ status_behind settled ran

-- the house was refused before anything else was done: nothing changed but the count of its faults,
-- and the status is that of the refusal
pub record IsRefused (status : ℕ) (old new : Met) : Type 0 where
  pub refusal : OutsideErr
  pub same : new ≡ record old { house_faults = new.house_faults }
  pub causes : Causes {T = Unit} Failed (Err refusal) old.house_faults new.house_faults
  pub status_is : status ≡ stopped_status refusal

-- the house was opened and the words were done, or it was refused; and then it was closed. Of that
-- the count tells; where it is refused, and the words were not stopped already, the status is that
-- of the refusal
pub record ProgramKeeps (words : List (List ℕ)) (status : ℕ) (old new : Met) : Type 0 where
  pub before : ℕ
  pub faults : ℕ
  pub closed : Result Unit OutsideErr
  pub asked : SettledKeeps words before old (record new { house_faults = faults })
      ⊎ IsRefused before old (record new { house_faults = faults })
  pub causes : Causes Failed closed faults new.house_faults
  pub status_is : status ≡ status_behind closed before

-- over the real files and the real output, which aren't modelled, with no fault met before: of all
-- words that were handed in but the first, the program kept its promises; or it ended with 9, as
-- where memory is wanting before it has them
abbrev pub EndsSo : {S E Z : Type 0} → (steps : S → Option (String Z) → S → Type 0) → Result S E
    → Option Ledger → ℕ → ℕ → Type 0
EndsSo steps args ledger house_faults status =
    ((words : List (List ℕ)) × AreWordsBehind steps args words
    × (after : Met) × ProgramKeeps words status (met None 0 ledger house_faults None 0) after)
    ⊎ (status ≡ 9)
