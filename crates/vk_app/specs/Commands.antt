-- What a command does, where nothing outside fails and memory is given.
use Rattle.std.specs.Prelude.{◌≡◌, ◌≢◌, ◌⊎◌, ℕ, List, Option, Some, None, IfSome, option_map, Result, Ok, Err}
use Rattle.vk_io.specs.Faults.{Causes}
use Rattle.vk_io.specs.Files.{Files}
use Rattle.vk_io.specs.declared.errors.OutsideErr.{OutsideErr}
use Rattle.vk_io.specs.declared.errors.OutsideErr.TheVariants.{Failed}
use Rattle.vk_keeper.specs.Ledgers.{Ledger}
use Rattle.vk_words.specs.Commands.{AsksNoKeeper, CommandWords, Seal, House, Audit, Sample, Ceremony, Claim, ClaimSample, Coin, command_words}
use Rattle.vk_words.specs.Audits.{AuditWords}
use Rattle.vk_words.specs.Claims.{ClaimWords}
use Rattle.vk_words.specs.Usage.{usage_text}
use Rattle.vk_effect.specs.Effects.{Effect, Outside, SaidValue, Stores, says, stores}
use Rattle.vk_effect.specs.Ends.{Acts, Ends}
use Rattle.vk_audit.specs.Audits.{audit_said}
use Rattle.vk_claims.specs.Orders.{claim_said}
use Rattle.vk_coins.specs.Deeds.{coin_on}
use Rattle.vk_auctioneer.specs.Effects.{house_effect}
use Rattle.vk_ceremony.specs.Ceremonies.{EndsAll, ceremony_on}
use Rattle.vk_ceremony.specs.Ceremonies as ceremonies
use Rattle.vk_sample.specs.Samples.{sample_on}
use Rattle.vk_claims.specs.ClaimSamples.{ActsFreely, EndsFreely, claim_sample_on}
use Rattle.vk_app.specs.Sealing.{seal_on}

-- ---- words that are no command

abbrev pub usage_said : SaidValue
usage_said = record { status = 2; text = usage_text }

-- ---- by the words

-- an auditor's command has its effect over files that are modelled
abbrev pub audit_on : Option Files → Option Ledger → AuditWords → Option Effect
audit_on files ledger order = option_map (λ modelled. says ledger (audit_said modelled order)) files

-- and so has a command on claims
abbrev pub claim_on : Option Files → Option Ledger → ClaimWords → Option Effect
claim_on files ledger order = option_map (λ modelled. says ledger (claim_said modelled order)) files

-- what reads nothing has its effect over any files, and what asks the house over a ledger that is
-- modelled. A ceremony is no single command, and `claim-sample matching` has no single effect
abbrev pub command_effect : Option Files → Option Ledger → Option CommandWords → Option Effect
command_effect files ledger None = Some (says ledger usage_said)
command_effect files ledger (Some (Seal order)) = seal_on ledger order
command_effect files ledger (Some (Audit order)) = audit_on files ledger order
command_effect files ledger (Some (House order)) = house_effect files ledger order
command_effect files ledger (Some (Sample number)) = sample_on files ledger number
command_effect files ledger (Some (Claim order)) = claim_on files ledger order
command_effect files ledger (Some (ClaimSample kind number)) =
    claim_sample_on files ledger kind number
command_effect files ledger (Some (Coin order)) = coin_on files ledger order
command_effect files ledger (Some (Ceremony script)) = None

-- ---- what is free

-- what a command did that has no single effect: `claim-sample matching` did one of its effects
abbrev pub CommandActsFreely : Option CommandWords → Result SaidValue OutsideErr → Stores → Stores
    → Type 0
CommandActsFreely (Some (ClaimSample kind number)) answer old new =
    ActsFreely kind number answer old new
CommandActsFreely command answer old new = Unit {0}

-- the same of the whole command, with its printing
abbrev pub CommandEndsFreely : Option CommandWords → Result ℕ OutsideErr → Outside → Outside
    → Type 0
CommandEndsFreely (Some (ClaimSample kind number)) result old new =
    EndsFreely kind number result old new
CommandEndsFreely command result old new = Unit {0}

-- ---- a whole command line

-- one command, or the commands of a script one after another
pub data Work : Type 0 where
  Command : Effect → Work
  Script : ceremonies.Ceremony → Work

-- the name of the script of a ceremony
abbrev pub script_in : Option CommandWords → Option (List ℕ)
script_in (Some (Ceremony script)) = Some script
script_in command = None

abbrev pub work_by : Option (List ℕ) → Option Files → Option Ledger → Option CommandWords
    → Option Work
work_by (Some script) files ledger command = option_map Script (ceremony_on files ledger script)
work_by None files ledger command = option_map Command (command_effect files ledger command)

abbrev pub work_of : Option Files → Option Ledger → Option CommandWords → Option Work
work_of files ledger command = work_by (script_in command) files ledger command

-- what the words do over these files and this ledger, where it is known
abbrev pub work_on : Option Files → Option Ledger → List (List ℕ) → Option Work
work_on files ledger words = work_of files ledger (command_words words)

-- how it ends
abbrev pub EndsWork : Result ℕ OutsideErr → Work → Outside → Outside → Type 0
EndsWork result (Command effect) old new = Ends result effect old new
EndsWork result (Script whole) old new = EndsAll result whole old new

-- it was done, with this status
abbrev pub DoesWork : ℕ → Work → Outside → Outside → Type 0
DoesWork status work old new = EndsWork (Ok status) work old new

-- it was stopped, for whichever cause
abbrev pub StopsWork : Work → Outside → Outside → Type 0
StopsWork work old new = EndsWork (Err Failed) work old new

-- where it is known what the words do: with any status but 6 and 9 that was done
abbrev pub RunIsDone : List (List ℕ) → (status : ℕ) → (old new : Outside) → Type 0
RunIsDone words status old new = IfSome (work_on old.files old.ledger words)
    (λ work. status ≢ 6 → status ≢ 9 → DoesWork status work old new)

-- and with these it was stopped
abbrev pub RunIsStopped : List (List ℕ) → (status : ℕ) → (old new : Outside) → Type 0
RunIsStopped words status old new = IfSome (work_on old.files old.ledger words)
    (λ work. (status ≡ 6) ⊎ (status ≡ 9) → StopsWork work old new)

-- ---- what a call does to a shelf, and to a keeper

-- a command on files alone has its effect, where that is known, over whatever ledger; and it
-- answers a fault of the outside exactly where the shelf's count rose
pub record ActsOnFiles {S : Type 0} (held : S → Option Files) (count : S → ℕ)
    (effect : Option Files → Option Ledger → Option Effect) (result : Result SaidValue OutsideErr)
    (old new : S) : Type 0 where
  pub acts : (ledger : Option Ledger) → IfSome (effect (held old) ledger)
      (λ whole. Acts result whole (stores (held old) ledger) (stores (held new) ledger))
  pub causes : Causes Failed result (count old) (count new)

-- a command that reads replies, and so may find a clash between them
abbrev pub ReadsReplies : CommandWords → Type 0
ReadsReplies (Seal order) = ⊥
ReadsReplies (House order) = ⊥
ReadsReplies (Ceremony script) = ⊥
ReadsReplies (Coin order) = ⊥
ReadsReplies command = Unit {0}

-- a command that asks no keeper leaves it alone
abbrev pub LeavesKeeper : {K : Type 0} → (K → Option Ledger) → (count : K → ℕ)
    → Option CommandWords → (old new : K) → Type 0
LeavesKeeper ledger count command old new = AsksNoKeeper command
    → (ledger new ≡ ledger old) × (count new ≡ count old)
