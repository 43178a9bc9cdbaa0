-- What an auditor's command says.
use Rattle.std.specs.Prelude.{◌≡◌, ℕ, Option, IfSome, Result, IfOk, IsErrOf}
use Rattle.vk_io.specs.declared.errors.OutsideErr.{OutsideErr}
use Rattle.vk_io.specs.declared.errors.OutsideErr.TheVariants.{Failed, NoMemory}
use Rattle.vk_io.specs.Files.{Files}
use Rattle.vk_io.specs.Reads.{OnlyReads}
use Rattle.vk_judge.specs.Wanting.{MemoryWasWanting}
use Rattle.vk_words.specs.Audits.{AuditWords, Verify, Extract, Confront, Report, audit_seen}
use Rattle.vk_words.specs.declared.audits.AuditOrder.{AuditOrder}
use Rattle.vk_effect.specs.Effects.{SaidValue}
use Rattle.vk_audit.specs.Confrontations.{confront_said}
use Rattle.vk_audit.specs.Extractions.{extract_said}
use Rattle.vk_audit.specs.Reports.{report_said}
use Rattle.vk_audit.specs.Verdicts.{verify_said}

-- what is said of the named files
abbrev pub audit_said : Files → AuditWords → SaidValue
audit_said files (Verify names) = verify_said files names
audit_said files (Extract names) = extract_said files names
audit_said files (Confront names) = confront_said files names
audit_said files (Report board) = report_said files board

-- what is said of the files that an order names
abbrev pub audit_of : AuditOrder → Files → SaidValue
audit_of order files = audit_said files (audit_seen order)

-- where it is told what files are held, whatever is answered is what is said of them
abbrev pub Says : Option Files → Result SaidValue OutsideErr → (Files → SaidValue) → Type 0
Says held answer said_of = IfSome held (λ files. IfOk answer (λ said. said ≡ said_of files))

-- a call over a shelf that only reads, and says this of the files: it answers want of memory only
-- where memory was wanting
pub record SaysOf {S : Type 0} (held : S → Option Files) (count : S → ℕ)
    (said_of : Files → SaidValue) (result : Result SaidValue OutsideErr) (old new : S) : Type 0 where
  pub said : Says (held old) result said_of
  pub wanting : IsErrOf result NoMemory → MemoryWasWanting
  pub shelf : OnlyReads held count Failed result old new
