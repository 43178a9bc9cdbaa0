-- What `report` says holds of the board's file, and status 0 comes exactly with its report.
use Rattle.std.proofs.Common.{◌≡◌, ℕ, List, Option, Result, Ok, Err, refl, ap, arith}
use Rattle.vk_io.specs.Files.{Files}
use Rattle.vk_report.specs.declared.report.Report.{Report}
use Rattle.vk_report.specs.declared.report.ReportErr.{ReportErr}
use Rattle.vk_report.specs.declared.report.ReportErr.TheVariants.{Missing, TooLong, Malformed, Price, Winner, Failed, NoMemory}
use Rattle.vk_report.specs.Reports.{report_on}
use Rattle.vk_report.proofs.Meaning.{is_reported, reported}
use Rattle.vk_report.proofs.Refusals.{unreported_exactly}
use Rattle.vk_effect.specs.Effects.{SaidValue, puts}
use Rattle.vk_audit.specs.Answers.{ReportHolds, TellsReports}
use Rattle.vk_audit.specs.Reports.{reported_said, unreported_said}
use Rattle.vk_audit.specs.Statuses.{PutsReport, ReportsExactly}
use Rattle.vk_audit.specs.Verdicts.{answer_said}
use Rattle.vk_audit.proofs.Telling.{tells}

-- ---- the answer

module _ (files : Files) (board : List ℕ) where
  abbrev answer : Result Report ReportErr
  answer = report_on files board

  abbrev said_of : Result Report ReportErr → SaidValue
  said_of answered = answer_said reported_said (unreported_said board) answered

  answer_shown : (answered : Result Report ReportErr) → answer ≡ answered
      → ReportHolds files board answered
  answer_shown (Ok report) is = reported files board report is
  answer_shown (Err refusal) is = (unreported_exactly files board refusal).0 is

  answer_found : (answered : Result Report ReportErr) → ReportHolds files board answered
      → answer ≡ answered
  answer_found (Ok report) holds = is_reported files board report holds
  answer_found (Err refusal) holds = (unreported_exactly files board refusal).1 holds

pub tells_reports : TellsReports
tells_reports files board taken =
    tells (ReportHolds files board) (λ _. Unit {0}) (said_of files board) (answer files board) taken
    (answer_shown files board (answer files board) refl)
    (λ other settles holds. ap (said_of files board) (answer_found files board other holds))

-- ---- status 0

put_by : (files : Files) (board : List ℕ) (taken : Option (List ℕ))
    (answered : Result Report ReportErr) → ReportHolds files board answered
    → (said_of files board answered).status ≡ 0
    → PutsReport files board taken (puts (said_of files board answered).text taken)
put_by files board taken (Ok report) holds zero_is =
    record { report = report; is = holds; put = refl }
put_by files board taken (Err Missing) holds zero_is = absurd (omega arith)
put_by files board taken (Err TooLong) holds zero_is = absurd (omega arith)
put_by files board taken (Err (Malformed line)) holds zero_is = absurd (omega arith)
put_by files board taken (Err Price) holds zero_is = absurd (omega arith)
put_by files board taken (Err Winner) holds zero_is = absurd (omega arith)
put_by files board taken (Err Failed) holds zero_is = absurd (omega arith)
put_by files board taken (Err NoMemory) holds zero_is = absurd (omega arith)

pub reports_exactly : ReportsExactly
reports_exactly files board taken = record {
  only = λ zero_is. put_by files board taken (answer files board)
      (answer_shown files board (answer files board) refl) zero_is;
  always = λ report is _ _. ap (λ answered. (said_of files board answered).status)
      (answer_found files board (Ok report) is);
}
