-- What is said of a board that is reported on.
use Rattle.std.specs.Prelude.{ℕ, List, codes}
use Rattle.vk_io.specs.Files.{Files}
use Rattle.vk_report.specs.declared.report.Report.{Report}
use Rattle.vk_report.specs.declared.report.ReportErr.{ReportErr}
use Rattle.vk_report.specs.declared.report.ReportErr.TheVariants.{Missing, TooLong, Malformed, Price, Winner, Failed, NoMemory}
use Rattle.vk_report.specs.Reports.{report_on, report_text}
use Rattle.vk_effect.specs.Effects.{SaidValue}
use Rattle.vk_effect.specs.NamedFiles.{malformed_said, missing_said, refused_said, too_long_said}
use Rattle.vk_audit.specs.Verdicts.{answer_said}

-- the report
abbrev pub reported_said : Report → SaidValue
reported_said report = record { status = 0; text = report_text report }

-- what is said of the first fault of the board's file. No definition gives the last two
abbrev pub unreported_said : List ℕ → ReportErr → SaidValue
unreported_said board Missing = missing_said board
unreported_said board TooLong = too_long_said board
unreported_said board (Malformed line) = malformed_said board line
unreported_said board Price = refused_said board (codes "price")
unreported_said board Winner = refused_said board (codes "winner")
unreported_said board Failed = missing_said board
unreported_said board NoMemory = missing_said board

-- what `report` says
abbrev pub report_said : Files → List ℕ → SaidValue
report_said files board = answer_said reported_said (unreported_said board) (report_on files board)
