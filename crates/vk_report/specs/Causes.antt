-- A refusal of a reader, handed on as the refusal of a report.
use Rattle.vk_lines.specs.declared.errors.StartErr.{StartErr}
use Rattle.vk_lines.specs.declared.errors.StartErr.TheVariants as start
use Rattle.vk_lines.specs.declared.errors.ReadErr.TheVariants as read
use Rattle.vk_board.specs.declared.front.FrontErr.{FrontErr}
use Rattle.vk_board.specs.declared.front.FrontErr.TheVariants as unread
use Rattle.vk_report.specs.declared.report.ReportErr.{ReportErr}
use Rattle.vk_report.specs.declared.report.ReportErr.TheVariants.{Missing, TooLong, Malformed, Price, Winner, Failed, NoMemory}

abbrev pub of_start : StartErr → ReportErr
of_start start.Missing = Missing
of_start start.TooLong = TooLong
of_start start.Failed = Failed
of_start start.NoMemory = NoMemory

abbrev pub of_front : FrontErr → ReportErr
of_front (unread.Unread (read.Malformed line)) = Malformed line
of_front (unread.Unread read.Failed) = Failed
of_front (unread.Unread read.NoMemory) = NoMemory
of_front unread.Price = Price
of_front unread.Winner = Winner
