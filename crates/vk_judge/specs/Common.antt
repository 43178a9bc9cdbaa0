-- The words in which the judging of files, and what reads them, is said.
pub use Rattle.vk_io.specs.Faults.{Causes, Rose}
pub use Rattle.vk_io.specs.Files.{Files, Modelled, Takes}
pub use Rattle.vk_io.specs.Reads.{OnlyReads}
pub use Rattle.vk_io.specs.Writing.{WritesAll}
pub use Rattle.vk_lines.specs.Forms.{FaultsAllButTexts, IsPart, IsWhole, fault_line, line, spaced, whole}
pub use Rattle.vk_lines.specs.Gives.{Gives}
pub use Rattle.vk_lines.specs.Lines.{GivesReading, Reads, ReadsRight, Rest, Starts, line_by, rest_of}
pub use Rattle.vk_judge.specs.Begun.{unread_file}
pub use Rattle.vk_judge.specs.Behind.{Judges, JudgesOn, and_rest}
pub use Rattle.vk_judge.specs.FileForms.{AcceptedGive, FindsByBoth, OnlyAcceptedGive}
pub use Rattle.vk_judge.specs.HeldFiles.{AreOfHeld}
pub use Rattle.vk_judge.specs.Opened.{IsCheckedOver, checked_base, checked_finding, checked_given, coming_of, file_coming}
pub use Rattle.vk_judge.specs.Statement.{IsStatement}
pub use Rattle.vk_judge.specs.Two.{IsTwoLane, of_two}
pub use Rattle.vk_judge.specs.Wanting.{MemoryWasWanting}
