-- The words in which the reading of files is said.
pub use Rattle.vk_io.specs.Faults.{Causes, MayCause, Rose}
pub use Rattle.vk_io.specs.Files.{Files, Modelled, Takes}
pub use Rattle.vk_io.specs.Reads.{OnlyReads}
pub use Rattle.vk_lines.specs.Forms.{EachAfter, EachNumbered, FaultsAllButTexts, ReadsWhole, fault_line, line, many_at, spaced}
pub use Rattle.vk_lines.specs.Gives.{Gives}
pub use Rattle.vk_lines.specs.Lines.{GivesReading, IsBefore, IsNext, KeepsFile, LinesValue, Reads, ReadsFreely, ReadsRight, Rest, Starts, line_by, rest_of, text_at}
pub use Rattle.vk_lines.specs.Tokens.{hex_text}
