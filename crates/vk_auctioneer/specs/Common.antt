-- The words in which every command of the house is said.
pub use Rattle.vk_io.specs.Faults.{Causes}
pub use Rattle.vk_io.specs.Files.{Files, Modelled}
pub use Rattle.vk_io.specs.Reads.{OnlyReads}
pub use Rattle.vk_lines.specs.Gives.{Gives}
pub use Rattle.vk_keeper.specs.Turns.{GetsOnce}
pub use Rattle.vk_house.specs.Answers.{as_reply, work_of}
pub use Rattle.vk_house.specs.Once.{KeepsAnswers}
pub use Rattle.vk_effect.specs.Counts.{CausesTwo}
pub use Rattle.vk_effect.specs.Effects.{stores}
pub use Rattle.vk_effect.specs.Ends.{Acts}
