-- The words in which what is kept of auctions is said.
pub use Rattle.vk_keeper.specs.Auctions.{IsAuction, challenge_of}
pub use Rattle.vk_keeper.specs.First.{FirstLedger, IsFirstAuction, lifted, lifted_ledger}
pub use Rattle.vk_keeper.specs.Joining.{with_last}
pub use Rattle.vk_keeper.specs.Ledgers.{IsKeptUnder, IsLedger, Keeps, Ledger}
pub use Rattle.vk_keeper.specs.Turns.{AfterGet, AfterPut}
