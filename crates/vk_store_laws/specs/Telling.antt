-- The ledger that a store tells.
use Rattle.std.specs.Prelude.{ℕ, List}
use Rattle.std.specs.FinMap.{get}
use Rattle.sqlite.specs.Tree.{Trees}
use Rattle.vk_commit.specs.Values.{AreBytes}
use Rattle.vk_keeper.specs.Ledgers.{Ledger, IsLedger}
use Rattle.vk_store_laws.specs.Holding.{Holds}

-- under each id the tables hold what the ledger has there
pub record TablesTell (trees : Trees) (ledger : Ledger) : Type 0 where
  pub right : IsLedger ledger
  pub held : (id : List ℕ) → AreBytes 16 id → Holds trees id (get ledger id)
