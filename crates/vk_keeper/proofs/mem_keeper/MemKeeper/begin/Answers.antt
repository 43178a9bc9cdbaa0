use Rattle.std.proofs.Common.{subst}
use Rattle.vk_keeper.specs.Ledgers.{IsLedger}
use Rattle.vk_keeper.specs.Memory.{MemoryLedger}
use Rattle.vk_keeper.proofs.Places.{ledger_of}
use Rattle.vk_keeper.proofs.mem_keeper.MemKeeper.begin.Goals as goal

pub returns-clause-ledger : goal.returns-clause-ledger
returns-clause-ledger c =
    subst (λ (seen : MemoryLedger). IsLedger seen.ledger) c.self.view_is
    (ledger_of c.self.inside.auctions.items c.self.invariant.each)
