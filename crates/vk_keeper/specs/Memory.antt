-- A keeper in memory.
use Rattle.std.specs.Prelude.{refl}
use Rattle.std.specs.Coded.{Coded, code_by, coded×}
use Rattle.std.specs.FinMap as finite
use Rattle.vk_io.specs.Faults.{Calls}
use Rattle.vk_io.specs.Memory.{calls_code}
use Rattle.vk_keeper.specs.Codes.{auction_code, bytes_code, numbers_code}
use Rattle.vk_keeper.specs.Ledgers.{Ledger}
use Rattle.vk_keeper.specs.Turns.{Turns}

-- its auctions, its calls and their order
pub record MemoryLedger : Type 0 where
  pub ledger : Ledger
  pub calls : Calls
  pub turns : Turns

abbrev pub turns_code : Coded Turns
turns_code = numbers_code (λ t. (t.calls, t.last_get)) (λ p. record { calls = p.0; last_get = p.1 })
    (λ _. refl)

abbrev pub ledger_code : Coded MemoryLedger
ledger_code =
    code_by (Ledger × (Calls × Turns))
    (coded× (finite.code bytes_code auction_code) (coded× calls_code turns_code))
    (λ m. (m.ledger, (m.calls, m.turns)))
    (λ p. record { ledger = p.0; calls = p.1.0; turns = p.1.1 }) (λ _. refl)
