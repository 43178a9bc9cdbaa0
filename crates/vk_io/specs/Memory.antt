-- A shelf and a sink in memory.
use Rattle.std.specs.Prelude.{ℕ, List, refl}
use Rattle.std.specs.Coded.{Coded, code_by, coded×, coded_ℕ, coded_list}
use Rattle.std.specs.FinMap as finite
use Rattle.vk_io.specs.Faults.{Calls}
use Rattle.vk_io.specs.Files.{Files}

-- a shelf in memory: its files, its calls, and how many of these wanted memory
pub record MemoryFiles : Type 0 where
  pub files : Files
  pub calls : Calls
  pub wants : ℕ

-- a sink in memory: the bytes that it took, its calls, and how many of these wanted memory
pub record MemoryBytes : Type 0 where
  pub taken : List ℕ
  pub calls : Calls
  pub wants : ℕ

abbrev pub calls_code : Coded Calls
calls_code =
    code_by (ℕ × (List ℕ × ℕ)) (coded× coded_ℕ (coded× (coded_list coded_ℕ) coded_ℕ))
    (λ c. (c.made, (c.failing, c.faults)))
    (λ p. record { made = p.0; failing = p.1.0; faults = p.1.1 }) (λ _. refl)

abbrev pub files_code : Coded MemoryFiles
files_code =
    code_by (Files × (Calls × ℕ))
    (coded× (finite.code (coded_list coded_ℕ) (coded_list coded_ℕ)) (coded× calls_code coded_ℕ))
    (λ m. (m.files, (m.calls, m.wants))) (λ p. record { files = p.0; calls = p.1.0; wants = p.1.1 })
    (λ _. refl)
