-- Words of 64 bits that come one after another.
use Rattle.std.specs.Prelude.{ℕ, ◌+◌}

-- the words from a distance on
abbrev pub later : ℕ → (ℕ → ℕ) → ℕ → ℕ
later distance ahead k = ahead (distance + k)
