-- No count that stays 0 rose.
use Rattle.std.proofs.Common.{arith, inl, inr}
use Rattle.std.specs.Prelude.{◌⊎◌}
use Rattle.vk_io.specs.Faults.{Rose}

none_rose : Rose 0 0 → ⊥
none_rose rose = omega (arith, rose)

pub never_rose : Rose 0 0 ⊎ Rose 0 0 ⊎ Rose 0 0 → ⊥
never_rose (inl shelf) = none_rose shelf
never_rose (inr (inl keeper)) = none_rose keeper
never_rose (inr (inr out)) = none_rose out
