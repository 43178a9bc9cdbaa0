-- A number that was read as a residue.
use Rattle.std.proofs.Common.{◌≡◌, ℕ, ◌-◌, ◌≤◌, Option, Some, None, ap, arith, refl}
use Rattle.std.specs.Prelude.{◌↔◌}
use Rattle.std.specs.Option.{IfSome, IsNone}
use Rattle.vk_residue.specs.Residue.{modulus}

-- a number below the modulus is a residue
pub residue_read : (n : ℕ) (r : Option ℕ) → IsNone r ↔ (modulus ≤ n) → IfSome r (λ x. x ≡ n)
    → n ≤ modulus - 1 → r ≡ Some n
residue_read n (Some x) none some small = ap Some some
residue_read n None none some small = absurd (omega (arith, none.0 refl))
