use Rattle.std.proofs.Common.{arith, ◌≤◌, ◌^◌}
use Rattle.std.proofs.Math.Pow.{pow_mono}
use Rattle.vk_residue.proofs.residue.Residue.pow2.Goals as goal

-- 2 ^ 60 is below the modulus
pub invariant_of-result : goal.invariant_of-result
invariant_of-result c =
    let below : 2 ^ c.args.i ≤ 2 ^ 60 = pow_mono {i = c.args.i} {j = 60} (omega arith) in
    omega arith
