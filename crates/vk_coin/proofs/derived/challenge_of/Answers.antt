use Rattle.std.proofs.Common.{◌≡◌, length, arith}
use Rattle.vk_coin.proofs.Deriving.{lane_bits}
use Rattle.vk_coin.proofs.derived.challenge_of.Goals as goal

pub returns-clause-right : goal.returns-clause-right
returns-clause-right c =
    let count : length c.in_ok-bits.bits ≡ c.args.lanes =
    lane_bits c.args.lanes c.args.digest.now c.in_ok-bits.bits c.requires c.told-digest
    c.in_ok-bits.ensures in
    record {
      some_bit = omega (arith, count, c.requires.least);
      few_bits = omega (arith, count, c.requires.most);
    }
