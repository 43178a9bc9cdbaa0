use Rattle.std.proofs.Common.{◌≡◌, sym, subst, rules}
use Rattle.vk_reply.specs.Values.{IsChallenge}
use Rattle.vk_reply.specs.declared.challenge.Challenge.{Challenge}
use Rattle.vk_coin.specs.Coins.{joint_challenge}
use Rattle.vk_coin.proofs.Joined.{joint_is_challenge}
use Rattle.vk_coin.proofs.joining.joint.Goals as goal

pub returns-clause-right : goal.returns-clause-right
returns-clause-right c =
    let same : ◌≡◌ {A = Challenge} (record { bits = c.from_vec.result })
    (joint_challenge c.args.coin.now) = search rules in
    subst IsChallenge (sym same) (joint_is_challenge c.args.coin.now c.requires)
