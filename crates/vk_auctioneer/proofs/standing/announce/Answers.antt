use Rattle.std.proofs.Common.{rules}
use Rattle.vk_house.specs.Commands.{Announce}
use Rattle.vk_house.specs.Replies.{Done}
use Rattle.vk_auctioneer.proofs.Asking.{asks_alone}
use Rattle.vk_auctioneer.proofs.standing.announce.Goals as goal

pub returns : goal.returns
returns g c =
    asks_alone g.K.Keeper.get_gives (Announce c.args.id.now c.args.width c.args.lanes) (λ _. Done)
    c.announce-answer.result c.say_announced-said.result (search rules)
    (c.say_announced-said.ensures.said c.args.width c.args.lanes) (c.say_announced-said.ensures.causes _ _)
