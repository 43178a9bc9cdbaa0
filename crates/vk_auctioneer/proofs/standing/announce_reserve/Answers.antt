use Rattle.std.proofs.Common.{rules}
use Rattle.vk_house.specs.Commands.{AnnounceReserve}
use Rattle.vk_house.specs.Replies.{Done}
use Rattle.vk_auctioneer.proofs.Asking.{asks_alone}
use Rattle.vk_auctioneer.proofs.standing.announce_reserve.Goals as goal

pub returns : goal.returns
returns g c =
    asks_alone g.K.Keeper.get_gives
    (AnnounceReserve c.args.id.now c.args.width c.args.lanes c.args.reserve) (λ _. Done)
    c.announce_reserve-answer.result c.say_announced-said.result (search rules)
    (c.say_announced-said.ensures.reserved c.args.width c.args.lanes c.args.reserve)
    (c.say_announced-said.ensures.causes _ _)
