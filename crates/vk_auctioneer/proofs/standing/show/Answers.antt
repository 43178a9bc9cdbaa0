use Rattle.std.proofs.Common.{rules}
use Rattle.vk_house.specs.Commands.{Show}
use Rattle.vk_house.specs.Replies.{Stands}
use Rattle.vk_auctioneer.proofs.Asking.{asks_alone}
use Rattle.vk_auctioneer.proofs.standing.show.Goals as goal

pub returns : goal.returns
returns g c =
    asks_alone g.K.Keeper.get_gives (Show c.args.id.now) Stands c.show-answer.result
    c.say_standing-said.result (search rules) c.say_standing-said.ensures.said (c.say_standing-said.ensures.causes _ _)
