use Rattle.std.proofs.Common.{refl, rules}
use Rattle.vk_house.specs.Commands.{Submit}
use Rattle.vk_house.specs.Replies.{Position}
use Rattle.vk_auctioneer.proofs.Asking.{asks_alone}
use Rattle.vk_auctioneer.proofs.submitting.hand_in.Goals as goal

pub returns : goal.returns
returns g c =
    asks_alone g.K.Keeper.get_gives (Submit c.args.id.now c.args.row.seal c.args.row.secret)
    Position c.submit-answer.result c.handed_in-said.result (search rules)
    (c.handed_in-said.ensures.said c.args.id.now c.args.row.seal c.args.row.secret refl)
    (c.handed_in-said.ensures.causes _ _)
