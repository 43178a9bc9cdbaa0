use Rattle.std.proofs.Common.{ap, ◌∙◌}
use Rattle.vk_coin.specs.Shares.{drawn_share}
use Rattle.vk_dice.specs.Stream.{word_at}
use Rattle.vk_coins.specs.Drawing.{auditor_stream, share_of}
use Rattle.vk_coins.proofs.drawing.draw_part.Goals as goal

pub returns-clause-share : goal.returns-clause-share
unfolding share_of
returns-clause-share c =
    let order = c.args.order.now in
    c.in_ok-share.ensures.drawn
    ∙ (ap (drawn_share order.auction order.auditor order.lanes) c.of-words.ensures
    ∙ ap (λ auditor. drawn_share order.auction order.auditor order.lanes
    (word_at order.seed order.auction (auditor_stream auditor))) c.from-stream.ensures)
