use Rattle.vk_effect.proofs.NamedValues.{named_told}
use Rattle.vk_coin.specs.Reading.{coin_at}
use Rattle.vk_coins.proofs.joining.named_coin.Goals as goal

pub returns-clause-modelled : goal.returns-clause-modelled
returns-clause-modelled g c =
    named_told c.args.name.now coin_at c.in_ok-lines.lines (g.S.Shelf.held c.args.shelf.now)
    (g.S.Shelf.held c.begin_named.new.shelf) c.read_coin-coin.new.lines c.read_coin-coin.result
    c.named_value-coin.result
    c.in_ok-lines.ensures.shelf.held c.in_ok-lines.ensures.modelled
    c.read_coin-coin.ensures.reads.modelled c.named_value-coin.ensures.modelled
