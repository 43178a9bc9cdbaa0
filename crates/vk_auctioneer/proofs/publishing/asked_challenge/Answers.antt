use Rattle.vk_reply.specs.Reading.{challenge_at}
use Rattle.vk_effect.proofs.NamedValues.{named_told}
use Rattle.vk_auctioneer.proofs.publishing.asked_challenge.Goals as goal

pub returns-clause-modelled : goal.returns-clause-modelled
returns-clause-modelled g c =
    named_told c.args.name.now challenge_at c.in_ok-lines.lines (g.S.Shelf.held c.args.shelf.now)
    (g.S.Shelf.held c.begin_named.new.shelf) c.read_challenge-challenge.new.lines
    c.read_challenge-challenge.result c.named_value-challenge.result
    c.in_ok-lines.ensures.shelf.held c.in_ok-lines.ensures.modelled
    c.read_challenge-challenge.ensures.reads.modelled c.named_value-challenge.ensures.modelled
