use Rattle.vk_house.specs.Commands.{Submit}
use Rattle.vk_auctioneer.specs.Effects.{asked, no_file}
use Rattle.vk_auctioneer.specs.Inputs.{row_in}
use Rattle.vk_auctioneer.proofs.Asking.{read_acts}
use Rattle.vk_auctioneer.proofs.submitting.submit.Goals as goal

pub returns-in-Ok-clause-acts : goal.returns-in-Ok-clause-acts
returns-in-Ok-clause-acts g c =
    read_acts (λ kept row. asked no_file kept (Submit c.args.id.now row.seal row.secret))
    (λ files. row_in files c.args.names.seal.now c.args.names.secret.now)
    c.in-Ok.row
    (g.S.Shelf.held c.args.shelf.now) (g.S.Shelf.held c.row.new.shelf) _ _ _
    c.hand_in.result
    c.in-Ok.ensures.shelf.held c.in-Ok.ensures.modelled
    (c.hand_in.ensures.acts (g.S.Shelf.held c.row.new.shelf))
