use Rattle.std.proofs.lemmas.Option.{IfSome_then}
use Rattle.vk_bids.proofs.Named.{begun}
use Rattle.vk_bids.proofs.extraction.begin.Goals as goal

pub returns-clause-modelled : goal.returns-clause-modelled
returns-clause-modelled g c =
    let names = c.args.names.now in
    IfSome_then (g.S.Shelf.held c.args.shelf.now) c.begin_board-checker.ensures.begun.modelled
    (λ files gives. begun files names.file.now names.challenge1.now names.reply1.now
    names.challenge2.now names.reply2.now c.begin_board-checker.result gives)
