use Rattle.std.proofs.lemmas.Result.{err_from_is_err_and}
use Rattle.vk_words.specs.Orders.{house_seen}
use Rattle.vk_ceremony.proofs.Leaving.{printing_left}
use Rattle.vk_ceremony.proofs.holding.command.Goals as goal

pub returns-in_err-print-clause-files : goal.returns-in_err-print-clause-files
returns-in_err-print-clause-files g c =
    let p = err_from_is_err_and c.from_residual-in_err-print.result
    c.from_residual-in_err-print.ensures.1 in
    rw p.1 (printing_left (house_seen c.args.order.now) c.in_ok-said.said p.0
    (g.S.Shelf.held c.args.shelf.now) (g.S.Shelf.held c.house_command.new.shelf)
    c.in_ok-said.ensures.files)
