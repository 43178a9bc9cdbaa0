use Rattle.std.proofs.Common.{Some}
use Rattle.std.proofs.lemmas.Result.{err_from_is_err_and}
use Rattle.vk_words.specs.Commands.{command_seen}
use Rattle.vk_app.proofs.Kept.{printing_left}
use Rattle.vk_app.proofs.command.perform_command.Goals as goal

pub returns-in_err-print-in-None-clause-files : goal.returns-in_err-print-in-None-clause-files
returns-in_err-print-in-None-clause-files g c =
    let p = err_from_is_err_and c.from_residual-in_err-print-in-None.result
    c.from_residual-in_err-print-in-None.ensures.1 in
    rw p.1 (printing_left (Some (command_seen c.args.command)) c.in_ok-said-in-None.said p.0
    (g.S.Shelf.held c.args.shelf.now) (g.S.Shelf.held c.act.new.shelf) c.in-None.ensures
    c.in_ok-said-in-None.ensures.files)
