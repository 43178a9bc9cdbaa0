use Rattle.std.proofs.Common.{Ok, Err}
use Rattle.std.proofs.lemmas.Result.{err_from_is_err_and}
use Rattle.vk_ceremony.proofs.Leading.{unread_ceremony}
use Rattle.vk_ceremony.proofs.Leaving.{stopped_left, unread_left}
use Rattle.vk_ceremony.proofs.holding.ceremony.Goals as goal

pub returns-in_err-status-in-Err-clause-ends : goal.returns-in_err-status-in-Err-clause-ends
returns-in_err-status-in-Err-clause-ends g c =
    let p = err_from_is_err_and c.from_residual-in_err-status-in-Err.result
    c.from_residual-in_err-status-in-Err.ensures.1 in
    rw p.1 (unread_ceremony _ _ _ _ _ _ _ _ (Err p.0) c.in-Err.ensures.shelf.held
    c.in_ok-said-in-Err.ensures c.in-Err.ensures.modelled c.in_err-status-in-Err.ensures.ends)

pub returns-in_ok-status-in-Err-clause-ends : goal.returns-in_ok-status-in-Err-clause-ends
returns-in_ok-status-in-Err-clause-ends g c =
    unread_ceremony _ _ _ _ _ _ _ _ (Ok c.in_ok-status-in-Err.status) c.in-Err.ensures.shelf.held
    c.in_ok-said-in-Err.ensures c.in-Err.ensures.modelled c.in_ok-status-in-Err.ensures.ends

pub returns-in_ok-status-in-Err-clause-files : goal.returns-in_ok-status-in-Err-clause-files
returns-in_ok-status-in-Err-clause-files g c =
    unread_left _ _ _ _ _ _ _ c.in_ok-status-in-Err.status c.in-Err.ensures.shelf.held
    c.in_ok-said-in-Err.ensures c.in-Err.ensures.modelled c.in_ok-status-in-Err.ensures.ends

pub returns-in_err-said-in-Err-clause-files : goal.returns-in_err-said-in-Err-clause-files
returns-in_err-said-in-Err-clause-files g c =
    let p = err_from_is_err_and c.from_residual-in_err-said-in-Err.result
    c.from_residual-in_err-said-in-Err.ensures.1 in
    rw p.1 (stopped_left c.args.script.now p.0 (g.S.Shelf.held c.args.shelf.now)
    (g.S.Shelf.held c.begin_script.new.shelf) c.in-Err.ensures.shelf.held)
