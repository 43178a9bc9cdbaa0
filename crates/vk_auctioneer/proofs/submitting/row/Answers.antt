use Rattle.std.proofs.Common.{◌∙◌, Err, ap}
use Rattle.std.proofs.lemmas.Result.{err_from_is_err_and}
use Rattle.vk_auctioneer.proofs.Naming.{seal_refused, secret_refused}
use Rattle.vk_auctioneer.proofs.submitting.row.Goals as goal

pub returns-in_err-seal-clause-modelled : goal.returns-in_err-seal-clause-modelled
returns-in_err-seal-clause-modelled g c =
    let p = err_from_is_err_and c.from_residual-in_err-seal.result
    c.from_residual-in_err-seal.ensures.1 in
    rw (p.1 ∙ ap Err p.2) (seal_refused _ _ _ _ _ _ _ _ _ _ c.in_ok-seal_lines.ensures.shelf.held
    c.in_ok-secret_lines.ensures.shelf.held c.in_ok-seal_lines.ensures.modelled
    c.in_ok-secret_lines.ensures.modelled c.read_seal-read.ensures.reads.modelled
    c.in_err-seal.ensures.modelled)

pub returns-in_err-secret-clause-modelled : goal.returns-in_err-secret-clause-modelled
returns-in_err-secret-clause-modelled g c =
    let p = err_from_is_err_and c.from_residual-in_err-secret.result
    c.from_residual-in_err-secret.ensures.1 in
    rw (p.1 ∙ ap Err p.2) (secret_refused _ _ _ _ _ _ _ _ _ _ _ _ _ _
    c.in_ok-seal_lines.ensures.shelf.held c.in_ok-secret_lines.ensures.shelf.held
    c.read_seal-read.ensures.reads.shelf.held c.in_ok-seal_lines.ensures.modelled
    c.in_ok-secret_lines.ensures.modelled c.read_seal-read.ensures.reads.modelled
    c.in_ok-seal.ensures.modelled c.read_secret-read.ensures.reads.modelled
    c.in_err-secret.ensures.modelled)
