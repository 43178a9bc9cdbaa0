use Rattle.std.proofs.lemmas.Option.{IfSome_then}
use Rattle.vk_judge.specs.Opened.{checked_base, checked_finding}
use Rattle.vk_bids.proofs.Leading.{concluded}
use Rattle.vk_bids.proofs.file_extraction.extract_checked.Goals as goal

pub returns-clause-modelled : goal.returns-clause-modelled
returns-clause-modelled g c =
    let end = c.in_ok-checker.checker in
    IfSome_then (g.S.Shelf.held c.args.shelf.now) c.in_ok-checker.ensures.modelled
    (λ files comes. concluded c.args.checker files (checked_base end) (checked_finding end)
    c.in_ok-checker.gathered c.conclude-found.result c.in_ok-checker.ensures.base comes
    c.conclude-found.ensures.value)
