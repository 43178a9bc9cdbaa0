use Rattle.vk_effect.specs.Effects.{stores}
use Rattle.vk_sample_parts.specs.Auctions.{dry_of}
use Rattle.vk_claims.proofs.Acting.{dry_so, held_so}
use Rattle.vk_claims.specs.Claims.{proof_in}
use Rattle.vk_claims.proofs.sampling.make_and_hold.Goals as goal

pub returns-in-Ok-clause-so : goal.returns-in-Ok-clause-so
returns-in-Ok-clause-so g c = λ ledger.
    held_so c.args.kind c.args.number c.in_ok-case.case c.in_ok-case.ensures.case
    c.in_ok-published.published c.as_slice-numbers.result.now c.in_ok-published.ensures.may
    c.as_slice-numbers.ensures
    (proof_in c.in_ok-case.case c.in-Ok.made) c.hold-said.result
    (stores (g.S.Shelf.held c.args.shelf.now) ledger)
    (stores (g.S.Shelf.held c.hold-said.new.shelf) ledger) c.in-Ok.ensures.proof
    (c.hold-said.ensures.acts ledger)

pub returns-clause-so : goal.returns-clause-so
returns-clause-so g c = λ ledger.
    dry_so c.args.kind c.args.number c.in_ok-case.case c.in_ok-case.ensures.case
    c.in_ok-published.published c.as_slice-numbers.result.now c.in_ok-published.ensures.may
    c.as_slice-numbers.ensures
    (dry_of c.in-Err.dry) c.in_ok-said-in-Err.said
    (g.S.Shelf.held c.args.shelf.now) ledger c.in-Err.ensures.proof c.in_ok-said-in-Err.ensures.said
    c.in_ok-said-in-Err.ensures.dry
