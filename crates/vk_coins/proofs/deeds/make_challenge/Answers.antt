use Rattle.std.proofs.Common.{Err, Ok}
use Rattle.std.proofs.lemmas.Result.{err_from_is_err_and}
use Rattle.vk_words.specs.Coins.{coin_seen}
use Rattle.vk_effect.proofs.Acting.{deed_acts}
use Rattle.vk_coins.specs.Deeds.{deed_on}
use Rattle.vk_coins.proofs.deeds.make_challenge.Goals as goal

pub returns-in_err-said-clause-acts : goal.returns-in_err-said-clause-acts
returns-in_err-said-clause-acts g c =
    let p = err_from_is_err_and c.from_residual-in_err-said.result
    c.from_residual-in_err-said.ensures.1 in
    let held = g.S.Shelf.held c.args.shelf.now in
    rw p.1
    (λ ledger. deed_acts (deed_on held (coin_seen c.args.order.now)) c.in_ok-deed.deed held
    (g.S.Shelf.held c.deed.new.shelf) (g.S.Shelf.held c.carry_out.new.shelf) ledger (Err p.0)
    c.in_ok-deed.ensures.shelf.held
    c.in_ok-deed.ensures.modelled (c.in_err-said.ensures.acts ledger))

pub returns-clause-acts : goal.returns-clause-acts
returns-clause-acts g c = λ ledger.
    let held = g.S.Shelf.held c.args.shelf.now in
    deed_acts (deed_on held (coin_seen c.args.order.now)) c.in_ok-deed.deed held
    (g.S.Shelf.held c.deed.new.shelf) (g.S.Shelf.held c.carry_out.new.shelf) ledger
    (Ok c.in_ok-said.said) c.in_ok-deed.ensures.shelf.held
    c.in_ok-deed.ensures.modelled (c.in_ok-said.ensures.acts ledger)
