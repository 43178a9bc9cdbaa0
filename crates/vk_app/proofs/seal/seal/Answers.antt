use Rattle.std.proofs.Common.{◌∙◌, Err, Ok, Some, ap, refl}
use Rattle.std.proofs.lemmas.Result.{err_from_is_err_and}
use Rattle.vk_words.specs.Orders.{seal_seen}
use Rattle.vk_effect.proofs.Acting.{deed_acts}
use Rattle.vk_app.specs.Sealing.{made_deed, seal_made, seal_on}
use Rattle.vk_app.proofs.seal.seal.Goals as goal

pub returns-in_err-said : goal.returns-in_err-said
unfolding seal_on
returns-in_err-said g c =
    let p = err_from_is_err_and c.from_residual-in_err-said.result
    c.from_residual-in_err-said.ensures.1 in
    let order = seal_seen c.args.order.now in
    let held = g.S.Shelf.held c.args.shelf.now in
    rw (p.1 ∙ ap Err p.2) (record {
      acts = λ ledger. deed_acts (Some (made_deed order (seal_made order))) c.in_ok-deed.deed held
          held (g.S.Shelf.held c.carry_out.new.shelf) ledger (Err c.in_err-said.field-0.0) refl c.in_ok-deed.ensures
          (c.in_err-said.ensures.acts ledger);
      causes = c.in_err-said.ensures.causes;
    })

pub returns : goal.returns
unfolding seal_on
returns g c =
    let order = seal_seen c.args.order.now in
    let held = g.S.Shelf.held c.args.shelf.now in
    record {
      acts = λ ledger. deed_acts (Some (made_deed order (seal_made order))) c.in_ok-deed.deed held
          held (g.S.Shelf.held c.carry_out.new.shelf) ledger (Ok c.in_ok-said.said) refl
          c.in_ok-deed.ensures (c.in_ok-said.ensures.acts ledger);
      causes = c.in_ok-said.ensures.causes;
    }
