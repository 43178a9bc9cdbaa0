use Rattle.std.proofs.Common.{◌∙◌, ap}
use Rattle.vk_lines.proofs.Feeds.{looked_told}
use Rattle.vk_lines.proofs.lines.Lines.look_ahead.Goals as goal

pub returns-clause-modelled : goal.returns-clause-modelled
returns-clause-modelled g c =
    let is = c.self.view_is in
    looked_told (g.S.Shelf.held c.args.shelf.now) c.args.self.now _ _ _ _ _ c.in_ok-read_on.field-0
    (c.deref.ensures ∙ ap (λ v. v.name) is) (ap (λ v. v.ahead) is) c.unread-at.ensures
    c.bytes_left-left.ensures c.in_ok-read_on.ensures.enough
    (record { name = ap (λ v. v.name) is; size = ap (λ v. v.size) is }) (ap (λ v. v.at) is)
    (ap (λ v. v.taken) is)
    (c.in_ok-read_on.ensures.text ∙ ap (λ v. v.text) is) c.in_ok-read_on.ensures.modelled
