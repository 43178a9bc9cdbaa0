use Rattle.std.proofs.Common.{rules}
use Rattle.vk_plan.proofs.Tables.{row_pushed}
use Rattle.vk_plan.proofs.flat.Flat.push.Goals as goal

pub returns : goal.returns
returns c =
    let added = c.in_ok-push_terms.ensures in
    let pushed = row_pushed c.args.self.now c.push_terms.new.self c.args.row.now
    c.as_slice.result.now c.len.result _ _ c.requires c.as_slice.ensures
    added.wires added.factors added.ends added.constants (search rules) c.in_ok-push.ensures.items
    c.in_ok-push-2.ensures.items in
    record { flat = pushed.0; rows = pushed.1 }
