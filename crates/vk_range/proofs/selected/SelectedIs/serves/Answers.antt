use Rattle.std.proofs.Common.{sym, ◌∙◌, arith}
use Rattle.vk_range.specs.SelectedLaws.{serves_all, serves_not}
use Rattle.vk_range.proofs.selected.SelectedIs.serves.Goals as goal

pub returns-then-not-may_stand : goal.returns-then-not-may_stand
returns-then-not-may_stand c =
    sym (serves_not c.args.self.now c.args.values.now c.args.place c.loop-other.other (omega arith)
    (sym c.may_stand.ensures ∙ c.if-not-may_stand.true))

pub returns : goal.returns
returns c = sym (serves_all c.args.self.now c.args.values.now c.args.place
    (λ k h. c.loop-other.invariant k (omega arith)))
