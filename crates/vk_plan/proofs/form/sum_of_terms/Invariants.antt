use Rattle.std.proofs.Common.{◌≡◌, take}
use Rattle.vk_plan.specs.Forms.{linear_part}
use Rattle.vk_plan.proofs.form.sum_of_terms.Given as goal

abbrev pub invariant-loop-term : goal.invariant-loop-term
invariant-loop-term l = l.total ≡ linear_part (take l.term-index l.terms) l.values
