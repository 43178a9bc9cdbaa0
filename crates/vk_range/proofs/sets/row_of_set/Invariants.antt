use Rattle.std.proofs.Common.{◌≡◌, ◌++◌}
use Rattle.vk_range.specs.Sets.{minus_set}
use Rattle.vk_range.proofs.sets.row_of_set.Given as goal

abbrev pub invariant-loop-i : goal.invariant-loop-i
invariant-loop-i l = l.terms.items ≡ l.fn.form.terms ++ minus_set l.start l.i
