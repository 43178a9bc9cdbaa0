use Rattle.std.proofs.Common.{◌≡◌}
use Rattle.vk_range.specs.Sets.{listed}
use Rattle.vk_form_tests.specs.Sums.{input_form}
use Rattle.vk_form_tests.proofs.circuit.ranges.Given as goal

abbrev pub invariant-loop-wire : goal.invariant-loop-wire
invariant-loop-wire l = l.forms ≡ listed input_form l.wire
