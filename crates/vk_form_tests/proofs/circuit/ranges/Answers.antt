use Rattle.std.proofs.Common.{[]}
use Rattle.vk_range.specs.SetLaws.{listed_push}
use Rattle.vk_form_tests.specs.Sums.{input_form}
use Rattle.vk_form_tests.proofs.circuit.ranges.Goals as goal

pub loop-wire-preserved : goal.loop-wire-preserved
loop-wire-preserved c =
    listed_push input_form [] c.loop-wire.forms c.push.new.self c.in_ok-form.form c.loop-wire.wire
    c.in_ok-push.ensures.pushed c.loop-wire.invariant c.in_ok-form.ensures
