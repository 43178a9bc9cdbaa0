use Rattle.vk_form_tests.proofs.Totals.{filled_hold}
use Rattle.vk_form_tests.proofs.tests.files.plan_and_values.Goals as goal

pub returns : goal.returns
returns c = filled_hold c.args.circuit.now.total c.args.numbers.now c.in_ok-plan.plan
    c.in_ok-values.values.items c.requires c.in_ok-plan.ensures c.in_ok-values.ensures
