use Rattle.std.proofs.Common.{◌<◌, ◌^◌, All, take}
use Rattle.vk_plan.specs.Forms.{form_value}
use Rattle.vk_plan_tests.proofs.tests.range.are_of_width.Given as goal

abbrev pub invariant-loop-form : goal.invariant-loop-form
invariant-loop-form l = All (λ form. form_value form l.values < 2 ^ l.ranges.width)
    (take l.form-index l.ranges.forms)
