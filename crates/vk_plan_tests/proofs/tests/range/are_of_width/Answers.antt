use Rattle.std.proofs.Common.{◌<◌, ◌^◌, length, ap, subst, arith}
use Rattle.std.specs.Prelude.{All}
use Rattle.std.proofs.lemmas.List.{take_all}
use Rattle.std.proofs.lemmas.List.Elements.{All-more}
use Rattle.vk_plan.specs.declared.form.Form.{Form}
use Rattle.vk_plan.specs.Forms.{form_value}
use Rattle.vk_plan_tests.proofs.tests.range.are_of_width.Goals as goal

pub loop-form-preserved : goal.loop-form-preserved
loop-form-preserved c =
    let Below : Form → Type 0 =
    λ form. form_value form c.args.values.now < 2 ^ c.args.ranges.now.width in
    let items = c.as_slice-form-items in
    let here : Below c.form-item.result =
    omega (
      arith,
      c.value.ensures,
      c.get.ensures.value,
      c.get-in-loop-form.ensures.value,
      c.pow2.ensures,
      c.if-get.false,
    ) in
    All-more Below c.args.ranges.now.forms c.loop-form.form-index c.form-item.result
    (rw items.ensures at c.loop-form-test.true)
    c.loop-form.invariant (subst Below (rw items.ensures at c.form-item.is) here)

pub returns : goal.returns
returns c = λ _.
    let Below : Form → Type 0 =
    λ form. form_value form c.args.values.now < 2 ^ c.args.ranges.now.width in
    let forms = c.args.ranges.now.forms in
    let long = ap length c.as_slice-form-items.ensures in
    subst (λ items. All Below items)
    (take_all c.loop-form.form-index forms (omega (arith, long, c.loop-form-test.false)))
    c.loop-form.invariant
