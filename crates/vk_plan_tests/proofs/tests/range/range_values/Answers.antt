use Rattle.std.proofs.Common.{◌<◌, ◌≡◌, [], length, sym, subst, arith, lit<}
use Rattle.std.proofs.lemmas.List.Elements.{All-cons, All-nil}
use Rattle.vk_plan.specs.declared.form.Term.{Term}
use Rattle.vk_plan.specs.declared.form.Form.{Form}
use Rattle.vk_plan.specs.Forms.{NamesBelow}
use Rattle.vk_plan.specs.Plans.{plan_of_inputs}
use Rattle.vk_range.specs.Sets.{plus}
use Rattle.vk_plan_tests.proofs.tests.range.range_values.Goals as goal

pub fill-requires-clause-fits : goal.fill-requires-clause-fits
fill-requires-clause-fits c =
    let Named : Term → Type 0 = λ term. term.wire < 1 in
    let one = All-cons Named (plus 0) [] (lit< tt) (All-nil Named) in
    let same : 1 ≡ length c.push.new.self.items =
    omega (arith, c.in_ok-push.ensures.len, c.new-values.ensures.len, c.push.new.self.ok.0) in (
      plan_of_inputs 1,
      (
        record {
          names = subst (λ (f : Form). NamesBelow 1 f.terms) (sym c.in_ok-wire_form.ensures)
              one;
          wide = record { least = c.requires.some; most = c.requires.most };
        },
        same,
      ),
    )
