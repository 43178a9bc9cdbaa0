use Rattle.std.proofs.Common.{sym, subst, ◌-◌, ◌≡◌, arith}
use Rattle.vk_range.specs.Copies.{BeginsWith}
use Rattle.vk_vickrey.specs.VickreyLaws.{begins_prices}
use Rattle.vk_vickrey.specs.VickreyRanges.{may_be_selected}
use Rattle.vk_vickrey.specs.VickreySteps.{selection_over, honest_alone, honest_many}
use Rattle.vk_vickrey.specs.VickreySelectors.{SelectsAt, selectors_start, honest_selector}
use Rattle.vk_vickrey.specs.VickreyPlans.{honest_values}
use Rattle.vk_vickrey.proofs.plan.VickreyPlanCircuit.fill.Goals as goal
use Rattle.vk_vickrey.proofs.plan.VickreyPlanCircuit.fill.Goals.{Then-self-eq1, After-drop-selection-2}

pub fill-requires : goal.fill-requires
fill-requires c =
    let s = c.args.self.now in
    let values = c.in_ok-values.values.items in
    let begins : BeginsWith c.args.inputs.now values =
    subst (BeginsWith c.args.inputs.now) (sym c.in_ok-values.ensures)
    (begins_prices s.seals s.width (s.position - 1) s.price c.args.inputs.now) in
    rw c.in_ok-selection.ensures (record {
      fits = selection_over s.seals s.width s.position s.price s.in_limits values
          c.if-self-eq1.false (omega (arith, begins.enough, c.requires.one_each));
      true_of = may_be_selected s.seals s.width s.position s.price c.args.inputs.now values
          s.in_limits c.requires begins
          (omega (arith, s.in_limits.some_seals, c.if-self-eq1.false));
    })

alone : (c : Then-self-eq1) → c.in_ok-values.values.items
    ≡ honest_values c.args.self.now.seals c.args.self.now.width c.args.self.now.position
    c.args.self.now.price c.args.inputs.now
alone c =
    let s = c.args.self.now in
    honest_alone s.seals s.width s.position s.price s.in_limits c.args.inputs.now
    c.in_ok-values.values.items c.if-self-eq1.true c.in_ok-values.ensures

many : (c : After-drop-selection-2)
    → c.fill.new.values.items ≡ honest_values c.args.self.now.seals c.args.self.now.width
    c.args.self.now.position c.args.self.now.price c.args.inputs.now
many c =
    let s = c.args.self.now in
    honest_many s.seals s.width s.position s.price s.in_limits c.args.inputs.now
    c.in_ok-values.values.items c.fill.new.values.items c.if-self-eq1.false
    c.in_ok-values.ensures
    (rw c.in_ok-selection.ensures at c.in_ok-fill.ensures.filled)

pub returns-then-self-eq1-clause-filled : goal.returns-then-self-eq1-clause-filled
returns-then-self-eq1-clause-filled c = alone c

pub returns-then-self-eq1-clause-selector : goal.returns-then-self-eq1-clause-selector
returns-then-self-eq1-clause-selector c = λ place h first.
    let s = c.args.self.now in
    subst (λ v. SelectsAt v (selectors_start s.seals s.width) (s.seals - 1) place) (sym (alone c))
    (honest_selector s.seals s.width s.position s.price place c.args.inputs.now s.in_limits
    c.requires h first)

pub returns-clause-filled : goal.returns-clause-filled
returns-clause-filled c = many c

pub returns-clause-selector : goal.returns-clause-selector
returns-clause-selector c = λ place h first.
    let s = c.args.self.now in
    subst (λ v. SelectsAt v (selectors_start s.seals s.width) (s.seals - 1) place) (sym (many c))
    (honest_selector s.seals s.width s.position s.price place c.args.inputs.now s.in_limits
    c.requires h first)
