use Rattle.std.proofs.Common.{◌≡◌, sym, ◌∙◌}
use Rattle.vk_vickrey.specs.VickreyPlans.{vickrey_plan}
use Rattle.std.proofs.lemmas.Bool.{eq-eqb, ne_eqb}
use Rattle.vk_vickrey.specs.VickreyLaws.{plan_alone, plan_many}
use Rattle.vk_vickrey.specs.VickreySteps.{selection_fits, selection_room, vickrey_counts}
use Rattle.vk_vickrey.proofs.plan.VickreyPlanCircuit.plan.Goals as goal
use Rattle.vk_vickrey.proofs.plan.VickreyPlanCircuit.plan.Goals.{Then-self-eq1, After-drop-selection-2}

alone : (c : Then-self-eq1) → c.in_ok-plan.plan
    ≡ vickrey_plan c.args.self.now.seals c.args.self.now.width c.args.self.now.position
    c.args.self.now.price
alone c =
    let s = c.args.self.now in
    c.in_ok-plan.ensures ∙ sym
    (plan_alone s.seals s.width s.position s.price (eq-eqb s.seals 1 c.if-self-eq1.true))

pub returns-then-self-eq1-clause-plan : goal.returns-then-self-eq1-clause-plan
returns-then-self-eq1-clause-plan c = alone c

pub returns-then-self-eq1-clause-wires : goal.returns-then-self-eq1-clause-wires
returns-then-self-eq1-clause-wires c =
    let s = c.args.self.now in
    (vickrey_counts s.seals s.width s.position s.price _ s.in_limits.some_seals (alone c)).0

pub returns-then-self-eq1-clause-rows : goal.returns-then-self-eq1-clause-rows
returns-then-self-eq1-clause-rows c =
    let s = c.args.self.now in
    (vickrey_counts s.seals s.width s.position s.price _ s.in_limits.some_seals (alone c)).1

pub add-requires-clause-fits : goal.add-requires-clause-fits
add-requires-clause-fits c =
    let s = c.args.self.now in
    rw (c.in_ok-selection.ensures, c.in_ok-plan.ensures)
    (selection_fits s.seals s.width s.position s.price s.in_limits c.if-self-eq1.false)

pub add-requires-clause-room : goal.add-requires-clause-room
add-requires-clause-room c =
    let s = c.args.self.now in
    rw (c.in_ok-selection.ensures, c.in_ok-plan.ensures)
    (selection_room s.seals s.width s.position s.price s.in_limits c.if-self-eq1.false)

many : (c : After-drop-selection-2)
    → c.add.new.plan ≡ vickrey_plan c.args.self.now.seals c.args.self.now.width
    c.args.self.now.position c.args.self.now.price
many c =
    let s = c.args.self.now in
    (rw (c.in_ok-selection.ensures, c.in_ok-plan.ensures) at c.in_ok-add.ensures.added)
    ∙ sym (plan_many s.seals s.width s.position s.price (ne_eqb s.seals 1 c.if-self-eq1.false))

pub returns-clause-plan : goal.returns-clause-plan
returns-clause-plan c = many c

pub returns-clause-wires : goal.returns-clause-wires
returns-clause-wires c =
    let s = c.args.self.now in
    (vickrey_counts s.seals s.width s.position s.price _ s.in_limits.some_seals (many c)).0

pub returns-clause-rows : goal.returns-clause-rows
returns-clause-rows c =
    let s = c.args.self.now in
    (vickrey_counts s.seals s.width s.position s.price _ s.in_limits.some_seals (many c)).1
