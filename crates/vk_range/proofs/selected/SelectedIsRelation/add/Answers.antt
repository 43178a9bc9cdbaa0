use Rattle.std.proofs.Common.{◌≡◌, ◌+◌, length, sym, ap, ◌∙◌, subst, arith}
use Rattle.vk_plan.specs.Plans.{IsPlan}
use Rattle.vk_range.specs.Selected.{place_form}
use Rattle.vk_range.specs.SelectedLaws.{selecting, stage, IsPlan-selecting, IsPlan-stage, stage_cut, stage_is}
use Rattle.vk_range.specs.Series.{next_room, series_none, series_added}
use Rattle.vk_range.proofs.selected.SelectedIsRelation.add.Goals as goal

pub add_selectors-requires-clause-room : goal.add_selectors-requires-clause-room
add_selectors-requires-clause-room c =
    IsPlan-selecting c.args.self.now c.args.plan.now c.wires-wires.ensures.plan c.requires.room

pub loop-place-init : goal.loop-place-init
loop-place-init c =
    let s = c.args.self.now in
    let plan = c.args.plan.now in
    c.in_ok-add_selectors.ensures.added
    ∙ sym (series_none (selecting s plan) (place_form s (length plan.kinds)) s.width)

pub add_place-requires-clause-room : goal.add_place-requires-clause-room
add_place-requires-clause-room c =
    let s = c.args.self.now in
    let plan = c.args.plan.now in
    let place = c.loop-place.place in
    rw c.wires-wires.ensures.value
    (next_room (selecting s plan) c.loop-place.plan (place_form s (length plan.kinds)) s.width place
    c.loop-place.invariant
    (IsPlan-stage s plan (place + 1) c.wires-wires.ensures.plan c.requires.fits c.requires.room
    (omega arith)))

pub cut-requires-clause-plan : goal.cut-requires-clause-plan
cut-requires-clause-plan c =
    rw (c.wires-wires.ensures.value, c.rows-rows.ensures.value)
    (subst IsPlan (sym (stage_cut c.args.self.now c.args.plan.now c.add_place.new.plan
    c.loop-place.place (c.in-Err.ensures.as_before ∙ c.loop-place.invariant)))
    c.wires-wires.ensures.plan)

pub loop-place-preserved : goal.loop-place-preserved
loop-place-preserved c =
    let s = c.args.self.now in
    let plan = c.args.plan.now in
    series_added (selecting s plan) c.loop-place.plan c.add_place.new.plan
    (place_form s (length plan.kinds)) s.width c.loop-place.place c.loop-place.invariant
    (rw c.wires-wires.ensures.value at c.in_default.ensures.added)

pub returns-clause-added : goal.returns-clause-added
returns-clause-added c =
    let s = c.args.self.now in
    let plan = c.args.plan.now in
    let all : c.loop-place.place ≡ length s.wires = omega arith in
    c.loop-place.invariant ∙ ap (stage s plan) all ∙ sym (stage_is s plan)
