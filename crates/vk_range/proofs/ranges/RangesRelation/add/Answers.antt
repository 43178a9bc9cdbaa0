use Rattle.vk_range.specs.Series.{series_added}
use Rattle.vk_range.specs.Ranges.{form_at}
use Rattle.vk_range.specs.RangesLaws.{form_read, set_room}
use Rattle.vk_range.proofs.ranges.RangesRelation.add.Goals as goal

pub add_set-requires-clause-room : goal.add_set-requires-clause-room
add_set-requires-clause-room c =
    let s = c.args.self.now in
    let items = c.as_slice-form-items in
    let i = c.loop-form.form-index in
    rw (form_read s.forms items.result.now i c.form-item.result items.ensures c.loop-form-test.true
    c.form-item.is)
    (set_room s c.args.plan.now c.loop-form.plan i c.wires-wires.ensures.plan c.requires.fits
    c.requires.room
    (rw items.ensures at c.loop-form-test.true) c.loop-form.invariant)

pub loop-form-preserved : goal.loop-form-preserved
loop-form-preserved c =
    let s = c.args.self.now in
    let items = c.as_slice-form-items in
    let i = c.loop-form.form-index in
    let here = form_read s.forms items.result.now i c.form-item.result items.ensures
    c.loop-form-test.true c.form-item.is in
    series_added c.args.plan.now c.loop-form.plan c.add_set.new.plan (form_at s.forms) s.width i
    c.loop-form.invariant
    (rw here at c.in_default.ensures.added)
