use Rattle.vk_range.specs.Series.{series_pushed}
use Rattle.vk_range.specs.Ranges.{form_at}
use Rattle.vk_range.specs.RangesLaws.{form_read, names_over}
use Rattle.vk_range.proofs.ranges.RangesRelation.fill.Goals as goal

pub loop-form-preserved : goal.loop-form-preserved
loop-form-preserved c =
    let s = c.args.self.now in
    let values = c.args.values.now.items in
    let items = c.as_slice-form-items in
    let i = c.loop-form.form-index in
    let here = form_read s.forms items.result.now i c.form-item.result items.ensures
    c.loop-form-test.true c.form-item.is in
    series_pushed values c.loop-form.values.items c.push_parts.new.values.items (form_at s.forms)
    s.width i
    (names_over s values i c.requires.fits (rw items.ensures at c.loop-form-test.true))
    c.loop-form.invariant
    (rw (c.value-number.ensures, c.as_slice.ensures.value, here) at c.in_default.ensures.pushed)
