use Rattle.std.proofs.Common.{ap, ◌∙◌}
use Rattle.vk_range.specs.RangesLaws.{ranges_over}
use Rattle.vk_matching.specs.Eithers.{is_one, ranges_at}
use Rattle.vk_matching.specs.EitherLaws.{either_over, fill_fits, fill_true, fill_is}
use Rattle.vk_matching.proofs.either.EitherAtLeastRelation.fill.Goals as goal

pub fill-requires-clause-fits : goal.fill-requires-clause-fits
fill-requires-clause-fits c =
    let s = c.args.self.now in
    let values = c.args.values.now.items in
    let now = c.push.new.self.items in
    let one = c.is_one-one.result in
    rw c.in_ok-ranges.ensures
    (ranges_over (ranges_at s one) now
    (fill_fits s values now one (either_over s values c.requires.fits)
    (c.is_one-one.ensures ∙ ap (is_one s) c.as_slice.ensures.value)
    (rw c.pair_of.ensures at c.in_ok-push.ensures.items)))

pub fill-requires-clause-true_of : goal.fill-requires-clause-true_of
fill-requires-clause-true_of c =
    let s = c.args.self.now in
    let values = c.args.values.now.items in
    rw c.in_ok-ranges.ensures
    (fill_true s values c.push.new.self.items c.is_one-one.result
    (either_over s values c.requires.fits)
    (c.is_one-one.ensures ∙ ap (is_one s) c.as_slice.ensures.value)
    (rw c.pair_of.ensures at c.in_ok-push.ensures.items) c.requires.true_of)

pub returns-clause-filled : goal.returns-clause-filled
returns-clause-filled c =
    let s = c.args.self.now in
    let values = c.args.values.now.items in
    fill_is s values c.push.new.self.items c.is_one-one.result
    (either_over s values c.requires.fits)
    (c.is_one-one.ensures ∙ ap (is_one s) c.as_slice.ensures.value)
    (rw c.pair_of.ensures at c.in_ok-push.ensures.items) c.fill.new.values.items
    (rw c.in_ok-ranges.ensures at c.in_default.ensures.filled)
