use Rattle.std.proofs.Common.{[]}
use Rattle.vk_range.specs.SetLaws.{listed_push}
use Rattle.vk_matching.specs.MatchingPlans.{rank_form}
use Rattle.vk_matching.proofs.plan.MatchingPlan.ranges.Goals as goal

pub loop-place-preserved : goal.loop-place-preserved
loop-place-preserved c =
    listed_push (rank_form c.args.self.now.inputs) [] c.loop-place.forms.items c.push.new.self.items
    c.in_ok-form.form c.loop-place.place
    c.in_ok-push.ensures.items c.loop-place.invariant c.in_ok-form.ensures
