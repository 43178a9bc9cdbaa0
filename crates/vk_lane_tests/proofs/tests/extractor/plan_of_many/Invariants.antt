use Rattle.std.proofs.Common.{length, ◌-◌}
use Rattle.vk_lane_tests.proofs.tests.extractor.plan_of_many.Given as goal

abbrev pub decreases-loop-plan : goal.decreases-loop-plan
decreases-loop-plan l = 102 - length l.plan.kinds
