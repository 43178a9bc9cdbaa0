use Rattle.std.proofs.Common.{◌≡◌, List, ℕ, None, sym, subst}
use Rattle.vk_plan.specs.Plans.{Holds}
use Rattle.vk_extractor.specs.Clash.{clash_of_lane}
use Rattle.vk_extractor.proofs.Holding.{extracted_hold}
use Rattle.vk_extractor.proofs.lane.extract_lane.Goals as goal

pub returns-in_ok-values-in-None-clause-holds : goal.returns-in_ok-values-in-None-clause-holds
returns-in_ok-values-in-None-clause-holds c =
    let firsts = c.requires.zero in
    let seconds = c.requires.one in
    let agree : clash_of_lane c.args.case.now c.args.zero.now c.args.one.now ≡ None = cc in
    let P : List ℕ → Type 0 = λ values. Holds c.args.plan.now values in
    subst P (sym (c.in_ok-values-in-None.ensures.sums c.args.case.now firsts.0 seconds.0 firsts.1
    seconds.1))
    (extracted_hold c.args.plan.now c.args.case.now c.args.zero.now c.args.one.now firsts.0
    seconds.0 c.values_of.ensures.plan firsts.1 seconds.1 agree)
