use Rattle.std.proofs.Common.{◌≡◌, drop}
use Rattle.vk_extractor.specs.Clash.{clash_from, clash_of_lane}
use Rattle.vk_extractor.proofs.clash.first_clash.Given as goal

abbrev pub invariant-loop-wire : goal.invariant-loop-wire
invariant-loop-wire l =
    clash_from l.case l.wire (drop l.wire l.case.coms) (drop l.wire l.zero) (drop l.wire l.one)
    ≡ clash_of_lane l.case l.zero l.one
