use Rattle.std.proofs.Common.{◌≡◌, ◌<◌, ◌^◌, take}
use Rattle.std.specs.Prelude.{All}
use Rattle.vk_plan_tests.proofs.tests.numbers.inputs_of.Given as goal

abbrev pub invariant-loop-bid : goal.invariant-loop-bid
invariant-loop-bid l = record {
  same : l.inputs.items ≡ take l.bid-index l.bids;
  within : All (λ bid. bid < 2 ^ l.width) (take l.bid-index l.bids);
}
