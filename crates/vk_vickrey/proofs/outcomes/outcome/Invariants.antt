use Rattle.vk_vickrey.specs.OutcomeLaws.{IsOutcomeOfFirst}
use Rattle.vk_vickrey.proofs.outcomes.outcome.Given as goal

abbrev pub invariant-loop-i : goal.invariant-loop-i
invariant-loop-i l = IsOutcomeOfFirst l.bids l.i l.winner l.best l.price
