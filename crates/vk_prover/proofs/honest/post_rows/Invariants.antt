use Rattle.std.proofs.Common.{◌≡◌, take, map}
use Rattle.vk_prover.specs.Honest.{posted_on}
use Rattle.vk_prover.proofs.honest.post_rows.Given as goal

abbrev pub invariant-loop-row : goal.invariant-loop-row
invariant-loop-row l = l.numbers.items ≡ map (posted_on l.firsts) (take l.row l.plan.rows)
