use Rattle.std.proofs.Common.{refl, arith}
use Rattle.vk_uniform.specs.OutcomeLaws.{weakest_next, weakest_stays}
use Rattle.vk_uniform.proofs.outcomes.weakest.Goals as goal
use Rattle.vk_uniform.proofs.outcomes.weakest.Goals.{then-bid-least, else-bid-least}

pub loop-i-preserved : goal.loop-i-preserved
loop-i-preserved c =
    let bids = c.args.bids.now in
    let winners = c.args.winners.now in
    let at = c.loop-i in
    elim c.if-bid-least.branch [
      | then-bid-least w ↦
          rw (w.place-is, w.least-is) (
            weakest_next bids winners at.i at.place c.requires.ascending c.loop-i-test.true
                at.invariant.0
                (omega (arith, at.invariant.1, w.if-bid-least.true)),
            refl,
          )
      | else-bid-least w ↦
          rw (w.place-is, w.least-is) (
            weakest_stays bids winners at.i at.place c.requires.ascending c.loop-i-test.true
                at.invariant.0
                (omega (arith, at.invariant.1, w.if-bid-least.false)),
            at.invariant.1,
          )
    ]
