use Rattle.std.proofs.Common.{arith}
use Rattle.vk_files.proofs.Outlets.{taken_more}
use Rattle.vk_files.proofs.outlet.take_whole.Goals as goal

pub loop-done-preserved : goal.loop-done-preserved
loop-done-preserved g c =
    let count = c.in_ok-count.count in
    record {
      within = omega (arith, c.split_at.ensures.back_len, c.in_ok-count.ensures.bound);
      taken = taken_more _ _ _ c.args.piece.now c.split_at.result.1.now c.loop-done.done count
          c.split_at.ensures.back c.loop-done.invariant.taken c.in_ok-count.ensures.taken;
    }
