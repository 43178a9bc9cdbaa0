use Rattle.std.proofs.Common.{subst, arith, length-append, sym}
use Rattle.std.specs.Io.KnownBytes.{Consumes}
use Rattle.vk_files.proofs.Transfers.{filled_more}
use Rattle.vk_files.proofs.pieces.read_fully.Goals as goal

pub loop-filled-preserved : goal.loop-filled-preserved
loop-filled-preserved g c =
    let front = c.split_at_mut-rest.result.0.now in
    let s = c.split_at_mut-rest.ensures in (
      omega (
        arith,
        length-append front c.read_some.new.into,
        s.front_len,
        c.in_ok-count.ensures.bound,
      ),
      filled_more _ (g.R.Read.remaining c.loop-filled.reader) _ front c.read_some.new.into
          c.loop-filled.filled c.in_ok-count.count s.front_len
          (subst (λ f. Consumes (g.R.Read.remaining c.args.reader.now)
          (g.R.Read.remaining c.loop-filled.reader) f) (sym s.front)
          c.loop-filled.invariant.1) c.in_ok-count.ensures.bytes.0,
    )
