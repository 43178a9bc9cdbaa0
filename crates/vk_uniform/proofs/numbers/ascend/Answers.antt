use Rattle.std.proofs.Common.{refl, arith}
use Rattle.std.proofs.lemmas.List.Kept.{AllPairs-from_increasing}
use Rattle.vk_uniform.proofs.numbers.ascend.Goals as goal

pub returns : goal.returns
returns c = (
  λ _. AllPairs-from_increasing c.args.numbers.now
      (λ k h. c.loop-i.invariant k (omega (arith, h, c.loop-i-test.false))),
  λ _. refl,
)
