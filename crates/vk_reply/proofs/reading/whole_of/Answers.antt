use Rattle.std.proofs.Common.{sym, refl}
use Rattle.vk_reply.proofs.Openings.{whole_in_turn}
use Rattle.vk_reply.proofs.reading.whole_of.Goals as goal

pub returns-in_err-second : goal.returns-in_err-second
returns-in_err-second c =
    rw (
      c.from_residual-in_err-second.ensures,
      whole_in_turn c.args.text.now,
      sym c.in_ok-behind_word.ensures,
      sym c.in_ok-key.ensures.value,
      sym c.in_ok-value.ensures,
      sym c.in_ok-value-2.ensures.value,
      sym c.in_err-second.ensures.value,
    )
    refl
