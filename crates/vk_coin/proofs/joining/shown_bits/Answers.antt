use Rattle.std.proofs.Common.{◌-◌, length, ap, sym, ◌∙◌}
use Rattle.vk_coin.proofs.Joined.{others_have}
use Rattle.vk_coin.proofs.joining.shown_bits.Goals as goal

pub joint_bits-requires : goal.joint_bits-requires
joint_bits-requires c =
    others_have c.args.coin.now c.as_slice-shares.result.now c.index-shares-0.result
    (length c.as_slice.result.now) (length c.as_slice-shares.result.now - 1)
    c.requires c.as_slice-shares.ensures (sym c.index-shares-0.is)
    (ap length c.as_slice.ensures ∙ ap (λ share. length share.bits) (sym c.index-shares-0.is))
