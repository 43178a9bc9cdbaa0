use Rattle.std.proofs.Common.{◌≡◌, false, length, get_or, arith, ap, ap₂, sym, ◌∙◌}
use Rattle.vk_coin.specs.Bits.{xor}
use Rattle.vk_coin.proofs.Xors.{differ, item_bits, item_more}
use Rattle.vk_coin.proofs.bits.joint_bit.Goals as goal

pub bounds-bits-place : goal.bounds-bits-place
bounds-bits-place g c =
    let equal : length c.bits.result.now ≡ length c.args.first.now =
    ap (λ bits. length bits) (c.bits.ensures ∙ ap g.B.HasBits.bits_of c.other-item.is)
    ∙ item_bits g.B.HasBits.bits_of c.args.others.now (length c.args.first.now)
    c.loop-other.other-index c.other-item.result c.requires.equal c.loop-other-test.true in
    omega (arith, equal, c.requires.inside)

pub loop-other-preserved : goal.loop-other-preserved
loop-other-preserved g c =
    differ c.loop-other.joint (get_or c.bits.result.now c.args.place false)
    ∙ ap₂ xor c.loop-other.invariant
    (ap (λ bits. get_or bits c.args.place false)
    (c.bits.ensures ∙ ap g.B.HasBits.bits_of c.other-item.is))
    ∙ sym (item_more g.B.HasBits.bits_of c.args.others.now c.args.first.now c.args.place
    c.loop-other.other-index c.other-item.result c.loop-other-test.true)
