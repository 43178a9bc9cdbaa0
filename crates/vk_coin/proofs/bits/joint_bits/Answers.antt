use Rattle.std.proofs.Common.{◌∷◌, ◌++◌, [], map, zero-add, ap₂, sym, ◌∙◌}
use Rattle.std.proofs.lemmas.List.FromFn.{map-range_with_len_more}
use Rattle.vk_coin.specs.Bits.{bits_at, xor_of}
use Rattle.vk_coin.proofs.bits.joint_bits.Goals as goal

pub loop-place-preserved : goal.loop-place-preserved
loop-place-preserved g c =
    c.in_ok-push.ensures.items
    ∙ ap₂ (λ bits bit. bits ++ bit ∷ []) c.loop-place.invariant c.joint_bit.ensures
    ∙ sym (map-range_with_len_more
    (λ place. xor_of (bits_at place (c.args.first.now ∷ map g.B.HasBits.bits_of c.args.others.now)))
    0 c.loop-place.place c.loop-place.place (zero-add c.loop-place.place))
