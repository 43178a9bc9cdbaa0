use Rattle.std.proofs.Common.{◌≡◌, ◌++◌, ◌∷◌, [], sym, ap, ap₂, ◌∙◌, arith, length-append, rules, zero-add}
use Rattle.std.proofs.lemmas.Grind.{common_steps}
use Rattle.std.proofs.lemmas.List.FromFn.{map-range_with_len_more}
use Rattle.vk_dice.specs.Words.{later}
use Rattle.vk_dice.specs.Draws.{drawn_bit}
use Rattle.vk_dice.proofs.Within.{later-later}
use Rattle.vk_coin.proofs.drawing.draw_bits.Goals as goal

pub loop-lane-preserved : goal.loop-lane-preserved
loop-lane-preserved g c =
    let l = c.loop-lane in
    let ahead = g.W.Words.ahead c.args.words.now in
    let pushed : c.push.new.self.items ≡ l.bits.items ++ c.draw_bit.result ∷ [] = search rules in
    record {
      drawn =
          pushed
          ∙ ap₂ (λ bits bit. bits ++ bit ∷ []) l.invariant.drawn
          (c.draw_bit.ensures.drawn ∙ ap drawn_bit l.invariant.after)
          ∙ sym (map-range_with_len_more (λ lane. drawn_bit (later lane ahead)) 0 l.lane l.lane
          (zero-add l.lane));
      count = grind (arith, common_steps, length-append);
      room = omega (arith, l.invariant.room, c.push.ensures.capacity);
      after = c.draw_bit.ensures.after ∙ ap (later 1) l.invariant.after
          ∙ later-later l.lane 1 ahead;
    }
