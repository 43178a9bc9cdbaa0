use Rattle.std.proofs.Common.{◌≡◌, ◌≤◌, length, map}
use Rattle.std.specs.List.{range_with_len}
use Rattle.std.specs.Prelude.{vec_capacity}
use Rattle.vk_dice.specs.Words.{later}
use Rattle.vk_dice.specs.Draws.{drawn_bit}
use Rattle.vk_coin.proofs.drawing.draw_bits.Given as goal

-- the bits so far are those of the lanes so far
abbrev pub invariant-loop-lane : goal.invariant-loop-lane
invariant-loop-lane g l = record {
  drawn : l.bits.items ≡ map (λ lane. drawn_bit (later lane (g.W.Words.ahead l.fn.words)))
      (range_with_len 0 l.lane);
  count : length l.bits.items ≡ l.lane;
  room : l.lanes ≤ vec_capacity l.bits;
  after : g.W.Words.ahead l.words ≡ later l.lane (g.W.Words.ahead l.fn.words);
}
