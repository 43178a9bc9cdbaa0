use Rattle.std.proofs.Common.{◌≡◌, ◌+◌, ◌-◌, ◌≤◌, All, length}
use Rattle.std.specs.Prelude.{vec_capacity}
use Rattle.vk_dice.specs.Many.{after_draws, drawn_onto}
use Rattle.vk_dice.proofs.many.draw_onto.Given as goal

-- the words ahead give the rest
abbrev pub invariant-loop-number : goal.invariant-loop-number
invariant-loop-number g l = record {
  drawn : drawn_onto (g.D.Draw.drawing l.kind) l.items.items (l.first + l.count - l.number)
      (g.W.Words.ahead l.words)
      ≡ drawn_onto (g.D.Draw.drawing l.kind) l.fn.items.items l.count (g.W.Words.ahead l.fn.words);
  after : after_draws (g.D.Draw.drawing l.kind) (l.first + l.count - l.number)
      (g.W.Words.ahead l.words)
      ≡ after_draws (g.D.Draw.drawing l.kind) l.count (g.W.Words.ahead l.fn.words);
  right : All (g.D.Draw.is_item l.kind) l.items.items;
  count : length l.items.items ≡ l.number;
  room : l.first + l.count ≤ vec_capacity l.items;
}
