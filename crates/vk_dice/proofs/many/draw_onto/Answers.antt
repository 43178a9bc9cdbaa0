use Rattle.std.proofs.Common.{◌≡◌, ◌+◌, ◌-◌, ◌++◌, ◌∷◌, [], Some, arith, length-append, rules}
use Rattle.std.proofs.lemmas.Grind.{common_steps}
use Rattle.std.proofs.lemmas.List.Elements.{All-push}
use Rattle.vk_dice.specs.Many.{after_draws, drawn_onto}
use Rattle.vk_dice.proofs.Drawing.{drawn_turn, drawn_dry, drawn_done, after_turn, after_dry, after_done, right_of_some}
use Rattle.vk_dice.proofs.many.draw_onto.Goals as goal

pub returns-in_err-item-clause-dry : goal.returns-in_err-item-clause-dry
returns-in_err-item-clause-dry g c =
    drawn_dry (g.D.Draw.drawing c.args.kind.now) c.from_residual.result c.draw.result
    c.in_err-item.field-0.0 c.loop-number.items.items c.loop-number.number
    (c.len-first.result + c.args.count - c.loop-number.number) (g.W.Words.ahead c.loop-number.words)
    (drawn_onto (g.D.Draw.drawing c.args.kind.now) c.args.items.items c.args.count
    (g.W.Words.ahead c.args.words.now))
    (search rules) c.in_err-item.ensures.value c.draw.ensures.drawn c.loop-number.invariant.count
    (omega arith) c.loop-number.invariant.drawn

pub returns-in_err-item-clause-after : goal.returns-in_err-item-clause-after
returns-in_err-item-clause-after g c =
    after_dry (g.D.Draw.drawing c.args.kind.now) c.draw.result c.in_err-item.field-0.0
    c.loop-number.number
    (c.len-first.result + c.args.count - c.loop-number.number) (g.W.Words.ahead c.loop-number.words)
    (g.W.Words.ahead c.draw.new.words)
    (after_draws (g.D.Draw.drawing c.args.kind.now) c.args.count (g.W.Words.ahead c.args.words.now))
    c.in_err-item.ensures.value c.draw.ensures.drawn (omega arith) c.draw.ensures.after
    c.loop-number.invariant.after

pub loop-number-preserved : goal.loop-number-preserved
loop-number-preserved g c =
    let kind = g.D.Draw.drawing c.args.kind.now in
    let l = c.loop-number in
    let some : c.draw.result ≡ Some c.in_ok-item.item = c.in_ok-item.ensures.ok_part in
    let pushed : c.push.new.self.items ≡ l.items.items ++ c.in_ok-item.item ∷ [] = search rules in
    record {
      drawn = drawn_turn kind c.draw.result l.items.items c.push.new.self.items c.in_ok-item.item
          (c.len-first.result + c.args.count - l.number)
          (c.len-first.result + c.args.count - (l.number + 1))
          (g.W.Words.ahead l.words) (g.W.Words.ahead c.draw.new.words)
          (drawn_onto kind c.args.items.items c.args.count (g.W.Words.ahead c.args.words.now))
          (omega arith) some c.draw.ensures.drawn c.draw.ensures.after pushed l.invariant.drawn;
      after = after_turn kind c.draw.result c.in_ok-item.item
          (c.len-first.result + c.args.count - l.number)
          (c.len-first.result + c.args.count - (l.number + 1))
          (g.W.Words.ahead l.words) (g.W.Words.ahead c.draw.new.words)
          (after_draws kind c.args.count (g.W.Words.ahead c.args.words.now))
          (omega arith) some c.draw.ensures.drawn c.draw.ensures.after l.invariant.after;
      right = rw pushed (All-push (g.D.Draw.is_item c.args.kind.now) l.items.items c.in_ok-item.item
          l.invariant.right
          (right_of_some (g.D.Draw.is_item c.args.kind.now) c.draw.result c.in_ok-item.item some
          c.draw.ensures.right));
      count = grind (arith, common_steps, length-append);
      room = omega (arith, l.invariant.room, c.push.ensures.capacity);
    }

pub returns-clause-drawn : goal.returns-clause-drawn
returns-clause-drawn g c =
    drawn_done (g.D.Draw.drawing c.args.kind.now) c.loop-number.items.items
    (c.len-first.result + c.args.count - c.loop-number.number)
    (g.W.Words.ahead c.loop-number.words)
    (drawn_onto (g.D.Draw.drawing c.args.kind.now) c.args.items.items c.args.count
    (g.W.Words.ahead c.args.words.now)) (omega arith) c.loop-number.invariant.drawn

pub returns-clause-after : goal.returns-clause-after
returns-clause-after g c =
    after_done (g.D.Draw.drawing c.args.kind.now)
    (c.len-first.result + c.args.count - c.loop-number.number)
    (g.W.Words.ahead c.loop-number.words)
    (after_draws (g.D.Draw.drawing c.args.kind.now) c.args.count (g.W.Words.ahead c.args.words.now))
    (omega arith) c.loop-number.invariant.after
