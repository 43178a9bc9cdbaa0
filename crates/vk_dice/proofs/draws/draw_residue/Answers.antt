use Rattle.std.proofs.Common.{◌≡◌, suc, ◌-◌, ◌+◌, None, sym, ap, ◌∙◌, arith}
use Rattle.vk_dice.specs.Words.{later}
use Rattle.vk_dice.specs.Draws.{drawn_by, looked_at}
use Rattle.vk_dice.proofs.Within.{later-zero, within_others, looked_others}
use Rattle.vk_dice.proofs.draws.draw_residue.Goals as goal

pub loop-tried-preserved : goal.loop-tried-preserved
loop-tried-preserved g c =
    let now = g.W.Words.ahead c.loop-tried.words in
    let new = g.W.Words.ahead c.next-word.new.self in
    let n = 4 - c.loop-tried.tried in
    let m = 4 - (c.loop-tried.tried + 1) in
    let one : n ≡ suc m = omega arith in
    let none : drawn_by (now 0) ≡ None =
    sym (c.in_default.ensures ∙ ap drawn_by c.next-word.ensures.word) in
    record {
      drawn = c.loop-tried.invariant.drawn
          ∙ within_others n m now new one none c.next-word.ensures.after;
      after = c.loop-tried.invariant.after
          ∙ looked_others n m now new one none c.next-word.ensures.after;
    }

pub returns-clause-after : goal.returns-clause-after
returns-clause-after g c =
    let now = g.W.Words.ahead c.loop-tried.words in
    let left : 4 - c.loop-tried.tried ≡ 0 = omega arith in
    sym (c.loop-tried.invariant.after ∙ ap (λ n. later (looked_at n now) now) left ∙ later-zero now)
