use Rattle.std.proofs.Common.{arith}
use Rattle.vk_dice.proofs.Eight.{parts, drawn_some, some_drawn, one_of_eight}
use Rattle.vk_dice.proofs.draws.each_residue_is_drawn_by_eight_words.Goals as goal

pub returns : goal.returns
returns c = λ residue word h. (
  λ w. parts word residue w.0 (drawn_some word residue w.1),
  λ w. let p = one_of_eight word residue (omega arith) w in (p.0, some_drawn word residue p.1 h),
)
