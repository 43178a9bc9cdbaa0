use Rattle.std.proofs.Common.{arith}
use Rattle.vk_residue.specs.Residue.{modulus}
use Rattle.vk_dice.proofs.Eight.{parts, drawn_none, none_drawn, one_of_eight}
use Rattle.vk_dice.proofs.draws.eight_words_are_rejected.Goals as goal

pub returns : goal.returns
returns c = λ word. (
  λ w. parts word modulus w.0 (drawn_none word w.1),
  λ w. let p = one_of_eight word modulus (omega arith) w in (p.0, none_drawn word p.1),
)
