use Rattle.std.proofs.Common.{sym}
use Rattle.vk_lines.proofs.Words.{cut_at, cut_nowhere}
use Rattle.vk_lines.proofs.cutting.cut.Goals as goal

pub returns-in-Some : goal.returns-in-Some
returns-in-Some c = cut_at c.args.text.now c.in-Some.at (sym c.in-Some.ensures.place)

pub returns-in-None : goal.returns-in-None
returns-in-None c = cut_nowhere c.args.text.now (sym c.in-None.ensures.place)
