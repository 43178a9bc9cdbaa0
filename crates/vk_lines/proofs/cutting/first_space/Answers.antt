use Rattle.vk_lines.proofs.Words.{space_found}
use Rattle.vk_lines.proofs.cutting.first_space.Goals as goal

pub returns-clause-place : goal.returns-clause-place
returns-clause-place c = space_found c.args.text.now c.memchr.result c.memchr.ensures
