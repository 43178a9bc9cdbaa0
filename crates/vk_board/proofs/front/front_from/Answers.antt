use Rattle.std.proofs.Common.{rules}
use Rattle.vk_board.proofs.Fronts.{front_right}
use Rattle.vk_board.proofs.front.front_from.Goals as goal

pub returns-in-Some-clause-right : goal.returns-in-Some-clause-right
returns-in-Some-clause-right c =
    front_right c.args.head c.args.seals c.in-Some.position c.requires.head c.requires.seals
    (search rules) (search rules)
