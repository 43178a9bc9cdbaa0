use Rattle.std.proofs.Common.{◌∙◌, rules}
use Rattle.vk_wire.proofs.FourWires.{firsts_are_lasts}
use Rattle.vk_wire.proofs.hashing.hash_lasts.Goals as goal

pub returns-then-not-any_opens_two : goal.returns-then-not-any_opens_two
returns-then-not-any_opens_two c =
    c.requires.firsts ∙ firsts_are_lasts c.args.places.now c.args.shown.now c.args.bit
    (search rules)
