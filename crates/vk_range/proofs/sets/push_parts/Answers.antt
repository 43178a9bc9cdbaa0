use Rattle.std.proofs.Common.{rules}
use Rattle.vk_range.specs.Sets.{bit_part}
use Rattle.vk_range.specs.SetLaws.{listed_push}
use Rattle.vk_range.proofs.sets.push_parts.Goals as goal

pub loop-i-preserved : goal.loop-i-preserved
loop-i-preserved c =
    listed_push (bit_part c.args.number) c.args.values.now.items c.loop-i.values.items
    c.push_or_cut.new.values.items c.part.result c.loop-i.i
    (search rules) c.loop-i.invariant c.part.ensures
