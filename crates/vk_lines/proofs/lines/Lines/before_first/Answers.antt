use Rattle.std.proofs.Common.{arith, refl}
use Rattle.vk_lines.proofs.Feeds.{starts_is}
use Rattle.vk_lines.proofs.lines.Lines.before_first.Goals as goal

pub returns-clause-started : goal.returns-clause-started
returns-clause-started c files same =
    starts_is files c.args.name.now _ c.args.told c.in_ok-size.size same
    c.in_ok-size.ensures.ok_part (omega arith)
    c.in_ok-name.ensures.ok refl refl refl c.new.ensures.ahead
