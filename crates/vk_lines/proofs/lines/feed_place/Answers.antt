use Rattle.vk_lines.proofs.Feeds.{feed_found, feed_nowhere}
use Rattle.vk_lines.proofs.lines.feed_place.Goals as goal

pub returns-in-Some : goal.returns-in-Some
returns-in-Some c = feed_found c.args.bytes.now c.in-Some.feed c.in-Some.ensures

pub returns-in-None : goal.returns-in-None
returns-in-None c = feed_nowhere c.args.bytes.now c.in-None.ensures
