use Rattle.vk_auctioneer.proofs.Counting.{refusal_causes}
use Rattle.vk_auctioneer.proofs.publishing.say_answered.Goals as goal

pub returns-in-Err-clause-causes : goal.returns-in-Err-clause-causes
returns-in-Err-clause-causes g c = λ before after.
    refusal_causes c.args.answer c.in-Err.refusal c.say_refusal.result
    (g.S.Shelf.faults c.args.shelf.now) before after c.in-Err.is c.say_refusal.ensures.causes
