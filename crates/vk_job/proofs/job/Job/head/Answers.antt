use Rattle.vk_job.specs.Published.{head_of}
use Rattle.vk_job.proofs.Held.{has_seal}
use Rattle.vk_job.proofs.Parts.{head_is}
use Rattle.vk_job.proofs.job.Job.head.Goals as goal

pub returns-clause-right : goal.returns-clause-right
unfolding head_of
returns-clause-right c =
    let auction = c.self.inside.auction in
    let proved = c.self.invariant.proved in
    rw (
      c.len.ensures,
      c.winner.ensures,
      c.price_in.ensures,
      ← c.self.view_is,
      c.self.invariant.sale_is,
    ) (head_is auction proved.right (has_seal auction proved))
