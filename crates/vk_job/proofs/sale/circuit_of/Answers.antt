use Rattle.vk_job.proofs.Held.{case_of}
use Rattle.vk_job.proofs.sale.circuit_of.Goals as goal

pub unwrap-circuit-requires : goal.unwrap-circuit-requires
unwrap-circuit-requires c =
    c.of.ensures.admitted.1 (case_of c.args.auction.now c.len-seals.result c.args.sale
    c.requires.right c.requires.sealed c.len-seals.ensures c.requires.sale)
