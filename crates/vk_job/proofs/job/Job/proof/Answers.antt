use Rattle.std.proofs.Common.{ap, []}
use Rattle.std.specs.Prelude.{unwrap_or}
use Rattle.vk_job.proofs.Held.{job_is_prepared, job_proof_is}
use Rattle.vk_job.proofs.job.Job.proof.Goals as goal

pub of-requires-clause-right : goal.of-requires-clause-right
of-requires-clause-right c =
    let seed = ap (λ kept. unwrap_or kept []) c.seed_in.ensures in
    rw (c.as_slice.ensures, ← seed)
    (job_proof_is c.self.inside.auction c.self.inside.sale c.self.inside.made c.self.invariant)

pub of-requires-clause-prepared : goal.of-requires-clause-prepared
of-requires-clause-prepared c =
    let seed = ap (λ kept. unwrap_or kept []) c.seed_in.ensures in
    rw (c.as_slice.ensures, ← seed)
    (job_is_prepared c.self.inside.auction c.self.inside.sale c.self.inside.made c.self.invariant)
