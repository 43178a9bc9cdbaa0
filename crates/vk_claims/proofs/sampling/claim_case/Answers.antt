use Rattle.vk_claims.proofs.Cases.{sizes_are}
use Rattle.vk_claims.proofs.sampling.claim_case.Goals as goal

pub case_of-requires : goal.case_of-requires
case_of-requires c = rw (c.sizes_of.ensures) (sizes_are c.args.kind)
