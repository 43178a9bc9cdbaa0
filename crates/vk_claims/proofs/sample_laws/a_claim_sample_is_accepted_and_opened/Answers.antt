use Rattle.vk_claims.proofs.Cases.{case_is}
use Rattle.vk_claims.proofs.Opened.{accepts, has_size, opens}
use Rattle.vk_claims.specs.Claims.{claim_case}
use Rattle.vk_claims.proofs.sample_laws.a_claim_sample_is_accepted_and_opened.Goals as goal

pub returns-clause-size : goal.returns-clause-size
returns-clause-size c kind number numbers proof published made =
    has_size kind (claim_case kind number) (case_is kind number) numbers published proof made

pub returns-clause-accepted : goal.returns-clause-accepted
returns-clause-accepted c kind number numbers proof published made =
    accepts kind (claim_case kind number) (case_is kind number) numbers published proof made

pub returns-clause-opened : goal.returns-clause-opened
returns-clause-opened c kind number numbers proof published made =
    opens kind (claim_case kind number) (case_is kind number) numbers published proof made
