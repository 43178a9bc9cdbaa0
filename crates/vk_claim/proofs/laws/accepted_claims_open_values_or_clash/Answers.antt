use Rattle.vk_bids.proofs.FileHeadline.{only_accepted_open_file}
use Rattle.vk_claim.proofs.Fronts.{is_form}
use Rattle.vk_claim.proofs.Opening.{claim_files_are_extracted, claims_open}
use Rattle.vk_claim.proofs.laws.accepted_claims_open_values_or_clash.Goals as goal

pub returns-clause-given : goal.returns-clause-given
returns-clause-given g c circuits =
    claims_open (g.Q.Circuits.admitted circuits) (g.Q.Circuits.claim circuits)
    (g.met.Q.Circuits.sound circuits) (g.met.Q.Circuits.is_plan circuits)

pub returns-clause-files : goal.returns-clause-files
returns-clause-files g c circuits = claim_files_are_extracted (g.Q.Circuits.admitted circuits)

pub returns-clause-only : goal.returns-clause-only
returns-clause-only g c circuits =
    only_accepted_open_file _
    (is_form (g.Q.Circuits.admitted circuits) (g.met.Q.Circuits.is_plan circuits))
