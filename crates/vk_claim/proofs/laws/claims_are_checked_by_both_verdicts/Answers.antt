use Rattle.vk_judge.proofs.FileForms.{accepted_give, finds_by_both}
use Rattle.vk_bids.proofs.FileHeadline.{extracts_by_finding}
use Rattle.vk_claim.specs.Claims.{claim_at}
use Rattle.vk_claim.proofs.Fronts.{is_form}
use Rattle.vk_claim.proofs.Opening.{claim_files_give}
use Rattle.vk_claim.proofs.laws.claims_are_checked_by_both_verdicts.Goals as goal

pub returns-clause-found : goal.returns-clause-found
returns-clause-found g c circuits = finds_by_both (claim_at (g.Q.Circuits.admitted circuits))

pub returns-clause-extracted : goal.returns-clause-extracted
returns-clause-extracted g c circuits =
    extracts_by_finding _
    (is_form (g.Q.Circuits.admitted circuits) (g.met.Q.Circuits.is_plan circuits))

pub returns-clause-given : goal.returns-clause-given
returns-clause-given g c circuits =
    accepted_give _ (is_form (g.Q.Circuits.admitted circuits) (g.met.Q.Circuits.is_plan circuits))

pub returns-clause-files : goal.returns-clause-files
returns-clause-files g c circuits = claim_files_give (g.Q.Circuits.admitted circuits)
