use Rattle.vk_audit.proofs.Binding.{binds_exactly, tells_confrontations}
use Rattle.vk_audit.proofs.Extracting.{extracts_exactly, tells_extractions, tells_same_exactly}
use Rattle.vk_audit.proofs.Reporting.{reports_exactly, tells_reports}
use Rattle.vk_audit.proofs.Verifying.{tells_verdicts, verifies_exactly}
use Rattle.vk_audit.proofs.laws.statuses_mean_what_the_files_are.Goals as goal

pub returns : goal.returns
returns c =
    assumption (
      verifies_exactly,
      extracts_exactly,
      tells_same_exactly,
      binds_exactly,
      reports_exactly,
      tells_verdicts,
      tells_extractions,
      tells_confrontations,
      tells_reports,
    )
