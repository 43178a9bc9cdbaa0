use Rattle.vk_report.proofs.Refusals.{refused_exactly, unreported_exactly}
use Rattle.vk_report.proofs.laws.a_file_is_refused_for_what_fails_first.Goals as goal

pub returns : goal.returns
returns c = record { bytes = refused_exactly; files = unreported_exactly }
