use Rattle.vk_job.specs.Proofs.{source_of}
use Rattle.vk_job.specs.Jobs.{proof_with}
use Rattle.vk_job.proofs.Dry.{dry_is_first, none_where_all}
use Rattle.vk_job.proofs.laws.dry_wires_are_first.Goals as goal

pub returns-clause-first : goal.returns-clause-first
returns-clause-first c = dry_is_first

pub returns-clause-none : goal.returns-clause-none
returns-clause-none c = none_where_all

pub returns-clause-in_auction : goal.returns-clause-in_auction
returns-clause-in_auction c auction seed = dry_is_first (source_of (proof_with auction seed))
