-- What the tapes of the lanes come from, as it stands in memory.
use Rattle.vk_job.specs.Proofs.{TapeSource, source_with}
use Rattle.vk_job.specs.declared.tapes.Source.{Source}

abbrev pub source_seen : Source → TapeSource
source_seen source = source_with source.id.now source.rows.now source.lanes source.seed.now
    source.further
