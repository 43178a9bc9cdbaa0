use Rattle.std.proofs.Common.{◌≡◌, ◌+◌, ◌-◌}
use Rattle.vk_job.specs.Proofs.{first_dry_from, first_dry_in}
use Rattle.vk_job.specs.Sources.{source_seen}
use Rattle.vk_job.proofs.tapes.check_tapes.Given as goal

-- what is dry in the lanes left is what is dry in all
abbrev pub invariant-loop-before : goal.invariant-loop-before
invariant-loop-before l =
    let source = source_seen l.source in
    first_dry_from source (l.before + 1) (source.lanes - l.before) ≡ first_dry_in source
