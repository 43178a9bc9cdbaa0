use Rattle.std.proofs.Common.{◌≡◌, ◌≤◌, ◌+◌, ◌-◌, length}
use Rattle.std.specs.Prelude.{vec_capacity}
use Rattle.vk_range.specs.Sets.{listed}
use Rattle.vk_job.specs.Proofs.{first_dry_from, first_dry_in, tape_at}
use Rattle.vk_job.specs.Sources.{source_seen}
use Rattle.vk_job.proofs.tapes.draw_lanes.Given as goal

-- the tapes so far, with room for all, and what is dry in the lanes left is what is dry in all
abbrev pub invariant-loop-before : goal.invariant-loop-before
invariant-loop-before l =
    let source = source_seen l.source in
    record {
      tapes : l.tapes.items ≡ listed (tape_at source) l.before;
      count : length l.tapes.items ≡ l.before;
      room : source.lanes ≤ vec_capacity l.tapes;
      dry : first_dry_from source (l.before + 1) (source.lanes - l.before) ≡ first_dry_in source;
    }
