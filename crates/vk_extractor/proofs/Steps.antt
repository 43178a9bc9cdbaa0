-- One wire of the search for a clash.
use Rattle.std.proofs.Common.{◌≡◌, ℕ, ◌+◌, ◌<◌, List, length, drop, slice_index_or, add-one}
use Rattle.std.proofs.Math.Seq.{drop-cons}
use Rattle.vk_wire.specs.declared.wire.WireCom.{WireCom}
use Rattle.vk_wire.specs.declared.wire.Shown.{Shown}
use Rattle.vk_row.specs.declared.case.LaneCase.{LaneCase}
use Rattle.vk_row.specs.Lanes.{no_digests, nothing_shown}
use Rattle.vk_extractor.specs.Clash.{clash_at, clash_from, or_else}

-- the wire that comes next
pub clash_from_step : (case : LaneCase) (coms : List WireCom) (zero one : List Shown) (w : ℕ)
    → w < length coms → w < length zero → w < length one
    → clash_from case w (drop w coms) (drop w zero) (drop w one)
    ≡ or_else (clash_at case w (slice_index_or coms w no_digests)
    (slice_index_or zero w nothing_shown) (slice_index_or one w nothing_shown))
    (clash_from case (w + 1) (drop (w + 1) coms) (drop (w + 1) zero) (drop (w + 1) one))
unfolding clash_from
clash_from_step case coms zero one w in_coms in_zero in_one =
    rw (
      drop-cons coms w no_digests in_coms,
      drop-cons zero w nothing_shown in_zero,
      drop-cons one w nothing_shown in_one,
      add-one,
    )
