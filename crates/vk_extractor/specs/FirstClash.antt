-- The first wire of a lane whose spent entry is opened to two values.
use Rattle.std.specs.Prelude.{◌≡◌, ◌≢◌, ◌<◌, ℕ, List, length, slice_index_or}
use Rattle.vk_commit.specs.Commitment.{TwoOpeningsSeen}
use Rattle.vk_commit.specs.declared.place.Place.{Place}
use Rattle.vk_wire.specs.Places.{entry_place}
use Rattle.vk_wire.specs.Reads.{entry_digest}
use Rattle.vk_wire.specs.declared.wire.WireCom.{WireCom}
use Rattle.vk_wire.specs.declared.wire.Shown.{Shown}
use Rattle.vk_wire.specs.declared.wire.Shown.TheVariants.{Whole, Spent}
use Rattle.vk_row.specs.declared.case.LaneCase.{LaneCase}
use Rattle.vk_row.specs.Lanes.{place_in, no_digests, nothing_shown}
use Rattle.vk_extractor.specs.Clash.{entry_opening}

-- the entry that is spent for bit 1 has the value that it has for bit 0, where the pair is opened
-- whole
abbrev pub Agree : Shown → Shown → Type 0
Agree (Whole first second) (Spent of_second opening) = (entry_opening of_second first second).value
    ≡ opening.value
Agree _ _ = Unit {0}

-- the entry that is spent for bit 1 has another value than for bit 0: its place, its digest and
-- both openings, that of bit 0 first
abbrev pub IsClash : Place → WireCom → Shown → Shown → TwoOpeningsSeen → Type 0
IsClash place digests (Whole first second) (Spent of_second opening) two =
    let whole = entry_opening of_second first second in
    (two ≡ record {
      place = entry_place place of_second;
      digest = entry_digest digests of_second;
      first = whole;
      second = opening;
    })
    × (whole.value ≢ opening.value)
IsClash _ _ _ _ _ = ⊥

-- the spent entry of the wire agrees with the same entry opened whole
abbrev pub WireAgrees : List Shown → List Shown → ℕ → Type 0
WireAgrees zero one wire = Agree (slice_index_or zero wire nothing_shown)
    (slice_index_or one wire nothing_shown)

-- the two openings are those of the spent entry of the wire of the lane
abbrev pub WireClashes : LaneCase → List Shown → List Shown → ℕ → TwoOpeningsSeen → Type 0
WireClashes case zero one wire two =
    IsClash (place_in case wire) (slice_index_or case.coms wire no_digests)
    (slice_index_or zero wire nothing_shown) (slice_index_or one wire nothing_shown) two

-- the wire is the first, in order, whose spent entry has another value for bit 1 than for bit 0
pub record IsFirstClash (case : LaneCase) (zero one : List Shown) (wire : ℕ)
    (two : TwoOpeningsSeen) : Type 0 where
  pub within : wire < length case.coms
  pub before : (w : ℕ) → w < wire → WireAgrees zero one w
  pub clash : WireClashes case zero one wire two
