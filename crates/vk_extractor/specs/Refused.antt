-- What it means that a lane gives no values.
use Rattle.std.specs.Prelude.{◌≡◌, List, Option, Some, None}
use Rattle.vk_commit.specs.Commitment.{TwoOpeningsSeen}
use Rattle.vk_wire.specs.declared.wire.Shown.{Shown}
use Rattle.vk_row.specs.declared.case.LaneCase.{LaneCase}
use Rattle.vk_extractor.specs.declared.lane.LaneErr.{LaneErr}
use Rattle.vk_extractor.specs.declared.lane.LaneErr.TheVariants.{Clash, NoMemory}
use Rattle.vk_extractor.specs.Clash.{clash_of_lane}

-- the two openings are the lane's first clash; want of memory says nothing
abbrev pub IsRefusalOf : LaneErr → LaneCase → List Shown → List Shown → Type 0
IsRefusalOf (Clash two) case zero one = clash_of_lane case zero one ≡ Some two
IsRefusalOf NoMemory case zero one = Unit {0}

-- the two openings of a lane that clashes
abbrev pub clash_in : LaneErr → Option TwoOpeningsSeen
clash_in (Clash two) = Some two
clash_in NoMemory = None
