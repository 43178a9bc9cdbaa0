-- What is gathered of the lanes that two replies give: their bids, or the first two openings of one
-- commitment.
use Rattle.std.specs.Prelude.{◌≡◌, ℕ, ◌+◌, ◌≤◌, Bool, true, false, List, [], ◌∷◌, ◌++◌, Option, Some, None, Result, Ok, Err}
use Rattle.std.specs.Option.{option_to_list}
use Rattle.vk_residue.specs.Steps.{◌>>=◌}
use Rattle.vk_commit.specs.Commitment.{TwoOpeningsSeen}
use Rattle.vk_wire.specs.declared.wire.Shown.{Shown}
use Rattle.vk_row.specs.declared.case.LaneCase.{LaneCase}
use Rattle.vk_board.specs.Reading.{seats_of}
use Rattle.vk_extractor.specs.Clash.{clash_of_lane}
use Rattle.vk_extractor.specs.declared.lane.LaneErr.{LaneErr}
use Rattle.vk_extractor.specs.declared.lane.LaneErr.TheVariants.{Clash, NoMemory}
use Rattle.vk_judge.specs.declared.stage.TwoLane.{TwoLane}
use Rattle.vk_judge.specs.Statement.{StatementValue}
use Rattle.vk_judge.specs.Opened.{Checked, FileBase, checked_base, checked_given}
use Rattle.vk_judge.specs.Two.{IsTwoLane}
use Rattle.vk_bids.specs.declared.bids.LaneBids.{LaneBids}
use Rattle.vk_bids.specs.Bids.{opened_bids}

-- the bids of the lane of that number, or its first clash
abbrev pub bids_by : StatementValue → ℕ → List Shown → List Shown → Option TwoOpeningsSeen
    → Result (Option LaneBids) TwoOpeningsSeen
bids_by s number zero one (Some two) = Err two
bids_by s number zero one None =
    Ok (Some (record { number = number; bids = opened_bids (seats_of s.seals) zero one }))

-- what is shown for bit 0 comes first
abbrev pub bids_of : StatementValue → ℕ → LaneCase → List Shown → List Shown
    → Result (Option LaneBids) TwoOpeningsSeen
bids_of s number case zero one = bids_by s number zero one (clash_of_lane case zero one)

-- of a lane whose bits are these: nothing where they are the same
abbrev pub lane_by : Bool → Bool → StatementValue → ℕ → LaneCase → List Shown → List Shown
    → Result (Option LaneBids) TwoOpeningsSeen
lane_by false true s number case first second = bids_of s number case first second
lane_by true false s number case first second = bids_of s number case second first
lane_by false false s number case first second = Ok None
lane_by true true s number case first second = Ok None

-- the lane of that number
abbrev pub lane_found : StatementValue → ℕ → TwoLane → Result (Option LaneBids) TwoOpeningsSeen
lane_found s number lane = lane_by lane.first_bit lane.second_bit s number lane.case lane.first
    lane.second

-- what is shown for that bit, of a reply for the first bit and one for another
abbrev pub shown_for : Bool → Bool → List Shown → List Shown → List Shown
shown_for false false first second = first
shown_for false true first second = second
shown_for true true first second = first
shown_for true false first second = second

-- what two replies whose bits for it differ show of the lane for that bit
abbrev pub lane_shown : Bool → TwoLane → List Shown
lane_shown bit lane = shown_for bit lane.first_bit lane.first lane.second

-- with what the lane of that number gives after what was gathered before it
abbrev pub added : StatementValue → ℕ → TwoLane → Result (List LaneBids) TwoOpeningsSeen
    → Result (List LaneBids) TwoOpeningsSeen
added s number lane state = do
  before ← state
  found ← lane_found s number lane
  Ok (before ++ option_to_list found)

-- lanes one after another, the first of them with that number, after what was gathered before them
unfoldable pub gathered_from : StatementValue → Result (List LaneBids) TwoOpeningsSeen → ℕ
    → List TwoLane
    → Result (List LaneBids) TwoOpeningsSeen
gathered_from s state number [] = state
gathered_from s state number (lane ∷ lanes) =
    gathered_from s (added s number lane state) (number + 1) lanes

-- a clash that is answered is what is given; want of memory says nothing
abbrev pub IsClashOf : {X : Type 0} → LaneErr → Result X TwoOpeningsSeen → Type 0
IsClashOf (Clash two) given = given ≡ Err two
IsClashOf NoMemory given = Unit {0}

-- the lane is the last that was given
pub record IsLastLane {H R : Type 0} (files : Checked H R) (lane : TwoLane) : Type 0 where
  pub known : FileBase H
  pub is : checked_base files ≡ Some known
  pub some : 1 ≤ checked_given files
  pub within : checked_given files ≤ known.base.statement.lanes
  pub checked : IsTwoLane known.base.statement (checked_given files) lane
