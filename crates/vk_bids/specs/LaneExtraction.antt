-- What two replies come to behind a front: one of them has a fault, the challenges are the same,
-- two openings of one commitment, or the values of the lanes whose bits differ.
use Rattle.std.specs.Prelude.{List, Option}
use Rattle.vk_lines.specs.Lines.{Rest}
use Rattle.vk_judge.specs.declared.answers.Fault.{Fault}
use Rattle.vk_judge.specs.declared.stage.Base.{Base}
use Rattle.vk_judge.specs.Statement.{StatementValue}
use Rattle.vk_judge.specs.Two.{Ahead, ahead_behind, base_behind, base_in}
use Rattle.vk_bids.specs.declared.bids.LaneBids.{LaneBids}
use Rattle.vk_bids.specs.declared.extraction.Extraction.{Extraction}
use Rattle.vk_bids.specs.declared.lane_extraction.OpenedLanes.{OpenedLanes}
use Rattle.vk_bids.specs.Extractions.{comes_to}

abbrev pub LaneExtraction : Type 0
LaneExtraction = Extraction Fault OpenedLanes

-- these values, of this statement's seals
abbrev pub opened_of : StatementValue → List LaneBids → OpenedLanes
opened_of s lanes = record { statement = s; lanes = lanes }

-- after this base these lanes are given, and then this is found
abbrev pub lane_extraction : Option Base → Ahead Fault → LaneExtraction
lane_extraction = comes_to (λ base. base.statement) (λ base. opened_of base.statement)

-- what two replies come to behind a front of which this is the statement, of a file that is read on
-- there, a challenge and the reply to it, and another challenge and reply
abbrev pub lane_extraction_behind : StatementValue → Rest → Rest → Rest → Rest → Rest
    → LaneExtraction
lane_extraction_behind s rest challenge reply other second =
    lane_extraction (base_in (base_behind s rest challenge reply other second))
    (ahead_behind s rest challenge reply other second)
