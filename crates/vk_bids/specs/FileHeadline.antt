-- The law of two replies to a file of any form that are accepted for different challenges: they
-- open values for which its circuit holds, or give two openings of one commitment.
use Rattle.std.specs.Prelude.{◌≡◌, ◌≢◌, ◌↔◌, ℕ, Bool, true, false, List, Err}
use Rattle.vk_commit.specs.Commitment.{TwoOpeningsSeen}
use Rattle.vk_wire.specs.declared.wire.Shown.{Shown}
use Rattle.vk_judge.specs.declared.opened.Refusal.{Refusal}
use Rattle.vk_judge.specs.FileForms.{Accepts, Form, Fronts, JudgedHolds, bits_of, told_of_second, two_lane_in}
use Rattle.vk_judge.specs.Opened.{coming_in}
use Rattle.vk_bids.specs.declared.extraction.Extraction.TheVariants.{Refused, Same, Clash, Bids}
use Rattle.vk_bids.specs.declared.file_extraction.OpenedFile.{OpenedFile}
use Rattle.vk_bids.specs.declared.lane_extraction.OpenedLanes.{OpenedLanes}
use Rattle.vk_bids.specs.Extractions.{IsClashOr, IsFound}
use Rattle.vk_bids.specs.FileExtraction.{FileExtraction, IsFoundBy, file_extraction_in}
use Rattle.vk_bids.specs.Gathering.{lane_shown}
use Rattle.vk_bids.specs.OpenedBehind.{AgreesAt, AreOpenedAt, IsFirstClashOf, differing}

-- two replies are accepted with one file, each with its challenge, and the challenges differ
pub record TwoAccepted {F : Type 0} (fronts : Fronts F)
    (file first_challenge first_reply second_challenge second_reply : List ℕ) : Type 0 where
  pub first : Accepts fronts file first_challenge first_reply
  pub second : Accepts fronts file second_challenge second_reply
  pub differ : bits_of first ≢ bits_of second

-- two replies are accepted, and the challenges are the same
pub record SameAccepted {F : Type 0} (fronts : Fronts F)
    (file first_challenge first_reply second_challenge second_reply : List ℕ) : Type 0 where
  pub first : Accepts fronts file first_challenge first_reply
  pub second : Accepts fronts file second_challenge second_reply
  pub same : bits_of first ≡ bits_of second

module _ {F : Type 0} {fronts : Fronts F} {file challenge reply other second : List ℕ} (two : TwoAccepted fronts file challenge reply other second) where
  -- the numbers of the lanes whose two bits differ, from 1
  abbrev pub differing_in : List ℕ
  differing_in = differing 1 (bits_of two.first) (bits_of two.second)

  -- what the reply whose bit for the lane of that number is this one shows of the lane
  abbrev pub shown_of : Bool → ℕ → List Shown
  shown_of bit number = lane_shown bit (two_lane_in two.first two.second number)

  -- in the lane of that number each spent entry agrees with the same entry opened whole
  abbrev pub LaneAgrees : ℕ → Type 0
  LaneAgrees = AgreesAt (two_lane_in two.first two.second)

  -- the values are of just the lanes whose two bits differ
  abbrev pub IsOpenedBy : OpenedLanes → Type 0
  IsOpenedBy =
      AreOpenedAt (fronts.statement two.first.front) (two_lane_in two.first two.second) differing_in

  -- one commitment of the file is opened with different values
  abbrev pub IsClashOf : TwoOpeningsSeen → Type 0
  IsClashOf clash =
      IsFirstClashOf (two_lane_in two.first two.second) differing_in
      (fronts.statement two.first.front).auction clash

-- the values are those of the replies, and the head that of the file
pub record IsOpenedFile {F H R : Type 0} (form : Form F H R)
    {file challenge reply other second : List ℕ}
    (two : TwoAccepted form.fronts file challenge reply other second)
    (found : OpenedFile H) : Type 0 where
  pub head : found.head ≡ form.head two.first.front
  pub opened : IsOpenedBy two found.opened

-- what the replies come to is their values, or a clash of them
abbrev pub IsOfFile : {F H R : Type 0} (form : Form F H R)
    {file challenge reply other second : List ℕ}
    → TwoAccepted form.fronts file challenge reply other second → FileExtraction H R → Type 0
IsOfFile form two = IsClashOr (IsClashOf two) (IsOpenedFile form two)

-- two replies that are accepted for different challenges give values or a clash
abbrev pub AcceptedOpen : {F H R : Type 0} → Form F H R → Type 0
AcceptedOpen form = (file challenge reply other second : List ℕ)
    (two : TwoAccepted form.fronts file challenge reply other second)
    → IsOfFile form two (file_extraction_in form.front_at file challenge reply other second)

-- only such replies do
abbrev pub OnlyAcceptedOpenFile : {F H R : Type 0} → Form F H R → Type 0
OnlyAcceptedOpenFile form = (file challenge reply other second : List ℕ)
    → IsFound (file_extraction_in form.front_at file challenge reply other second)
    → TwoAccepted form.fronts file challenge reply other second

-- challenges are found to be the same exactly where both replies are accepted and they are
abbrev pub SameIsFoundOfFile : {F H R : Type 0} → Form F H R → Type 0
SameIsFoundOfFile form = (file challenge reply other second : List ℕ)
    → (file_extraction_in form.front_at file challenge reply other second ≡ Same)
    ↔ SameAccepted form.fronts file challenge reply other second

-- what the extraction comes to is what is found
abbrev pub ExtractsByFinding : {F H R : Type 0} → Form F H R → Type 0
ExtractsByFinding form = (file challenge reply other second : List ℕ)
    → IsFoundBy (λ refusal. refusal)
    (coming_in form.front_at file challenge reply other second).ahead.finding
    (file_extraction_in form.front_at file challenge reply other second)

-- ---- by the bytes of the files

-- the second reply is refused, and its refusal names the second challenge or reply
pub record SecondRefused {F H R : Type 0} (form : Form F H R) (refusal : Refusal R)
    (file challenge reply : List ℕ) : Type 0 where
  pub fault : Refusal R
  pub holds : JudgedHolds form (Err fault) file challenge reply
  pub refusal_is : refusal ≡ told_of_second fault

-- the first reply is refused; or it is accepted, and the second is refused; or both are accepted,
-- and the challenges are the same, one commitment is opened with two values, or there are values
abbrev pub ExtractionHoldsOf : {F H R : Type 0} → Form F H R → FileExtraction H R → List ℕ → List ℕ
    → List ℕ → List ℕ → List ℕ → Type 0
ExtractionHoldsOf form (Refused false refusal) file challenge reply other second =
    JudgedHolds form (Err refusal) file challenge reply
ExtractionHoldsOf form (Refused true refusal) file challenge reply other second =
    Accepts form.fronts file challenge reply × SecondRefused form refusal file other second
ExtractionHoldsOf form Same file challenge reply other second =
    SameAccepted form.fronts file challenge reply other second
ExtractionHoldsOf form (Clash clash) file challenge reply other second =
    (two : TwoAccepted form.fronts file challenge reply other second) × IsClashOf two clash
ExtractionHoldsOf form (Bids found) file challenge reply other second =
    (two : TwoAccepted form.fronts file challenge reply other second) × IsOpenedFile form two found
