-- The law of two replies that are accepted for different challenges, behind any front: they open
-- values for which the statement's circuit holds; or they give two openings of one commitment.
use Rattle.std.specs.Prelude.{◌≡◌, ◌≢◌, ℕ, ◌+◌, ◌<◌, Bool, true, false, All, List, [], ◌∷◌, ◌++◌, length, map}
use Rattle.std.specs.List.{Contains}
use Rattle.vk_commit.specs.Commitment.{AreTwoOpenings, TwoOpeningsSeen}
use Rattle.vk_lines.specs.Lines.{Rest}
use Rattle.vk_extractor.specs.FirstClash.{IsFirstClash, WireAgrees}
use Rattle.vk_judge.specs.declared.stage.TwoLane.{TwoLane}
use Rattle.vk_judge.specs.Statement.{StatementValue, IsStatement}
use Rattle.vk_judge.specs.Begun.{from_start}
use Rattle.vk_judge.specs.Acceptance.{AcceptsBehind}
use Rattle.vk_judge.specs.TwoValues.{two_lane_behind}
use Rattle.vk_bids.specs.declared.lane_extraction.OpenedLanes.{OpenedLanes}
use Rattle.vk_bids.specs.Extractions.{IsClashOr, IsFound}
use Rattle.vk_bids.specs.Gathering.{lane_shown}
use Rattle.vk_bids.specs.LaneExtraction.{LaneExtraction, lane_extraction_behind}
use Rattle.vk_bids.specs.Opening.{AreShownIn, LaneOpens}

-- ---- lanes by their numbers

-- the numbers of the lanes whose two bits differ, numbered on from the given number
abbrev pub differing : ℕ → List Bool → List Bool → List ℕ
differing number (false ∷ bits) (false ∷ others) = differing (number + 1) bits others
differing number (true ∷ bits) (true ∷ others) = differing (number + 1) bits others
differing number (false ∷ bits) (true ∷ others) = number ∷ differing (number + 1) bits others
differing number (true ∷ bits) (false ∷ others) = number ∷ differing (number + 1) bits others
differing number _ _ = []

-- in the lane of that number each spent entry agrees with the same entry opened whole
abbrev pub AgreesAt : (ℕ → TwoLane) → ℕ → Type 0
AgreesAt at number =
    (wire : ℕ) → wire < length (at number).case.coms
    → WireAgrees (lane_shown false (at number)) (lane_shown true (at number)) wire

-- the values are of just the lanes with these numbers, in order. Those of each lane are opened by
-- what the replies show of it, they open its seals, and are inputs for which the circuit holds. In
-- each of these lanes the spent entries agree
pub record AreOpenedAt (s : StatementValue) (at : ℕ → TwoLane) (those : List ℕ)
    (opened : OpenedLanes) : Type 0 where
  pub statement : opened.statement ≡ s
  pub numbers : map (λ lane. lane.number) opened.lanes ≡ those
  pub shown : All (λ lane. AreShownIn (lane_shown false (at lane.number))
      (lane_shown true (at lane.number)) lane.bids) opened.lanes
  pub opens : All (LaneOpens s) opened.lanes
  pub agree : All (AgreesAt at) those

-- one commitment of the auction with this id is opened with different values: in the first of the
-- lanes with these numbers whose spent entries don't all agree, the first entry that doesn't
pub record IsFirstClashOf (at : ℕ → TwoLane) (numbers id : List ℕ)
    (clash : TwoOpeningsSeen) : Type 0 where
  pub number : ℕ
  pub differs : Contains numbers number
  pub earlier : All (λ lane. lane < number → AgreesAt at lane) numbers
  pub wire : ℕ
  pub first : IsFirstClash (at number).case (lane_shown false (at number))
      (lane_shown true (at number)) wire clash
  pub lane : clash.place.lane ≡ number
  pub auction : clash.place.auction ≡ id
  pub openings : AreTwoOpenings clash.place clash.digest clash.first clash.second

-- ---- behind any front

-- two replies are accepted behind a front with this text, each with its challenge, and the
-- challenges differ
pub record TwoAcceptedBehind (s : StatementValue)
    (front file first_challenge first_reply second_challenge second_reply : List ℕ) : Type 0 where
  pub first : AcceptsBehind s front file first_challenge first_reply
  pub second : AcceptsBehind s front file second_challenge second_reply
  pub differ : first.challenge.bits ≢ second.challenge.bits

module _ {s : StatementValue} {front file challenge reply other second : List ℕ} (two : TwoAcceptedBehind s front file challenge reply other second) where
  -- the numbers of the lanes whose two bits differ, from 1
  abbrev pub differing_behind : List ℕ
  differing_behind = differing 1 two.first.challenge.bits two.second.challenge.bits

  -- what both replies show of the lane of that number
  abbrev pub lane_of : ℕ → TwoLane
  lane_of = two_lane_behind two.first two.second

  -- the values are of just the lanes whose two bits differ
  abbrev pub IsOpened : OpenedLanes → Type 0
  IsOpened = AreOpenedAt s lane_of differing_behind

  -- one commitment of the auction is opened with different values
  abbrev pub IsClashBehind : TwoOpeningsSeen → Type 0
  IsClashBehind clash = IsFirstClashOf lane_of differing_behind s.auction clash

  -- what the replies come to is their values, or a clash of them
  abbrev pub IsOfBehind : LaneExtraction → Type 0
  IsOfBehind = IsClashOr IsClashBehind IsOpened

-- of every statement and every front, where the lines of the file are read on behind it: two
-- replies that are accepted for different challenges give values or a clash
abbrev pub AcceptedBehindOpen : Type 0
AcceptedBehindOpen = (s : StatementValue) → IsStatement s
    → (front file challenge reply other second : List ℕ) (rest : Rest) → file ≡ front ++ rest.left
    → (two : TwoAcceptedBehind s front file challenge reply other second)
    → IsOfBehind two (lane_extraction_behind s rest (from_start challenge) (from_start reply)
    (from_start other) (from_start second))

-- only such replies give them
abbrev pub OnlyAcceptedOpen : Type 0
OnlyAcceptedOpen = (s : StatementValue) → IsStatement s
    → (front file challenge reply other second : List ℕ) (rest : Rest) → file ≡ front ++ rest.left
    → IsFound (lane_extraction_behind s rest (from_start challenge) (from_start reply)
    (from_start other) (from_start second))
    → TwoAcceptedBehind s front file challenge reply other second
