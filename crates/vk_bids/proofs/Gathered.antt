-- What is gathered of lanes that two accepted replies show are values for which the statement's
-- circuit holds, or a clash.
use Rattle.std.proofs.Common.{◌≡◌, ℕ, ◌+◌, ◌<◌, ◌≤◌, Bool, true, false, if◌then◌else◌, nat_lt, All, List, [], ◌∷◌, ◌++◌, length, map, Option, Some, None, Result, Ok, Err, refl, sym, ap, subst, ◌∙◌, arith, append_assoc, append-nil}
use Rattle.std.specs.Option.{option_to_list}
use Rattle.std.specs.List.{Contains}
use Rattle.std.proofs.lemmas.List.{map-append}
use Rattle.std.proofs.lemmas.List.Elements.{All-nil, All-cons, All-append, All-weaker, Contains-get_or, Contains-append_right}
use Rattle.vk_residue.specs.Steps.{◌>>=◌}
use Rattle.vk_commit.specs.Commitment.{TwoOpeningsSeen}
use Rattle.vk_commit.specs.declared.place.Place.{Place}
use Rattle.vk_plan.specs.Plans.{PlanValue}
use Rattle.vk_wire.specs.Places.{place_of_wire, entry_place}
use Rattle.vk_wire.specs.declared.wire.Shown.{Shown}
use Rattle.vk_row.specs.declared.case.LaneCase.{LaneCase}
use Rattle.vk_row.specs.Lanes.{IsAccepted, place_in}
use Rattle.vk_board.specs.Reading.{seats_of}
use Rattle.vk_extractor.specs.Clash.{clash_of_lane}
use Rattle.vk_extractor.specs.Laws.{AreOfLane}
use Rattle.vk_extractor.proofs.Clashes.{clash_opens}
use Rattle.vk_judge.specs.declared.stage.TwoLane.{TwoLane}
use Rattle.vk_judge.specs.Statement.{StatementValue, IsStatement}
use Rattle.vk_bids.specs.declared.bids.LaneBids.{LaneBids}
use Rattle.vk_bids.specs.Bids.{opened_bids}
use Rattle.vk_bids.specs.Gathering.{bids_by, lane_by, lane_found, shown_for, lane_shown, added, gathered_from}
use Rattle.vk_bids.specs.Headline.{differing}
use Rattle.vk_bids.specs.Opening.{IsCaseOf, AreShownIn, LaneOpens}
use Rattle.vk_bids.proofs.Showing.{case_gives}

abbrev pub number_of : LaneBids → ℕ
number_of lane = lane.number

-- what is shown of the lane, for bit 0 and for bit 1, opens the bids
abbrev pub IsShown : (ℕ → TwoLane) → LaneBids → Type 0
IsShown at bids = AreShownIn (lane_shown false (at bids.number)) (lane_shown true (at bids.number))
    bids.bids

-- what the lane has: the openings of its first clash, if any
abbrev pub clash_of : TwoLane → Option TwoOpeningsSeen
clash_of lane = clash_of_lane lane.case (lane_shown false lane) (lane_shown true lane)

abbrev pub Agrees : (ℕ → TwoLane) → ℕ → Type 0
Agrees at number = clash_of (at number) ≡ None

-- two openings of a commitment of this lane, which has that number
pub record ClashesAt (s : StatementValue) (number : ℕ) (case : LaneCase)
    (two : TwoOpeningsSeen) : Type 0 where
  pub lane : two.place.lane ≡ number
  pub auction : two.place.auction ≡ s.auction
  pub of_lane : AreOfLane s.plan case two

-- the first clash of one of the lanes with these numbers; those before it have none
pub record ClashesIn (s : StatementValue) (at : ℕ → TwoLane) (numbers : List ℕ)
    (two : TwoOpeningsSeen) : Type 0 where
  pub number : ℕ
  pub within : Contains numbers number
  pub earlier : All (λ n. n < number → Agrees at n) numbers
  pub clash : ClashesAt s number (at number).case two
  pub found : clash_of (at number) ≡ Some two

-- bids of just the lanes with these numbers were added, and none of these has a clash
pub record AddsBids (s : StatementValue) (at : ℕ → TwoLane) (before : List LaneBids)
    (numbers : List ℕ) (all : List LaneBids) : Type 0 where
  pub more : List LaneBids
  pub are : all ≡ before ++ more
  pub numbered : map number_of more ≡ numbers
  pub shown : All (IsShown at) more
  pub each : All (LaneOpens s) more
  pub agree : All (Agrees at) numbers

-- bids were added, or there is a clash in one of the lanes
abbrev pub AddsLanes : StatementValue → (ℕ → TwoLane) → List LaneBids → List ℕ
    → Result (List LaneBids) TwoOpeningsSeen
    → Type 0
AddsLanes s at before numbers (Ok all) = AddsBids s at before numbers all
AddsLanes s at before numbers (Err two) = ClashesIn s at numbers two

-- the lane is that of the number, and what both replies show of it is accepted
pub record IsLane (s : StatementValue) (number : ℕ) (lane : TwoLane) : Type 0 where
  pub case : IsCaseOf s number lane.case
  pub first : IsAccepted s.plan lane.case lane.first_bit lane.first
  pub second : IsAccepted s.plan lane.case lane.second_bit lane.second

-- the number of a lane whose bits these are, where they differ
abbrev pub number_here : ℕ → Bool → Bool → List ℕ
number_here number false false = []
number_here number true true = []
number_here number false true = number ∷ []
number_here number true false = number ∷ []

pub differing_first : (number : ℕ) (first_bit second_bit : Bool) (first second : List Bool)
    → differing number (first_bit ∷ first) (second_bit ∷ second)
    ≡ number_here number first_bit second_bit ++ differing (number + 1) first second
differing_first number false false first second = refl
differing_first number true true first second = refl
differing_first number false true first second = refl
differing_first number true false first second = refl

-- what holds of each number from that one on, as far as the bits go, holds of these lanes
pub each_differing : (P : ℕ → Type 0) (number : ℕ) (first second : List Bool)
    → ((n : ℕ) → number ≤ n → n < number + length first → P n)
    → All P (differing number first second)
each_differing P number [] second each = All-nil P
each_differing P number (false ∷ first) [] each = All-nil P
each_differing P number (true ∷ first) [] each = All-nil P
each_differing P number (first_bit ∷ first) (second_bit ∷ second) each =
    subst (All P) (sym (differing_first number first_bit second_bit first second))
    (All-append P (number_here number first_bit second_bit) (differing (number + 1) first second)
    (all_here first_bit second_bit (each number (omega arith) (omega arith)))
    (each_differing P (number + 1) first second
    (λ n from below. each n (omega (arith, from)) (omega (arith, below)))))
  where
    all_here : (first_bit second_bit : Bool) → P number
        → All P (number_here number first_bit second_bit)
    all_here false false is = All-nil P
    all_here true true is = All-nil P
    all_here false true is = All-cons P number [] is (All-nil P)
    all_here true false is = All-cons P number [] is (All-nil P)

-- ---- where a clash stands

either_place : (test : Bool) (one other : Place) (lane : ℕ) (auction : List ℕ)
    → (one.lane ≡ lane) × (one.auction ≡ auction) → (other.lane ≡ lane) × (other.auction ≡ auction)
    → ((if test then one else other).lane ≡ lane)
    × ((if test then one else other).auction ≡ auction)
either_place true one other lane auction here there = here
either_place false one other lane auction here there = there

wire_in : (auction : List ℕ) (lane : ℕ) (seats : List ℕ) (wire : ℕ)
    → ((place_of_wire auction lane seats wire).lane ≡ lane)
    × ((place_of_wire auction lane seats wire).auction ≡ auction)
wire_in auction lane seats wire =
    either_place (nat_lt wire (length seats)) _ _ lane auction (refl, refl) (refl, refl)

entry_in : (place : Place) (second : Bool) → ((entry_place place second).lane ≡ place.lane)
    × ((entry_place place second).auction ≡ place.auction)
entry_in place false = (refl, refl)
entry_in place true = (refl, refl)

clashes_in : (s : StatementValue) (number : ℕ) (case : LaneCase) (two : TwoOpeningsSeen)
    → IsCaseOf s number case
    → AreOfLane s.plan case two → ClashesAt s number case two
clashes_in s number case two of_lane are =
    let entry = entry_in (place_in case are.wire) are.second in
    let wire = wire_in case.auction case.lane case.seats are.wire in
    record {
      lane = ap (λ (p : Place). p.lane) are.place
          ∙ (entry.0 ∙ (wire.0 ∙ ap (λ (c : LaneCase). c.lane) of_lane.1));
      auction = ap (λ (p : Place). p.auction) are.place
          ∙ (entry.1 ∙ (wire.1 ∙ ap (λ (c : LaneCase). c.auction) of_lane.1));
      of_lane = are;
    }

-- ---- one lane

-- what is shown of a lane, with that number, for bit 0 and for bit 1, gives the bids that it opens
abbrev IsOfLane : ℕ → List Shown → List Shown → LaneBids → Type 0
IsOfLane number zero one bids = (number ≡ bids.number) × AreShownIn zero one bids.bids

-- what a lane gives, of which these are shown for bit 0 and for bit 1
record GivesBids (s : StatementValue) (case : LaneCase) (number : ℕ) (zero one : List Shown)
    (numbers : List ℕ) (found : List LaneBids) : Type 0 where
  numbered : map number_of found ≡ numbers
  shown : All (IsOfLane number zero one) found
  each : All (LaneOpens s) found
  agree : All (λ n. (n ≡ number) × (clash_of_lane case zero one ≡ None)) numbers

record GivesClash (s : StatementValue) (case : LaneCase) (number : ℕ) (zero one : List Shown)
    (numbers : List ℕ) (two : TwoOpeningsSeen) : Type 0 where
  only : numbers ≡ number ∷ []
  clash : ClashesAt s number case two
  found : clash_of_lane case zero one ≡ Some two

abbrev GivesLane : StatementValue → LaneCase → ℕ → List Shown → List Shown → List ℕ
    → Result (Option LaneBids) TwoOpeningsSeen → Type 0
GivesLane s case number zero one numbers (Ok found) =
    GivesBids s case number zero one numbers (option_to_list found)
GivesLane s case number zero one numbers (Err two) = GivesClash s case number zero one numbers two

nothing_given : (s : StatementValue) (case : LaneCase) (number : ℕ) (zero one : List Shown)
    → GivesBids s case number zero one [] []
nothing_given s case number zero one = record {
  numbered = refl;
  shown = All-nil (IsOfLane number zero one);
  each = All-nil (LaneOpens s);
  agree = All-nil (λ n. (n ≡ number) × (clash_of_lane case zero one ≡ None));
}

module _ (s : StatementValue) (number : ℕ) (case : LaneCase) (is : IsStatement s) (some : 1 ≤ number) (last : number ≤ s.lanes) (of_lane : IsCaseOf s number case) where
  by_clash : (zero one : List Shown) → IsAccepted s.plan case false zero
      → IsAccepted s.plan case true one
      → (clash : Option TwoOpeningsSeen) → clash_of_lane case zero one ≡ clash
      → GivesLane s case number zero one (number ∷ []) (bids_by s number zero one clash)
  by_clash zero one first second None none =
      let bids : LaneBids = record {
        number = number;
        bids = opened_bids (seats_of s.seals) zero one;
      } in
      let gives = case_gives s number case zero one is some last of_lane first second in
      let P : ℕ → Type 0 = λ n. (n ≡ number) × (clash_of_lane case zero one ≡ None) in
      record {
        numbered = refl;
        shown = All-cons (IsOfLane number zero one) bids [] (refl, gives.1)
            (All-nil (IsOfLane number zero one));
        each = All-cons (LaneOpens s) bids [] (gives.0 none) (All-nil (LaneOpens s));
        agree = All-cons P number [] (refl, none) (All-nil P);
      }
  by_clash zero one first second (Some two) found = record {
    only = refl;
    clash = clashes_in s number case two of_lane
        (clash_opens s.plan case zero one first.0 second.0 two first.1 second.1 found);
    found = found;
  }

  by_bits : (first_bit second_bit : Bool) (first second : List Shown)
      → IsAccepted s.plan case first_bit first
      → IsAccepted s.plan case second_bit second
      → GivesLane s case number (shown_for false first_bit first second)
      (shown_for true first_bit first second) (number_here number first_bit second_bit)
      (lane_by first_bit second_bit s number case first second)
  by_bits false false first second one other = nothing_given s case number first second
  by_bits true true first second one other = nothing_given s case number second first
  by_bits false true first second one other =
      by_clash first second one other (clash_of_lane case first second) refl
  by_bits true false first second one other =
      by_clash second first other one (clash_of_lane case second first) refl

-- what is shown of a lane that is given is accepted for the bit that it has
pub accepted_for : (plan : PlanValue) (case : LaneCase) (bit wanted : Bool)
    (shown passed : List Shown) → IsAccepted plan case bit shown → bit ≡ wanted → passed ≡ shown
    → IsAccepted plan case wanted passed
accepted_for plan case bit wanted shown passed accepted is_wanted is_passed =
    let P : Bool → Type 0 = λ b. IsAccepted plan case b shown in
    let Q : List Shown → Type 0 = λ s. IsAccepted plan case wanted s in
    subst Q (sym is_passed) (subst P is_wanted accepted)

-- ---- one lane after another

-- a clash that was found stays
stays : (s : StatementValue) (two : TwoOpeningsSeen) (number : ℕ) (lanes : List TwoLane)
    → gathered_from s (Err two) number lanes ≡ Err two
unfolding gathered_from
stays s two number [] = refl
stays s two number (lane ∷ lanes) = stays s two (number + 1) lanes

module _ (s : StatementValue) (at : ℕ → TwoLane) where
  -- of the lane of that number
  abbrev LaneGives : ℕ → List ℕ → Result (Option LaneBids) TwoOpeningsSeen → Type 0
  LaneGives number numbers found =
      GivesLane s (at number).case number (lane_shown false (at number))
      (lane_shown true (at number)) numbers found

  lane_gives : (number : ℕ) → IsStatement s → 1 ≤ number → number ≤ s.lanes
      → IsLane s number (at number)
      → LaneGives number (number_here number (at number).first_bit (at number).second_bit)
      (lane_found s number (at number))
  lane_gives number is some last right =
      by_bits s number (at number).case is some last right.case (at number).first_bit
      (at number).second_bit (at number).first (at number).second right.first right.second

  here_shown : (number : ℕ) (bids : LaneBids)
      → IsOfLane number (lane_shown false (at number)) (lane_shown true (at number)) bids
      → IsShown at bids
  here_shown number bids is =
      let P : ℕ → Type 0 = λ n. AreShownIn (lane_shown false (at n)) (lane_shown true (at n))
      bids.bids in
      subst P is.0 is.1

  here_agrees : (number n : ℕ) → (n ≡ number) × (clash_of (at number) ≡ None) → Agrees at n
  here_agrees number n is = subst (Agrees at) (sym is.0) is.1

  adds_more : (number : ℕ) (before here : List LaneBids) (numbers later : List ℕ)
      (all : Result (List LaneBids) TwoOpeningsSeen)
      → GivesBids s (at number).case number (lane_shown false (at number))
      (lane_shown true (at number)) numbers here
      → AddsLanes s at (before ++ here) later all
      → AddsLanes s at before (numbers ++ later) all
  adds_more number before here numbers later (Ok all) gives adds = record {
    more = here ++ adds.more;
    are = adds.are ∙ append_assoc before here adds.more;
    numbered = map-append number_of here adds.more
        ∙ (ap (λ ns. ns ++ map number_of adds.more) gives.numbered
        ∙ ap (λ ns. numbers ++ ns) adds.numbered);
    shown = All-append (IsShown at) here adds.more
        (All-weaker (IsOfLane number (lane_shown false (at number)) (lane_shown true (at number)))
        (IsShown at) (here_shown number) here gives.shown) adds.shown;
    each = All-append (LaneOpens s) here adds.more gives.each adds.each;
    agree = All-append (Agrees at) numbers later
        (All-weaker (λ n. (n ≡ number) × (clash_of (at number) ≡ None)) (Agrees at)
        (here_agrees number) numbers gives.agree) adds.agree;
  }
  adds_more number before here numbers later (Err two) gives adds =
      let P : ℕ → Type 0 = λ n. n < adds.number → Agrees at n in
      record {
        number = adds.number;
        within = Contains-append_right numbers later adds.number adds.within;
        earlier = All-append P numbers later
            (All-weaker (λ n. (n ≡ number) × (clash_of (at number) ≡ None)) P
            (λ n is lt. here_agrees number n is) numbers gives.agree) adds.earlier;
        clash = adds.clash;
        found = adds.found;
      }

  -- the clash of the lane of that number comes before those of later ones
  clash_here : (number : ℕ) (later : List ℕ) (two : TwoOpeningsSeen)
      → All (λ n. number + 1 ≤ n) later
      → ClashesAt s number (at number).case two → clash_of (at number) ≡ Some two
      → ClashesIn s at (number ∷ later) two
  clash_here number later two after clash found =
      let P : ℕ → Type 0 = λ n. n < number → Agrees at n in
      record {
        number = number;
        within = Contains-get_or (number ∷ later) 0 number (omega arith);
        earlier = All-cons P number later (λ lt. absurd (omega (arith, lt)))
            (All-weaker (λ n. number + 1 ≤ n) P (λ n le lt. absurd (omega (arith, le, lt))) later
            after);
        clash = clash;
        found = found;
      }

  next_adds : (number : ℕ) (numbers later : List ℕ) (before : List LaneBids) (lanes : List TwoLane)
      (found : Result (Option LaneBids) TwoOpeningsSeen)
      → LaneGives number numbers found → All (λ n. number + 1 ≤ n) later
      → ((before : List LaneBids)
      → AddsLanes s at before later (gathered_from s (Ok before) (number + 1) lanes))
      → AddsLanes s at before (numbers ++ later)
      (gathered_from s (found >>= λ f. Ok (before ++ option_to_list f)) (number + 1) lanes)
  next_adds number numbers later before lanes (Ok found) gives after rest =
      adds_more number before (option_to_list found) numbers later
      (gathered_from s (Ok (before ++ option_to_list found)) (number + 1) lanes) gives
      (rest (before ++ option_to_list found))
  next_adds number numbers later before lanes (Err two) gives after rest =
      let P : Result (List LaneBids) TwoOpeningsSeen
      → Type 0 = λ all. AddsLanes s at before (numbers ++ later) all in
      let Q : List ℕ → Type 0 = λ here. ClashesIn s at (here ++ later) two in
      subst P (sym (stays s two (number + 1) lanes))
      (subst Q (sym gives.only) (clash_here number later two after gives.clash gives.found))

  -- these are the lanes from that number on, and these are their bits
  abbrev pub AreGiven : ℕ → List Bool → List Bool → List TwoLane → Type 0
  AreGiven number [] [] [] = Unit {0}
  AreGiven number (first_bit ∷ first) (second_bit ∷ second) (lane ∷ lanes) =
      ((lane ≡ at number) × (first_bit ≡ (at number).first_bit)
      × (second_bit ≡ (at number).second_bit)) × AreGiven (number + 1) first second lanes
  AreGiven number _ _ _ = ⊥

  none_added : (before : List LaneBids) → AddsBids s at before [] before
  none_added before = record {
    more = [];
    are = sym (append-nil before);
    numbered = refl;
    shown = All-nil (IsShown at);
    each = All-nil (LaneOpens s);
    agree = All-nil (Agrees at);
  }

  pub gathered_adds : (number : ℕ) (first second : List Bool) (lanes : List TwoLane)
      (before : List LaneBids)
      → IsStatement s → 1 ≤ number → number + length first ≤ s.lanes + 1
      → ((n : ℕ) → 1 ≤ n → n ≤ s.lanes → IsLane s n (at n)) → AreGiven number first second lanes
      → AddsLanes s at before (differing number first second)
      (gathered_from s (Ok before) number lanes)
  unfolding gathered_from
  gathered_adds number [] [] [] before is some within right given = none_added before
  gathered_adds number [] [] (lane ∷ lanes) before is some within right given = absurd given
  gathered_adds number [] (second_bit ∷ second) lanes before is some within right given =
      absurd given
  gathered_adds number (first_bit ∷ first) [] lanes before is some within right given = absurd given
  gathered_adds number (first_bit ∷ first) (second_bit ∷ second) [] before is some within right
      given = absurd given
  gathered_adds number (first_bit ∷ first) (second_bit ∷ second) (lane ∷ lanes) before is some
      within right given =
      let gives = lane_gives number is some (omega (arith, within))
      (right number some (omega (arith, within))) in
      let here : number_here number first_bit second_bit
      ≡ number_here number (at number).first_bit (at number).second_bit =
      ap (λ bit. number_here number bit second_bit) given.0.1
      ∙ ap (λ bit. number_here number (at number).first_bit bit) given.0.2 in
      let all : differing number (first_bit ∷ first) (second_bit ∷ second)
      ≡ number_here number (at number).first_bit (at number).second_bit
      ++ differing (number + 1) first second =
      differing_first number first_bit second_bit first second
      ∙ ap (λ ns. ns ++ differing (number + 1) first second) here in
      let P : List ℕ → Type 0 =
      λ numbers. AddsLanes s at before numbers
      (gathered_from s (added s number lane (Ok before)) (number + 1) lanes) in
      let Q : TwoLane → Type 0 =
      λ l. AddsLanes s at before
      (number_here number (at number).first_bit (at number).second_bit
      ++ differing (number + 1) first second)
      (gathered_from s (added s number l (Ok before)) (number + 1) lanes) in
      subst P (sym all) (subst Q (sym given.0.0) (
      next_adds number (number_here number (at number).first_bit (at number).second_bit)
      (differing (number + 1) first second) before lanes (lane_found s number (at number)) gives
      (each_differing (λ n. number + 1 ≤ n) (number + 1) first second (λ n from below. from))
      (λ before. gathered_adds (number + 1) first second lanes before is (omega arith)
      (omega (arith, within)) right given.1)))
