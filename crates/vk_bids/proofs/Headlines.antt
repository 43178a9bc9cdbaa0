-- Two replies that are accepted for different challenges behind a front give values for which the
-- circuit holds; or a clash. Only such replies do.
use Rattle.std.proofs.Common.{◌≡◌, ◌≢◌, ℕ, suc, ◌+◌, ◌-◌, ◌<◌, ◌≤◌, ◌&&◌, Bool, true, false, if◌then◌else◌, All, List, [], ◌∷◌, length, map, Option, Some, Result, Ok, Err, refl, sym, ap, subst, ◌∙◌, arith}
use Rattle.std.specs.Prelude.{slice_get, slice_index_or}
use Rattle.std.proofs.lemmas.List.Elements.{All-weaker}
use Rattle.vk_commit.specs.Commitment.{TwoOpeningsSeen}
use Rattle.vk_wire.specs.declared.wire.Shown.{Shown}
use Rattle.vk_row.specs.declared.case.LaneCase.{LaneCase}
use Rattle.vk_row.specs.Lanes.{IsAccepted}
use Rattle.vk_extractor.specs.Clash.{clash_of_lane}
use Rattle.vk_extractor.specs.FirstClash.{IsFirstClash}
use Rattle.vk_extractor.proofs.FirstClash.{all_agree, clash_found, first_of_clashes}
use Rattle.vk_board.specs.declared.board.LaneLines.{LaneLines}
use Rattle.vk_judge.specs.declared.answers.Fault.{Fault}
use Rattle.vk_judge.specs.declared.stage.Base.{Base}
use Rattle.vk_judge.specs.declared.stage.Finding.{Finding}
use Rattle.vk_judge.specs.declared.stage.Finding.TheVariants as ends
use Rattle.vk_judge.specs.declared.stage.TwoLane.{TwoLane}
use Rattle.vk_judge.specs.Statement.{StatementValue, IsStatement}
use Rattle.vk_judge.specs.Behind.{case_of}
use Rattle.vk_judge.specs.Begun.{from_start}
use Rattle.vk_judge.specs.Acceptance.{bit_of, no_lines}
use Rattle.vk_judge.specs.Two.{BothAreAccepted, accepted_of, ahead_behind, base_behind, base_in, same_bit, same_bits}
use Rattle.vk_judge.specs.TwoValues.{base_with, shown_behind}
use Rattle.vk_judge.proofs.TwoValues.{accepted_behind_give, only_accepted_behind}
use Rattle.vk_bids.specs.declared.bids.LaneBids.{LaneBids}
use Rattle.vk_bids.specs.Extractions.{found_by, gathered_after, given_by}
use Rattle.vk_bids.specs.Gathering.{gathered_from, lane_shown}
use Rattle.vk_bids.specs.Extractions.{IsFound}
use Rattle.vk_bids.specs.OpenedBehind.{AcceptedBehindOpen, AgreesAt, IsFirstClashOf, IsOfBehind, OnlyAcceptedOpen, TwoAcceptedBehind, differing, differing_behind, lane_of}
use Rattle.vk_bids.specs.LaneExtraction.{opened_of}
use Rattle.vk_bids.specs.Opening.{LaneOpens}
use Rattle.vk_bids.proofs.Gathered.{AddsBids, AddsLanes, Agrees, AreGiven, ClashesIn, IsLane, IsShown, gathered_adds, number_of}

-- ---- challenges

same_bit_is : (bit other : Bool) → same_bit bit other ≡ true → bit ≡ other
same_bit_is true true same = refl
same_bit_is true false same = cc
same_bit_is false true same = cc
same_bit_is false false same = refl

both_true : (one other : Bool) → (one && other) ≡ true → (one ≡ true) × (other ≡ true)
both_true true true both = (refl, refl)
both_true true false both = cc
both_true false other both = cc

pub same_bits_are : (first second : List Bool) → same_bits first second ≡ true → first ≡ second
same_bits_are [] [] same = refl
same_bits_are [] (bit ∷ second) same = cc
same_bits_are (bit ∷ first) [] same = cc
same_bits_are (bit ∷ first) (other ∷ second) same =
    let both = both_true (same_bit bit other) (same_bits first second) same in
    ap (λ b. b ∷ first) (same_bit_is bit other both.0)
    ∙ ap (λ bits. other ∷ bits) (same_bits_are first second both.1)

same_itself : (bits : List Bool) → same_bits bits bits ≡ true
same_itself [] = refl
same_itself (true ∷ bits) = same_itself bits
same_itself (false ∷ bits) = same_itself bits

-- what is found, where the bits are the same or aren't
abbrev pub of_test : {V : Type 0} → Bool → Finding V
of_test test = if test then ends.Same else ends.Ready

pub accepted_same : {V : Type 0} (first second : List Bool) → first ≡ second
    → accepted_of {V = V} first second ≡ ends.Same
accepted_same {V} first second same = ap (λ bits. accepted_of {V = V} first bits) (sym same)
    ∙ ap (of_test {V = V}) (same_itself first)

by_test : {V : Type 0} (first second : List Bool) (test : Bool) → same_bits first second ≡ test
    → first ≢ second
    → of_test {V = V} test ≡ ends.Ready
by_test first second true is differ = absurd (differ (same_bits_are first second is))
by_test first second false is differ = refl

accepted_differ : {V : Type 0} (first second : List Bool) → first ≢ second
    → accepted_of {V = V} first second ≡ ends.Ready
accepted_differ {V} first second differ =
    by_test {V = V} first second (same_bits first second) refl differ

pub bits_differ : {V : Type 0} (first second : List Bool)
    → accepted_of {V = V} first second ≡ ends.Ready → first ≢ second
bits_differ {V} first second ready same = let alike : accepted_of {V = V} first second ≡ ends.Same =
    accepted_same {V = V} first second same in cc

-- ---- the lanes

-- lanes by their indices are the lanes from that number on
are_given : (s : StatementValue) (at : ℕ → TwoLane) (number : ℕ) (first second : List Bool)
    (lanes : List TwoLane)
    → length first ≡ length lanes → length second ≡ length lanes
    → ((index : ℕ) (lane : TwoLane) → slice_get lanes index ≡ Some lane
    → lane ≡ at (number + index))
    → ((index : ℕ) → slice_index_or first index false ≡ (at (number + index)).first_bit)
    → ((index : ℕ) → slice_index_or second index false ≡ (at (number + index)).second_bit)
    → AreGiven s at number first second lanes
are_given s at number [] [] [] first_each second_each are firsts seconds = tt
are_given s at number [] second (lane ∷ lanes) first_each second_each are firsts seconds =
    absurd (omega (arith, first_each))
are_given s at number [] (bit ∷ second) [] first_each second_each are firsts seconds =
    absurd (omega (arith, second_each))
are_given s at number (bit ∷ first) second [] first_each second_each are firsts seconds =
    absurd (omega (arith, first_each))
are_given s at number (bit ∷ first) [] (lane ∷ lanes) first_each second_each are firsts seconds =
    absurd (omega (arith, second_each))
are_given s at number (bit ∷ first) (other ∷ second) (lane ∷ lanes) first_each second_each are
    firsts seconds =
    let here : number + 0 ≡ number = omega arith in
    let next : (index : ℕ) → number + suc index ≡ number + 1 + index = λ index. omega arith in (
      (
        are 0 lane refl ∙ ap at here,
        firsts 0 ∙ ap (λ n. (at n).first_bit) here,
        seconds 0
            ∙ ap (λ n. (at n).second_bit) here,
      ),
      are_given s at (number + 1) first second lanes (omega (arith, first_each))
          (omega (arith, second_each))
          (λ index given get. are (suc index) given get ∙ ap at (next index))
          (λ index. firsts (suc index) ∙ ap (λ n. (at n).first_bit) (next index))
          (λ index. seconds (suc index) ∙ ap (λ n. (at n).second_bit) (next index)),
    )

bit_at : (bits : List Bool) (index : ℕ)
    → slice_index_or bits index false ≡ slice_index_or bits (1 + index - 1) false
bit_at bits index = let same : index ≡ 1 + index - 1 = omega arith in
    ap (λ i. slice_index_or bits i false) same

-- a lane for each lane of the statement and each bit, accepted for both bits
record GivesLanes (s : StatementValue) (at : ℕ → TwoLane) (first second : List Bool)
    (lanes : List TwoLane) : Type 0 where
  one_each : length lanes ≡ s.lanes
  first_each : length first ≡ s.lanes
  second_each : length second ≡ s.lanes
  each : (index : ℕ) (lane : TwoLane) → slice_get lanes index ≡ Some lane → lane ≡ at (index + 1)
  first_bits : (index : ℕ) → slice_index_or first index false ≡ (at (1 + index)).first_bit
  second_bits : (index : ℕ) → slice_index_or second index false ≡ (at (1 + index)).second_bit
  right : (number : ℕ) → 1 ≤ number → number ≤ s.lanes → IsLane s number (at number)

lanes_add : (s : StatementValue) (at : ℕ → TwoLane) (first second : List Bool)
    (lanes : List TwoLane) → IsStatement s
    → GivesLanes s at first second lanes
    → AddsLanes s at [] (differing 1 first second) (gathered_from s (Ok []) 1 lanes)
lanes_add s at first second lanes is gives =
    let most : 1 + length first ≤ s.lanes + 1 = omega (arith, gives.first_each) in
    let given =
    are_given s at 1 first second lanes (gives.first_each ∙ sym gives.one_each)
    (gives.second_each ∙ sym gives.one_each)
    (λ index lane get. let same : index + 1 ≡ 1 + index = omega arith in
    gives.each index lane get ∙ ap at same) gives.first_bits gives.second_bits in
    gathered_adds s at 1 first second lanes [] is (omega arith) most gives.right given

-- ---- what is found of them

first_clash : (case : LaneCase) (zero_shown one_shown : List Shown) (two : TwoOpeningsSeen)
    → clash_of_lane case zero_shown one_shown ≡ Some two
    → (wire : ℕ) × IsFirstClash case zero_shown one_shown wire two
first_clash case zs os two found = let is = clash_found case 0 case.coms zs os two found in
    (is.0, first_of_clashes case zs os is.0 two is.1)

agrees : (at : ℕ → TwoLane) (number : ℕ) → Agrees at number → AgreesAt at number
agrees at number none = all_agree (at number).case 0 (at number).case.coms
    (lane_shown false (at number)) (lane_shown true (at number)) none

clash_is : (s : StatementValue) (at : ℕ → TwoLane) (numbers : List ℕ) (clash : TwoOpeningsSeen)
    → ClashesIn s at numbers clash → IsFirstClashOf at numbers s.auction clash
clash_is s at numbers clash adds =
    let number = adds.number in
    let first = first_clash (at number).case (lane_shown false (at number))
    (lane_shown true (at number)) clash adds.found in
    record {
      number = number;
      differs = adds.within;
      earlier = All-weaker (λ n. n < number → Agrees at n) (λ n. n < number → AgreesAt at n)
          (λ n none lt. agrees at n (none lt)) numbers adds.earlier;
      wire = first.0;
      first = first.1;
      lane = adds.clash.lane;
      auction = adds.clash.auction;
      openings = adds.clash.of_lane.openings;
    }

-- the bids of just the lanes with these numbers, none of which has a clash
record AreBids (s : StatementValue) (at : ℕ → TwoLane) (numbers : List ℕ)
    (all : List LaneBids) : Type 0 where
  numbered : map number_of all ≡ numbers
  shown : All (IsShown at) all
  each : All (LaneOpens s) all
  agree : All (AgreesAt at) numbers

all_bids : (s : StatementValue) (at : ℕ → TwoLane) (numbers : List ℕ) (all : List LaneBids)
    → AddsBids s at [] numbers all → AreBids s at numbers all
all_bids s at numbers all adds =
    subst (AreBids s at numbers) (sym adds.are) (record {
      numbered = adds.numbered;
      shown = adds.shown;
      each = adds.each;
      agree = All-weaker (Agrees at) (AgreesAt at) (agrees at) numbers adds.agree;
    })

-- ---- behind a front

module _ {s : StatementValue} {front file challenge reply other second : List ℕ} (two : TwoAcceptedBehind s front file challenge reply other second) where
  lane_behind : two.second.lines ≡ two.first.lines → (number : ℕ) → 1 ≤ number → number ≤ s.lanes
      → IsLane s number (lane_of two number)
  lane_behind one number some last =
      let P : List LaneLines → Type 0 =
      λ lines. IsAccepted s.plan (case_of s number (slice_index_or lines (number - 1) no_lines))
      (bit_of two.second.challenge number) (shown_behind two.second number) in
      record {
        case = (slice_index_or two.first.lines (number - 1) no_lines, refl);
        first = two.first.lanes number some last;
        second = subst P one (two.second.lanes number some last);
      }

  opened_is : (all : Result (List LaneBids) TwoOpeningsSeen)
      → AddsLanes s (lane_of two) [] (differing_behind two) all
      → IsOfBehind two (given_by (opened_of s) all)
  opened_is (Ok found) adds =
      let all = all_bids s (lane_of two) (differing_behind two) found adds in
      record {
        statement = refl;
        numbers = all.numbered;
        shown = all.shown;
        opens = all.each;
        agree = all.agree;
      }
  opened_is (Err clash) adds = clash_is s (lane_of two) (differing_behind two) clash adds

pub accepted_behind_open : AcceptedBehindOpen
accepted_behind_open s is front file challenge reply other second rest same two =
    let give = accepted_behind_give s is front file challenge reply other second rest same two.first
    two.second in
    let ahead = ahead_behind s rest (from_start challenge) (from_start reply) (from_start other)
    (from_start second) in
    let base = base_with two.first two.second in
    let opened = opened_is two (gathered_from s (Ok []) 1 ahead.lanes)
    (lanes_add s (lane_of two) two.first.challenge.bits two.second.challenge.bits ahead.lanes is
    (record {
      one_each = give.2.one_each;
      first_each = two.first.one_bit_each;
      second_each = two.second.one_bit_each;
      each = give.2.each;
      first_bits = bit_at two.first.challenge.bits;
      second_bits = bit_at two.second.challenge.bits;
      right = lane_behind two give.0;
    })) in
    let ready : ahead.finding ≡ ends.Ready =
    give.2.finding ∙ accepted_differ {V = Fault} two.first.challenge.bits
    two.second.challenge.bits two.differ in
    let P : Finding Fault → Type 0 =
    λ finding. IsOfBehind two
    (found_by (λ (base : Base). opened_of base.statement) (Some base) finding
    (gathered_after (λ (base : Base). base.statement) (Some base) ahead.lanes)) in
    let Q : Option Base → Type 0 =
    λ base. IsOfBehind two
    (found_by (λ (base : Base). opened_of base.statement) base ahead.finding
    (gathered_after (λ (base : Base). base.statement) base ahead.lanes)) in
    subst Q (sym give.1) (subst P (sym ready) opened)

-- bids or a clash are found only of replies that are ready
pub found_ready : {V B X : Type 0} (kept : B → List LaneBids → X) (base : Option B)
    (finding : Finding V) (gathered : Result (List LaneBids) TwoOpeningsSeen)
    → IsFound (found_by kept base finding gathered) → finding ≡ ends.Ready
found_ready kept base (ends.Refused second refusal) gathered found = absurd found
found_ready kept base ends.Same gathered found = absurd found
found_ready kept base ends.Ready gathered found = refl

pub only_accepted_open : OnlyAcceptedOpen
only_accepted_open s is front file challenge reply other second rest same found =
    let ahead = ahead_behind s rest (from_start challenge) (from_start reply) (from_start other)
    (from_start second) in
    let base = base_in (base_behind s rest (from_start challenge) (from_start reply)
    (from_start other) (from_start second)) in
    let ready : ahead.finding ≡ ends.Ready =
    found_ready (λ (base : Base). opened_of base.statement) base ahead.finding
    (gathered_after (λ (base : Base). base.statement) base ahead.lanes) found in
    let A : Finding Fault → Type 0 = λ finding. BothAreAccepted finding in
    let both = only_accepted_behind s is front file challenge reply other second rest same
    (subst A (sym ready) tt) in
    let give = accepted_behind_give s is front file challenge reply other second rest same both.0
    both.1 in
    record {
      first = both.0;
      second = both.1;
      differ = bits_differ {V = Fault} both.0.challenge.bits both.1.challenge.bits
          (sym give.2.finding ∙ ready);
    }
