-- What two accepted replies open of a lane: values for which the statement's circuit holds. On a
-- board they show the published sale.
use Rattle.std.proofs.Common.{◌≡◌, ℕ, ◌-◌, ◌<◌, ◌≤◌, true, false, List, length, take, Some, None, refl, sym, ap, subst, ◌∙◌, arith}
use Rattle.std.specs.Prelude.{slice_get, slice_index, slice_index_or}
use Rattle.std.proofs.lemmas.List.{length-map}
use Rattle.std.proofs.lemmas.Option.{slice_get_within}
use Rattle.vk_commit.specs.Commitment.{Opens}
use Rattle.vk_plan.specs.Plans.{Holds, PlanValue}
use Rattle.vk_wire.specs.declared.wire.WireCom.{WireCom}
use Rattle.vk_wire.specs.declared.wire.Shown.{Shown}
use Rattle.vk_row.specs.declared.case.LaneCase.{LaneCase}
use Rattle.vk_row.specs.Lanes.{IsAccepted, IsAcceptedLane, nothing_shown}
use Rattle.vk_board.specs.declared.board.SealLines.{SealLines}
use Rattle.vk_board.specs.declared.board.LaneLines.{LaneLines}
use Rattle.vk_board.specs.Reading.{seats_of}
use Rattle.vk_vickrey.specs.BoardPlans.{BoardClaim, BoardNumbers, IsBoardCase, board_plan}
use Rattle.vk_vickrey.specs.BoardLaws.{board_sound, of_plans}
use Rattle.vk_row.specs.Rows.{sums}
use Rattle.vk_extractor.specs.Clash.{clash_of_lane}
use Rattle.vk_extractor.specs.Refused.{IsRefusalOf}
use Rattle.vk_extractor.specs.declared.lane.LaneErr.{LaneErr}
use Rattle.vk_extractor.specs.declared.lane.LaneErr.TheVariants.{Clash, NoMemory}
use Rattle.vk_extractor.proofs.Clashes.{clash_opens}
use Rattle.vk_extractor.proofs.Holding.{extracted_hold}
use Rattle.vk_board.specs.declared.front.Front.{Front}
use Rattle.vk_board.specs.Fronts.{IsFront}
use Rattle.vk_judge.specs.Statement.{StatementValue, IsStatement}
use Rattle.vk_judge.specs.Behind.{case_of}
use Rattle.vk_verifier.specs.Verdicts.{numbers_in, statement_of}
use Rattle.vk_verifier.proofs.Fronts.{front_case}
use Rattle.vk_bids.specs.declared.bids.OpenedBid.{OpenedBid}
use Rattle.vk_bids.specs.Bids.{opened_bid, opened_bids}
use Rattle.vk_bids.specs.Laws.{AcceptedLanesOpen}
use Rattle.vk_bids.specs.Opening.{IsCaseOf, OpensSeal, OpensTwice, OpensValues, AreShownIn, seal_place}
use Rattle.vk_bids.specs.Outcome.{ShowsOutcome}
use Rattle.vk_bids.proofs.Opening.{ShowsHalves, AreOpened, from_halves, opened_from_halves, opened_are, halves_shown}
use Rattle.vk_bids.proofs.Seals.{OpensHalf, seals_within, seal_opens}

same_some : {A : Type 0} (x y : A) → Some x ≡ Some y → x ≡ y
same_some x y e = cc

-- a bid whose halves open a seal
opens_seal : (s : StatementValue) (number index : ℕ) (zero_shown one_shown : Shown)
    (first_half second_half : ℕ) (bid : OpenedBid)
    → 1 ≤ number → OpensHalf s number index zero_shown false first_half
    → OpensHalf s number index one_shown true second_half
    → opened_bid (slice_index (seats_of s.seals) index) zero_shown one_shown ≡ Some bid
    → OpensSeal s.auction s.seals number index bid
opens_seal s number index zero_shown one_shown first_half second_half bid some first second opened =
    let seat = slice_index (seats_of s.seals) index in
    let made = from_halves seat first.is_half.opening second.is_half.opening in
    let is : made ≡ bid = same_some made bid
    (sym (opened_from_halves seat zero_shown one_shown first.is_half.opening second.is_half.opening
    first.is_half.shown_is second.is_half.shown_is) ∙ opened) in
    let seal_same : second.seal ≡ first.seal =
    same_some second.seal first.seal (sym second.on_board ∙ first.on_board) in
    let digests_same : second.digests ≡ first.digests =
    same_some second.digests first.digests
    (sym second.in_lane ∙ ap (λ (seal : SealLines). slice_get seal.coms (number - 1)) seal_same
    ∙ first.in_lane) in
    let P : SealLines → Type 0 =
    λ seal. Opens (seal_place s.auction seal.seat number 1) second.digests.second second.is_half.opening
    in
    let Q : WireCom → Type 0 =
    λ digests. Opens (seal_place s.auction first.seal.seat number 1) digests.second
    second.is_half.opening in
    let whole : OpensSeal s.auction s.seals number index made = record {
      numbered = some;
      seal = first.seal;
      digests = first.digests;
      on_board = first.on_board;
      in_lane = first.in_lane;
      seat = first.seat;
      first_opens = first.is_half.opens;
      second_opens = subst Q digests_same (subst P seal_same second.is_half.opens);
      is_sum = refl;
    } in
    subst (OpensSeal s.auction s.seals number index) is whole

-- the wires of the seals show halves
shows_halves : (s : StatementValue) (number index : ℕ) (zero_shown one_shown : List Shown)
    (firsts seconds : List ℕ)
    → OpensHalf s number index (slice_index_or zero_shown index nothing_shown) false
    (slice_index firsts index)
    → OpensHalf s number index (slice_index_or one_shown index nothing_shown) true
    (slice_index seconds index)
    → ShowsHalves zero_shown one_shown firsts seconds index
shows_halves s number index zero_shown one_shown firsts seconds first second = record {
  first = first.is_half.opening;
  second = second.is_half.opening;
  zero_is = first.is_half.shown_is;
  one_is = second.is_half.shown_is;
  first_value = first.is_half.value;
  second_value = second.is_half.value;
}

-- what two replies show of a lane that is accepted for both bits
module _ (s : StatementValue) (number : ℕ) (lines : LaneLines) (zs os : List Shown) (firsts seconds : List ℕ) (is : IsStatement s) (some : 1 ≤ number) (last : number ≤ s.lanes)
    (first : IsAcceptedLane s.plan (case_of s number lines) false zs firsts) (second : IsAcceptedLane s.plan (case_of s number lines) true os seconds) where
  zero_at : (index : ℕ) → index < length s.seals
      → OpensHalf s number index (slice_index_or zs index nothing_shown) false
      (slice_index firsts index)
  zero_at index lt = seal_opens s number index lines false zs firsts is some last lt first

  one_at : (index : ℕ) → index < length s.seals
      → OpensHalf s number index (slice_index_or os index nothing_shown) true
      (slice_index seconds index)
  one_at index lt = seal_opens s number index lines true os seconds is some last lt second

  lane_opened : AreOpened (seats_of s.seals) zs os firsts seconds
      (opened_bids (seats_of s.seals) zs os)
  lane_opened =
      let count : length (seats_of s.seals) ≡ length s.seals = length-map s.seals _ in
      let in_zero = seals_within s number lines zs first.counts in
      let in_one = seals_within s number lines os second.counts in
      opened_are (seats_of s.seals) zs os firsts seconds (omega arith) (omega arith)
      (omega (arith, first.wires.one_each, first.counts.one_shown))
      (omega (arith, second.wires.one_each, second.counts.one_shown))
      (λ index lt. shows_halves s number index zs os firsts seconds (zero_at index (omega arith))
      (one_at index (omega arith)))

  pub lane_opens : clash_of_lane (case_of s number lines) zs os ≡ None
      → OpensValues s number (opened_bids (seats_of s.seals) zs os)
  lane_opens none =
      let seats = seats_of s.seals in
      let bids = opened_bids seats zs os in
      let count : length seats ≡ length s.seals = length-map s.seals _ in
      let opened = lane_opened in
      record {
        one_each = opened.one_each;
        opened = λ index bid get.
            let lt : index < length s.seals =
            omega (
              arith,
              slice_get_within bids index bid get,
              ap length opened.one_each,
              length-map bids (λ bid. bid.seat),
            ) in
            opens_seal s number index (slice_index_or zs index nothing_shown)
            (slice_index_or os index nothing_shown)
            (slice_index firsts index) (slice_index seconds index) bid some (zero_at index lt)
            (one_at index lt) (opened.at_seats index bid get);
        values = sums firsts seconds;
        holds = extracted_hold s.plan (case_of s number lines) zs os firsts seconds is.plan first
            second none;
        inputs = sym (opened.are_sums
            ∙ ap (λ count. take count (sums firsts seconds)) first.counts.seats);
      }

  -- the openings of the bids are those that are shown
  pub lane_shown : AreShownIn zs os (opened_bids (seats_of s.seals) zs os)
  lane_shown = λ index bid get. halves_shown (slice_index (seats_of s.seals) index)
      (slice_index_or zs index nothing_shown) (slice_index_or os index nothing_shown) bid
      (lane_opened.at_seats index bid get)

-- the same of a case that is that of the lane
pub case_gives : (s : StatementValue) (number : ℕ) (case : LaneCase)
    (zero_shown one_shown : List Shown)
    → IsStatement s → 1 ≤ number → number ≤ s.lanes → IsCaseOf s number case
    → IsAccepted s.plan case false zero_shown → IsAccepted s.plan case true one_shown
    → (clash_of_lane case zero_shown one_shown ≡ None
    → OpensValues s number (opened_bids (seats_of s.seals) zero_shown one_shown))
    × AreShownIn zero_shown one_shown (opened_bids (seats_of s.seals) zero_shown one_shown)
case_gives s number case zs os is some last of_lane =
    let bids = opened_bids (seats_of s.seals) zs os in
    let P : LaneCase → Type 0 =
    λ case. IsAccepted s.plan case false zs → IsAccepted s.plan case true os
    → (clash_of_lane case zs os ≡ None → OpensValues s number bids) × AreShownIn zs os bids in
    subst P (sym of_lane.1) (λ first second. (
      lane_opens s number of_lane.0 zs os first.0 second.0 is some last first.1 second.1,
      lane_shown s number of_lane.0 zs os first.0 second.0 is some last first.1 second.1,
    ))

-- a clash that is answered
pub refusal_opens : (refused : LaneErr) (plan : PlanValue) (case : LaneCase)
    (zero_shown one_shown : List Shown)
    → IsAccepted plan case false zero_shown → IsAccepted plan case true one_shown
    → IsRefusalOf refused case zero_shown one_shown
    → OpensTwice refused plan case
refusal_opens (Clash two) plan case zs os first second found =
    clash_opens plan case zs os first.0 second.0 two first.1 second.1 found
refusal_opens NoMemory plan case zs os first second found = tt

-- of every statement: what is shown opens values, or an entry has two openings
pub lanes_open : AcceptedLanesOpen
lanes_open s is number lines zs os both = (
  λ none. lane_opens s number lines zs os both.for_zero.0 both.for_one.0 is both.some_lane
      both.within both.for_zero.1 both.for_one.1 none,
  λ two found. clash_opens s.plan (case_of s number lines) zs os both.for_zero.0 both.for_one.0 two
      both.for_zero.1 both.for_one.1 found,
)

-- ---- a board

-- values for which the plan of a board's numbers holds begin with bids that make their sale
numbers_sound : (values : List ℕ) (n : BoardNumbers) → IsBoardCase n → Holds (board_plan n) values
    → BoardClaim n (take (board_plan n).inputs values)
numbers_sound values =
    of_plans (λ n. Holds (board_plan n) values → BoardClaim n (take (board_plan n).inputs values))
    (λ plan. board_sound plan values)

-- where the circuit is that of a board's front, its inputs show the published sale
pub opens_shows : (front : Front) (number : ℕ) (bids : List OpenedBid) → IsFront front
    → OpensValues (statement_of front) number bids
    → ShowsOutcome front number bids
opens_shows front number bids is opens =
    let P : List ℕ → Type 0 = λ inputs. BoardClaim (numbers_in front) inputs in
    let claim = subst P opens.inputs
    (numbers_sound opens.values (numbers_in front) (front_case front is) opens.holds) in
    record {
      one_each = opens.one_each;
      opened = opens.opened;
      within_width = claim.within_width;
      sale = claim.is_sale;
    }
