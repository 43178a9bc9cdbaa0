-- The clash of a lane is two openings of one entry.
use Rattle.std.proofs.Common.{◌≡◌, ℕ, ◌<◌, Bool, true, false, List, length, slice_index, slice_index_or, Some, refl, sym, subst, arith}
use Rattle.vk_commit.specs.Commitment.{TwoOpeningsSeen, AreTwoOpenings}
use Rattle.vk_commit.specs.declared.place.Place.{Place}
use Rattle.vk_plan.specs.Plans.{PlanValue}
use Rattle.vk_plan.specs.declared.wire.WireKind.{WireKind}
use Rattle.vk_plan.specs.declared.wire.WireKind.TheVariants.{Split}
use Rattle.vk_wire.specs.Places.{entry_place}
use Rattle.vk_wire.specs.Reads.{Reads, entry_digest}
use Rattle.vk_wire.specs.declared.wire.WireCom.{WireCom}
use Rattle.vk_wire.specs.declared.wire.Shown.{Shown}
use Rattle.vk_wire.specs.declared.wire.Shown.TheVariants.{Whole, Spent}
use Rattle.vk_row.specs.declared.case.LaneCase.{LaneCase}
use Rattle.vk_row.specs.Lanes.{IsAcceptedLane, place_in, no_digests, nothing_shown}
use Rattle.vk_extractor.specs.Clash.{clash_of_lane}
use Rattle.vk_extractor.specs.FirstClash.{IsClash}
use Rattle.vk_extractor.specs.Laws.{AreOfLane}
use Rattle.vk_extractor.proofs.FirstClash.{clash_found, first_of_clashes}
use Rattle.vk_extractor.proofs.Wires.{entry_opens}

-- two openings of an entry of a wire
record AreOfWire (place : Place) (digests : WireCom) (two : TwoOpeningsSeen) : Type 0 where
  pub second : Bool
  pub place_is : two.place ≡ entry_place place second
  pub digest_is : two.digest ≡ entry_digest digests second
  pub openings : AreTwoOpenings two.place two.digest two.first two.second

-- of an accepted wire both openings of a clash open the entry
wire_opens : (kind : WireKind) (place : Place) (digests : WireCom) (z o : Shown)
    (two : TwoOpeningsSeen) (g h : ℕ)
    → Reads kind place digests z false g → Reads kind place digests o true h
    → IsClash place digests z o two → AreOfWire place digests two
wire_opens kind place digests (Whole a b) (Spent s o) two g h first second clash =
    let both = entry_opens kind place digests a b s o g h first second in
    let P : TwoOpeningsSeen → Type 0 = λ seen. AreOfWire place digests seen in
    subst P (sym clash.0) (record {
      second = s;
      place_is = refl;
      digest_is = refl;
      openings = record { first_opens = both.0; second_opens = both.1; values_differ = clash.1 };
    })
wire_opens kind place digests z o two g h first second clash = absurd clash

-- it is that of an entry of the lane
pub clash_opens : (plan : PlanValue) (case : LaneCase) (zeros ones : List Shown)
    (firsts seconds : List ℕ) (two : TwoOpeningsSeen)
    → IsAcceptedLane plan case false zeros firsts → IsAcceptedLane plan case true ones seconds
    → clash_of_lane case zeros ones ≡ Some two → AreOfLane plan case two
clash_opens plan case zeros ones firsts seconds two first second found =
    let at = clash_found case 0 case.coms zeros ones two found in
    let k = at.0 in
    let here = first_of_clashes case zeros ones k two at.1 in
    let within : k < length plan.kinds = omega (arith, here.within, first.counts.coms) in
    let entry = wire_opens (slice_index_or plan.kinds k Split) (place_in case k)
    (slice_index_or case.coms k no_digests)
    (slice_index_or zeros k nothing_shown) (slice_index_or ones k nothing_shown) two
    (slice_index firsts k) (slice_index seconds k)
    (first.wires.each k within) (second.wires.each k within) here.clash in
    record {
      wire = k;
      second = entry.second;
      within = within;
      place = entry.place_is;
      digest = entry.digest_is;
      openings = entry.openings;
    }
