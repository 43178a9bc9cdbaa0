-- The sums of accepted halves hold for the plan.
use Rattle.std.proofs.Common.{◌≡◌, ℕ, ◌+◌, ◌<◌, true, false, List, [], ◌∷◌, ◌++◌, length, take, slice_index, slice_index_or, None, sym, ap, subst, ◌∙◌, arith}
use Rattle.std.proofs.lemmas.List.{get_or_default, take_more, take_all}
use Rattle.vk_residue.specs.Residue.{sum}
use Rattle.vk_plan.specs.Plans.{PlanValue, IsPlan, Holds, MayHave}
use Rattle.vk_plan.specs.Forms.{form_value, NamesBelow, no_row}
use Rattle.vk_plan.specs.declared.form.Form.{Form}
use Rattle.vk_plan.specs.declared.wire.WireKind.TheVariants.{Split}
use Rattle.vk_wire.specs.declared.wire.Shown.{Shown}
use Rattle.vk_row.specs.declared.case.LaneCase.{LaneCase}
use Rattle.vk_row.specs.Lanes.{IsAcceptedLane, place_in, no_digests, nothing_shown}
use Rattle.vk_row.specs.Rows.{sums}
use Rattle.vk_extractor.specs.Clash.{clash_of_lane}
use Rattle.vk_extractor.specs.Values.{wire_value}
use Rattle.vk_row.proofs.Sums.{get_or-sums, length-sums}
use Rattle.vk_row.proofs.Linear.{row_is_zero}
use Rattle.vk_extractor.proofs.FirstClash.{all_agree}
use Rattle.vk_extractor.proofs.Wires.{wire_value_is_sum, sum_is_fair}

-- the sum of the halves of one wire of the lane
pub wire_sum : (plan : PlanValue) (case : LaneCase) (zero_shown one_shown : List Shown)
    (firsts seconds : List ℕ) (w : ℕ) → IsPlan plan
    → IsAcceptedLane plan case false zero_shown firsts
    → IsAcceptedLane plan case true one_shown seconds → w < length plan.kinds
    → wire_value (slice_index_or plan.kinds w Split) (slice_index_or zero_shown w nothing_shown)
    (slice_index_or one_shown w nothing_shown)
    ≡ sum (slice_index firsts w) (slice_index seconds w)
wire_sum plan case zs os firsts seconds w is_plan first second lt =
    wire_value_is_sum (slice_index_or plan.kinds w Split) (place_in case w)
    (slice_index_or case.coms w no_digests) (slice_index_or zs w nothing_shown)
    (slice_index_or os w nothing_shown)
    (slice_index firsts w) (slice_index seconds w) (is_plan.weights w Split lt)
    (first.wires.each w lt) (second.wires.each w lt)

-- one value more
pub sums_more : (plan : PlanValue) (case : LaneCase) (zero_shown one_shown : List Shown)
    (firsts seconds : List ℕ) (w : ℕ) → IsPlan plan
    → IsAcceptedLane plan case false zero_shown firsts
    → IsAcceptedLane plan case true one_shown seconds → w < length plan.kinds
    → take (w + 1) (sums firsts seconds)
    ≡ take w (sums firsts seconds)
    ++ wire_value (slice_index_or plan.kinds w Split) (slice_index_or zero_shown w nothing_shown)
    (slice_index_or one_shown w nothing_shown) ∷ []
sums_more plan case zs os firsts seconds w is_plan first second lt =
    let same : length firsts ≡ length seconds = first.wires.one_each ∙ sym second.wires.one_each in
    let in_firsts : w < length firsts = omega (arith, first.wires.one_each) in
    let in_sums : w < length (sums firsts seconds) = omega (arith, length-sums firsts seconds same)
    in
    take_more (sums firsts seconds) w 0 in_sums
    ∙ ap (λ n. take w (sums firsts seconds) ++ n ∷ [])
    (get_or-sums firsts seconds w 0 same in_firsts
    ∙ sym (wire_sum plan case zs os firsts seconds w is_plan first second lt))

-- all values
pub sums_all : (plan : PlanValue) (case : LaneCase) (zero_shown one_shown : List Shown)
    (firsts seconds : List ℕ)
    → IsAcceptedLane plan case false zero_shown firsts
    → IsAcceptedLane plan case true one_shown seconds
    → take (length plan.kinds) (sums firsts seconds) ≡ sums firsts seconds
sums_all plan case zs os firsts seconds first second =
    let same : length firsts ≡ length seconds = first.wires.one_each ∙ sym second.wires.one_each in
    take_all (length plan.kinds) (sums firsts seconds)
    (omega (arith, length-sums firsts seconds same, first.wires.one_each))

-- the central theorem
pub extracted_hold : (plan : PlanValue) (case : LaneCase) (zero_shown one_shown : List Shown)
    (firsts seconds : List ℕ) → IsPlan plan
    → IsAcceptedLane plan case false zero_shown firsts
    → IsAcceptedLane plan case true one_shown seconds
    → clash_of_lane case zero_shown one_shown ≡ None → Holds plan (sums firsts seconds)
extracted_hold plan case zs os firsts seconds is_plan first second none =
    let same : length firsts ≡ length seconds = first.wires.one_each ∙ sym second.wires.one_each in
    record {
      one_each = length-sums firsts seconds same ∙ first.wires.one_each;
      residues = λ k d lt.
          let in_firsts : k < length firsts = omega (arith, length-sums firsts seconds same) in
          rw (get_or-sums firsts seconds k d same in_firsts) (omega arith);
      pairs = λ w lt.
          let in_firsts : w < length firsts = omega (arith, first.wires.one_each) in
          let in_coms : w < length case.coms = omega (arith, first.counts.coms) in
          let agree = all_agree case 0 case.coms zs os none w in_coms in
          let P : ℕ → Type 0 = λ n. MayHave (slice_index_or plan.kinds w Split) n in
          subst P (sym (get_or-sums firsts seconds w 0 same in_firsts))
          (sum_is_fair (slice_index_or plan.kinds w Split) (place_in case w)
          (slice_index_or case.coms w no_digests) (slice_index_or zs w nothing_shown)
          (slice_index_or os w nothing_shown)
          (slice_index firsts w) (slice_index seconds w) (is_plan.weights w Split lt)
          (first.wires.each w lt) (second.wires.each w lt) agree);
      zero_rows = λ r d lt.
          let names_first : NamesBelow (length firsts) (slice_index_or plan.rows r no_row).terms =
          λ k e inside. omega (arith, is_plan.names r no_row lt k e inside, first.wires.one_each) in
          let P : Form → Type 0 = λ row. form_value row (sums firsts seconds) ≡ 0 in
          subst P (get_or_default plan.rows r no_row d lt)
          (row_is_zero (slice_index_or plan.rows r no_row) firsts seconds
          (slice_index case.posted r) same names_first (first.rows r lt) (second.rows r lt));
    }
