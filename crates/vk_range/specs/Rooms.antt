-- That a plan with a relation at its end is one: its own rows name wires that are there, and there
-- is room.
use Rattle.std.specs.Prelude.{◌+◌, ◌*◌, ◌≤◌, List, [], ◌∷◌, All, length}
use Rattle.std.proofs.Common.{sym, subst, arith, length-append}
use Rattle.std.proofs.lemmas.List.Elements.{All-nil, All-cons}
use Rattle.vk_plan.specs.declared.wire.WireKind.{WireKind}
use Rattle.vk_plan.specs.declared.form.Form.{Form}
use Rattle.vk_plan.specs.Forms.{NamesBelow}
use Rattle.vk_plan.specs.FormLaws.{NamesBelow-more}
use Rattle.vk_plan.specs.Plans.{PlanValue, IsPlan, HasWeight, extended}
use Rattle.vk_plan.specs.PlanLaws.{IsPlan-extended}
use Rattle.vk_range.specs.declared.ranges.Ranges.{Ranges}
use Rattle.vk_range.specs.declared.selected.SelectedIs.{SelectedIs}
use Rattle.vk_range.specs.Series.{series_room}
use Rattle.vk_range.specs.Ranges.{form_at, AreRanges, ranges_wires, ranges_rows}
use Rattle.vk_range.specs.RangesLaws.{ranges_series}
use Rattle.vk_range.specs.Selected.{IsSelection, place_form, selector_row, selected_wires, selected_rows}
use Rattle.vk_range.specs.SelectedLaws.{selecting, length_selecting, selecting_room, selecting_series, stage_is}

-- one row over the wires with those that come with it
row_room : (plan : PlanValue) (kinds : List WireKind) (row : Form) → IsPlan plan
    → All HasWeight kinds
    → NamesBelow (length plan.kinds + length kinds) row.terms
    → length plan.kinds + length kinds ≤ 16777216 → length plan.rows + 1 ≤ 16777216
    → IsPlan (extended plan kinds (row ∷ []))
row_room plan kinds row is_plan weights names wires rows =
    let Named : Form → Type 0 = λ form. NamesBelow (length plan.kinds + length kinds) form.terms in
    IsPlan-extended plan kinds (row ∷ []) is_plan weights
    (All-cons Named row [] names (All-nil Named)) wires (omega arith)

pub sum_is_room : (plan : PlanValue) (form : Form) → IsPlan plan
    → NamesBelow (length plan.kinds) form.terms
    → length plan.rows + 1 ≤ 16777216 → IsPlan (extended plan [] (form ∷ []))
sum_is_room plan form is_plan names rows =
    row_room plan [] form is_plan (All-nil HasWeight)
    (NamesBelow-more (length plan.kinds) (length plan.kinds + 0) form.terms (omega arith) names)
    (omega (arith, is_plan.wires)) rows

pub ranges_room : (plan : PlanValue) (relation : Ranges) → IsPlan plan
    → AreRanges relation (length plan.kinds)
    → length plan.kinds + length relation.forms * relation.width ≤ 16777216
    → length plan.rows + length relation.forms ≤ 16777216
    → IsPlan (extended plan (ranges_wires relation) (ranges_rows relation (length plan.kinds)))
ranges_room plan relation is_plan fits wires rows =
    series_room plan (form_at relation.forms) relation.width (length plan.kinds)
    (length relation.forms) is_plan
    (ranges_series relation plan fits) wires rows

pub selected_room : (plan : PlanValue) (relation : SelectedIs) → IsPlan plan
    → IsSelection relation (length plan.kinds)
    → length plan.kinds + length relation.wires + length relation.wires * relation.width ≤ 16777216
    → length plan.rows + 1 + length relation.wires ≤ 16777216
    → IsPlan (extended plan (selected_wires relation) (selected_rows relation (length plan.kinds)))
selected_room plan relation is_plan fits wires rows =
    let start = length plan.kinds in
    let n = length relation.wires in
    subst IsPlan (sym (stage_is relation plan))
    (series_room (selecting relation plan) (place_form relation start) relation.width (start + n) n
    (selecting_room relation plan is_plan (omega arith) (omega arith))
    (selecting_series relation plan fits) (omega (arith, length_selecting relation plan))
    (omega (arith, length-append plan.rows (selector_row relation start ∷ []))))
