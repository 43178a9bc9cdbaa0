-- The two laws of ranges, and ranges as a series of sets.
use Rattle.std.specs.Prelude.{ℕ, ◌+◌, ◌<◌, ◌≡◌, List, [], ◌∷◌, ◌++◌, All, length, take, slice_index_or}
use Rattle.std.proofs.Common.{sym, ap, ◌∙◌, subst, arith}
use Rattle.std.proofs.lemmas.List.{get_or_default, length-replicate}
use Rattle.vk_plan.specs.declared.wire.WireKind.TheVariants.{Split}
use Rattle.vk_plan.specs.declared.form.Form.{Form}
use Rattle.vk_plan.specs.Forms.{form_value, NamesBelow}
use Rattle.vk_plan.specs.Plans.{PlanValue, NamesOwnWires, IsPlan, Holds, plan_of_inputs, extended}
use Rattle.vk_range.specs.declared.ranges.Ranges.{Ranges}
use Rattle.vk_range.specs.Sets.{IsOfWidth, test_set, set_row}
use Rattle.vk_range.specs.Series.{IsSeries, series, series_shorter, next_room, series_sound, series_complete}
use Rattle.vk_range.specs.Ranges.{no_form, form_at, AreRanges, AreOfWidth, ranges_wires, ranges_rows, ranges_values}

-- what is so of the form at each index is so of all
All-forms : (P : Form → Type 0) (forms : List Form)
    → ((i : ℕ) → i < length forms → P (form_at forms i)) → All P forms
All-forms P forms each k d h = subst P (get_or_default forms k no_form d h) (each k h)

-- the plan with the sets of the first so many forms at its end
abbrev pub ranges_stage : Ranges → PlanValue → ℕ → PlanValue
ranges_stage relation plan count = series plan (form_at relation.forms) relation.width count

pub ranges_series : (relation : Ranges) (plan : PlanValue) → AreRanges relation (length plan.kinds)
    → IsSeries plan (form_at relation.forms) relation.width (length plan.kinds)
    (length relation.forms)
ranges_series relation plan fits = record {
  names = λ i h. fits.names i no_form h;
  base_within = omega arith;
  wide = fits.wide;
}

pub ranges_sound : (relation : Ranges) (plan : PlanValue) (values : List ℕ) → NamesOwnWires plan
    → AreRanges relation (length plan.kinds)
    → Holds (extended plan (ranges_wires relation) (ranges_rows relation (length plan.kinds)))
    values
    → AreOfWidth relation (take (length plan.kinds) values)
ranges_sound relation plan values own fits holds =
    let start = length plan.kinds in
    let found = series_sound plan (form_at relation.forms) relation.width start
    (length relation.forms) values own
    (ranges_series relation plan fits) holds in
    All-forms (λ form. IsOfWidth relation.width (form_value form (take start values)))
    relation.forms found.1

pub ranges_complete : (relation : Ranges) (plan : PlanValue) (values : List ℕ) → NamesOwnWires plan
    → AreRanges relation (length plan.kinds) → Holds plan values → AreOfWidth relation values
    → Holds (extended plan (ranges_wires relation) (ranges_rows relation (length plan.kinds)))
    (values ++ ranges_values relation values)
ranges_complete relation plan values own fits holds each =
    series_complete plan (form_at relation.forms) relation.width (length plan.kinds)
    (length relation.forms) values own
    (ranges_series relation plan fits) holds (λ i h. each i no_form h)

-- what the code meets: a form of the list, the wires that it names, and room for its set
pub form_read : (forms items : List Form) (i : ℕ) (form : Form) → items ≡ forms → i < length items
    → form ≡ slice_index_or items i form
    → form ≡ form_at forms i
form_read forms items i form same h is =
    is ∙ get_or_default items i form no_form h ∙ ap (λ fs. form_at fs i) same

pub names_over : (relation : Ranges) (values : List ℕ) (i : ℕ)
    → (plan : PlanValue) × (AreRanges relation (length plan.kinds)
    × (length plan.kinds ≡ length values))
    → i < length relation.forms → NamesBelow (length values) (form_at relation.forms i).terms
names_over relation values i over h =
    subst (λ n. NamesBelow n (form_at relation.forms i).terms) over.1.1 (over.1.0.names i no_form h)

pub set_room : (relation : Ranges) (plan now : PlanValue) (count : ℕ) → IsPlan plan
    → AreRanges relation (length plan.kinds)
    → IsPlan (extended plan (ranges_wires relation) (ranges_rows relation (length plan.kinds)))
    → count < length relation.forms
    → now ≡ ranges_stage relation plan count
    → IsPlan (extended now (test_set relation.width)
    (set_row (form_at relation.forms count) (length now.kinds) relation.width ∷ []))
set_room relation plan now count is_plan fits whole h same =
    let form = form_at relation.forms in
    next_room plan now form relation.width count same
    (series_shorter plan form relation.width (length plan.kinds) (count + 1) (length relation.forms)
    is_plan
    (ranges_series relation plan fits) (omega arith) whole)

-- as many values as there are wires
pub ranges_over : (relation : Ranges) (values : List ℕ) → AreRanges relation (length values)
    → (plan : PlanValue) × (AreRanges relation (length plan.kinds)
    × (length plan.kinds ≡ length values))
ranges_over relation values fits =
    let same = length-replicate (length values) Split in
    (plan_of_inputs (length values), (subst (AreRanges relation) (sym same) fits, same))
