-- Test sets one after another, each with the row that makes a form of the wires before them its
-- sum.
use Rattle.std.specs.Prelude.{ℕ, ◌+◌, ◌*◌, ◌<◌, ◌≤◌, ◌≡◌, List, [], ◌∷◌, ◌++◌, All, length, take}
use Rattle.std.proofs.Common.{sym, ap, ◌∙◌, subst, arith, inl, inr, zero, suc, add-one, length-append, append_assoc, mul-le-mul_right, suc-mul}
use Rattle.std.proofs.lemmas.List.{append-nil, take_all, take-take}
use Rattle.std.proofs.lemmas.Bool.{cases_lt}
use Rattle.vk_residue.specs.Limits.{IsWidth}
use Rattle.vk_plan.specs.declared.wire.WireKind.{WireKind}
use Rattle.vk_plan.specs.declared.wire.WireKind.TheVariants.{Pair}
use Rattle.vk_plan.specs.declared.form.Form.{Form}
use Rattle.vk_plan.specs.Forms.{form_value, NamesBelow}
use Rattle.vk_plan.specs.FormLaws.{form_value-take, form_value_within, NamesBelow-more}
use Rattle.vk_plan.specs.Plans.{PlanValue, NamesOwnWires, IsPlan, Holds, HasWeight, extended}
use Rattle.vk_plan.specs.PlanLaws.{Holds-before, names-extended, IsPlan-extended}
use Rattle.vk_range.specs.Sets.{listed, joined, IsOfWidth, test_set, set_row, bit_parts}
use Rattle.vk_range.specs.Forms.{IsRange}
use Rattle.vk_range.specs.SetLaws.{listed_more, joined_more, length_listed, length_joined, All-listed, All-joined, set_row_names, test_set_weights}
use Rattle.vk_range.specs.Laws.{in_range_sound, in_range_complete}

abbrev pub series_kinds : ℕ → ℕ → List WireKind
series_kinds width count = joined (λ _. test_set width) count

abbrev pub series_rows : (ℕ → Form) → ℕ → ℕ → ℕ → List Form
series_rows form start width count = listed (λ i. set_row (form i) (start + i * width) width) count

-- the plan with the sets of the first so many forms at its end
abbrev pub series : PlanValue → (ℕ → Form) → ℕ → ℕ → PlanValue
series plan form width count =
    extended plan (series_kinds width count) (series_rows form (length plan.kinds) width count)

-- the values of these sets
abbrev pub series_values : List ℕ → (ℕ → Form) → ℕ → ℕ → List ℕ
series_values values form width count =
    joined (λ i. bit_parts (form_value (form i) values) width) count

-- the forms name the first wires, which are wires of the plan, and the width is from 1 to 40
pub record IsSeries (plan : PlanValue) (form : ℕ → Form) (width base count : ℕ) : Type 0 where
  pub names : (i : ℕ) → i < count → NamesBelow base (form i).terms
  pub base_within : base ≤ length plan.kinds
  pub wide : IsWidth width

pub same_plan : (inputs : ℕ) (kinds kinds' : List WireKind) (rows rows' : List Form)
    → kinds ≡ kinds' → rows ≡ rows'
    → ◌≡◌ {A = PlanValue} (record { inputs = inputs; kinds = kinds; rows = rows })
    (record { inputs = inputs; kinds = kinds'; rows = rows' })
same_plan inputs kinds kinds' rows rows' k r = cc

pub series_none : (plan : PlanValue) (form : ℕ → Form) (width : ℕ) → series plan form width 0 ≡ plan
series_none plan form width = same_plan plan.inputs (plan.kinds ++ []) plan.kinds (plan.rows ++ [])
    plan.rows (append-nil plan.kinds) (append-nil plan.rows)

length_kinds : (width count : ℕ) → length (series_kinds width count) ≡ count * width
length_kinds width count = length_joined (λ _. test_set width) width count
    (λ _. length_listed Pair width)

pub length_series : (plan : PlanValue) (form : ℕ → Form) (width count : ℕ)
    → length (series plan form width count).kinds ≡ length plan.kinds + count * width
length_series plan form width count = length-append plan.kinds (series_kinds width count)
    ∙ omega (arith, length_kinds width count)

pub series_more : (plan : PlanValue) (form : ℕ → Form) (width count : ℕ)
    → series plan form width (count + 1)
    ≡ extended (series plan form width count) (test_set width)
    (set_row (form count) (length (series plan form width count).kinds) width ∷ [])
series_more plan form width count =
    let start = length plan.kinds in
    let at = ap (λ n. set_row (form count) n width) (length_series plan form width count) in
    same_plan plan.inputs (plan.kinds ++ series_kinds width (count + 1))
    (plan.kinds ++ series_kinds width count ++ test_set width)
    (plan.rows ++ series_rows form start width (count + 1))
    (plan.rows ++ series_rows form start width count
    ++ set_row (form count) (length (series plan form width count).kinds) width ∷ [])
    (ap (λ more. plan.kinds ++ more) (joined_more (λ _. test_set width) count)
    ∙ sym (append_assoc plan.kinds (series_kinds width count) (test_set width)))
    (ap (λ more. plan.rows ++ more)
    (listed_more (λ i. set_row (form i) (start + i * width) width) count)
    ∙ cc (
      append_assoc plan.rows (series_rows form start width count)
          (set_row (form count) (start + count * width) width ∷ []),
      at,
    ))

-- the appended rows name wires of the plan with them
series_names : (plan : PlanValue) (form : ℕ → Form) (width base count : ℕ)
    → IsSeries plan form width base count
    → All (λ row. NamesBelow (length plan.kinds + length (series_kinds width count)) row.terms)
    (series_rows form (length plan.kinds) width count)
series_names plan form width base count is_series =
    let start = length plan.kinds in
    All-listed (λ row. NamesBelow (start + length (series_kinds width count)) row.terms)
    (λ i. set_row (form i) (start + i * width) width) count
    (λ i h.
    let steps : suc i * width ≤ count * width = mul-le-mul_right width h in
    NamesBelow-more (start + i * width + width) (start + length (series_kinds width count))
    (set_row (form i) (start + i * width) width).terms
    (omega (arith, length_kinds width count, suc-mul i width))
    (set_row_names (form i) (start + i * width) width
    (NamesBelow-more base (start + i * width) (form i).terms
    (omega (arith, is_series.base_within)) (is_series.names i h))))

pub names_series : (plan : PlanValue) (form : ℕ → Form) (width base count : ℕ) → NamesOwnWires plan
    → IsSeries plan form width base count
    → NamesOwnWires (series plan form width count)
names_series plan form width base count own is_series =
    names-extended plan (series_kinds width count)
    (series_rows form (length plan.kinds) width count) own
    (series_names plan form width base count is_series)

-- such a plan is one, where there is room
pub series_room : (plan : PlanValue) (form : ℕ → Form) (width base count : ℕ) → IsPlan plan
    → IsSeries plan form width base count
    → length plan.kinds + count * width ≤ 16777216 → length plan.rows + count ≤ 16777216
    → IsPlan (series plan form width count)
series_room plan form width base count is_plan is_series wires rows =
    IsPlan-extended plan (series_kinds width count)
    (series_rows form (length plan.kinds) width count) is_plan
    (All-joined HasWeight (λ _. test_set width) count
    (λ i h. test_set_weights width (omega (arith, is_series.wide.most))))
    (series_names plan form width base count is_series)
    (omega (arith, length_kinds width count))
    (omega (
      arith,
      length_listed (λ i. set_row (form i) (length plan.kinds + i * width) width)
          count,
    ))

IsSeries-fewer : (plan : PlanValue) (form : ℕ → Form) (width base few many : ℕ) → few ≤ many
    → IsSeries plan form width base many → IsSeries plan form width base few
IsSeries-fewer plan form width base few many le is_series =
    record {
      names = λ i h. is_series.names i (omega arith);
      base_within = is_series.base_within;
      wide = is_series.wide;
    }

-- where there is room for all the sets, there is for the first of them
pub series_shorter : (plan : PlanValue) (form : ℕ → Form) (width base few many : ℕ) → IsPlan plan
    → IsSeries plan form width base many
    → few ≤ many → IsPlan (series plan form width many) → IsPlan (series plan form width few)
series_shorter plan form width base few many is_plan is_series le whole =
    let row : ℕ → Form = λ i. set_row (form i) (length plan.kinds + i * width) width in
    series_room plan form width base few is_plan
    (IsSeries-fewer plan form width base few many le is_series)
    (omega (arith, whole.wires, length_series plan form width many, mul-le-mul_right width le))
    (omega (
      arith,
      whole.few_rows,
      length-append plan.rows (listed row many),
      length_listed row many,
    ))

-- room for the next set
pub next_room : (plan now : PlanValue) (form : ℕ → Form) (width count : ℕ)
    → now ≡ series plan form width count
    → IsPlan (series plan form width (count + 1))
    → IsPlan (extended now (test_set width) (set_row (form count) (length now.kinds) width ∷ []))
next_room plan now form width count same is_plan =
    subst (λ p. IsPlan (extended p (test_set width)
    (set_row (form count) (length p.kinds) width ∷ []))) (sym same)
    (subst IsPlan (series_more plan form width count) is_plan)

-- one more form is one in a range of the plan so far
pub next_range : (plan : PlanValue) (form : ℕ → Form) (width base count next : ℕ) → next < count
    → IsSeries plan form width base count
    → IsRange (form next) width (series plan form width next)
next_range plan form width base count next h is_series = record {
  names = NamesBelow-more base (length (series plan form width next).kinds) (form next).terms
      (omega (arith, length_series plan form width next, is_series.base_within))
      (is_series.names next h);
  wide = is_series.wide;
}

-- what holds for the longer plan: the values before hold, and each form is of the width
pub series_sound : (plan : PlanValue) (form : ℕ → Form) (width base count : ℕ) (values : List ℕ)
    → NamesOwnWires plan → IsSeries plan form width base count
    → Holds (series plan form width count) values
    → Holds plan (take (length plan.kinds) values)
    × ((i : ℕ) → i < count → IsOfWidth width
    (form_value (form i) (take (length plan.kinds) values)))
series_sound plan form width base zero values own is_series holds =
    let holds' = subst (λ p. Holds p values) (series_none plan form width) holds in (
      subst (Holds plan) (sym (take_all (length plan.kinds) values
          (omega (arith, holds'.one_each))))
          holds',
      λ i h. omega arith,
    )
series_sound plan form width base (suc count) values own is_series holds =
    let start = length plan.kinds in
    let before_plan = series plan form width count in
    let m = length before_plan.kinds in
    let long = length_series plan form width count in
    let row = set_row (form count) m width in
    let fewer = IsSeries-fewer plan form width base count (suc count) (omega arith) is_series in
    let names = names_series plan form width base count own fewer in
    let holds' = subst (λ p. Holds p values)
    (ap (series plan form width) (sym (add-one count)) ∙ series_more plan form width count)
    holds in
    let before = Holds-before before_plan (test_set width) (row ∷ []) values names holds' in
    let earlier = series_sound plan form width base count (take m values) own fewer before in
    let front = take-take start m values (omega arith) in
    let range = next_range plan form width base (suc count) count (omega arith) is_series in
    let here = in_range_sound before_plan (form count) width values range holds' in
    let own_names = NamesBelow-more base start (form count).terms is_series.base_within
    (is_series.names count (omega arith)) in
    let same = form_value-take (form count) start (take m values) (omega (arith, before.one_each))
    own_names in
    let here' : IsOfWidth width (form_value (form count) (take start values)) =
    subst (λ v. IsOfWidth width (form_value (form count) v)) front
    (subst (IsOfWidth width) (sym same) here) in (
      subst (Holds plan) front earlier.0,
      λ i h. elim (cases_lt i count) [
        | inl q ↦ subst (λ v. IsOfWidth width (form_value (form i) v)) front (earlier.1 i q)
        | inr q ↦ (let this : i ≡ count = omega arith in
            subst (λ k. IsOfWidth width (form_value (form k) (take start values))) (sym this) here')
      ],
    )

-- values that hold, and the sets' own values behind them
pub series_complete : (plan : PlanValue) (form : ℕ → Form) (width base count : ℕ) (values : List ℕ)
    → NamesOwnWires plan → IsSeries plan form width base count
    → Holds plan values → ((i : ℕ) → i < count → IsOfWidth width (form_value (form i) values))
    → Holds (series plan form width count) (values ++ series_values values form width count)
series_complete plan form width base zero values own is_series holds each =
    subst (λ p. Holds p (values ++ [])) (sym (series_none plan form width))
    (subst (Holds plan) (sym (append-nil values)) holds)
series_complete plan form width base (suc count) values own is_series holds each =
    let parts = series_values values form width count in
    let before_plan = series plan form width count in
    let fewer = IsSeries-fewer plan form width base count (suc count) (omega arith) is_series in
    let before = series_complete plan form width base count values own fewer holds
    (λ i h. each i (omega arith)) in
    let names = names_series plan form width base count own fewer in
    let range = next_range plan form width base (suc count) count (omega arith) is_series in
    let own_names = NamesBelow-more base (length values) (form count).terms
    (omega (arith, holds.one_each, is_series.base_within)) (is_series.names count (omega arith))
    in
    let same = form_value_within (form count) values parts own_names in
    let longer = in_range_complete before_plan (form count) width (values ++ parts) names range
    before (subst (IsOfWidth width) (sym same) (each count (omega arith))) in
    let longer' = subst (λ x. Holds
    (extended before_plan (test_set width)
    (set_row (form count) (length before_plan.kinds) width ∷ []))
    (values ++ parts ++ bit_parts x width)) same longer in
    subst (λ p. Holds p (values ++ (parts ++ bit_parts (form_value (form count) values) width)))
    (sym (series_more plan form width count) ∙ ap (series plan form width) (add-one count))
    (subst (Holds (extended before_plan (test_set width)
    (set_row (form count) (length before_plan.kinds) width ∷ [])))
    (append_assoc values parts (bit_parts (form_value (form count) values) width)) longer')

-- what the code meets: the plan after the next set, and the values after its parts
pub series_added : (plan now next : PlanValue) (form : ℕ → Form) (width count : ℕ)
    → now ≡ series plan form width count
    → next ≡ extended now (test_set width) (set_row (form count) (length now.kinds) width ∷ [])
    → next ≡ series plan form width (count + 1)
series_added plan now next form width count same added =
    added ∙ ap (λ p. extended p (test_set width) (set_row (form count) (length p.kinds) width ∷ []))
    same ∙ sym (series_more plan form width count)

pub series_pushed : (values now next : List ℕ) (form : ℕ → Form) (width count : ℕ)
    → NamesBelow (length values) (form count).terms
    → now ≡ values ++ series_values values form width count
    → next ≡ now ++ bit_parts (form_value (form count) now) width
    → next ≡ values ++ series_values values form width (count + 1)
series_pushed values now next form width count names same pushed =
    let parts = series_values values form width count in
    let here : form_value (form count) now ≡ form_value (form count) values =
    ap (form_value (form count)) same ∙ form_value_within (form count) values parts names in
    pushed ∙ cc (
      same,
      here,
      append_assoc values parts
          (bit_parts (form_value (form count) values) width),
      joined_more (λ i. bit_parts (form_value (form i) values) width) count,
    )
