-- The two laws of a selection.
use Rattle.std.specs.Prelude.{ℕ, ◌+◌, ◌-◌, ◌*◌, ◌%◌, ◌^◌, ◌<◌, ◌≤◌, ◌≡◌, ◌≢◌, ◌⊎◌, ◌==◌, Bool, true, false, if◌then◌else◌, List, [], ◌∷◌, ◌++◌, All, length, take, slice_index, slice_index_or}
use Rattle.std.specs.Prelude.{sum as total}
use Rattle.std.specs.List.{range_with_len, position_or_len}
use Rattle.std.proofs.Common.{refl, sym, ap, ◌∙◌, subst, arith, inl, inr, zero, suc, add-one, length-append, append_assoc, get_or-take, get_or-drop}
use Rattle.std.proofs.lemmas.List.{get_or_append_left, get_or-append-add, take_at, take-take}
use Rattle.std.proofs.lemmas.List.Elements.{All-nil, All-cons, All-head}
use Rattle.std.proofs.lemmas.List.Sums.{sum_by-le, list_all-from_AllPass, AllPass-from_list_all, passes_at_first, fails_before_first, position_or_len_is}
use Rattle.std.proofs.lemmas.List.FromFn.{length-range_with_len, get_or-range_with_len}
use Rattle.std.proofs.lemmas.Bool.{cases_lt, false_from_ne_true, false≢true, eq-eqb, ne_eqb, lt-ltb, ltb-true}
use Rattle.std.proofs.lemmas.Bool.Decides.{eqb_tells}
use Rattle.std.proofs.Math.Pow.{pow_mono}
use Rattle.vk_residue.specs.Residue.{modulus, IsResidue, sum, difference, negative}
use Rattle.vk_plan.specs.declared.wire.WireKind.TheVariants.{Split, Pair}
use Rattle.vk_plan.specs.declared.form.Term.{Term}
use Rattle.vk_plan.specs.declared.form.Form.{Form}
use Rattle.vk_plan.specs.Forms.{linear_part, form_value, NamesBelow}
use Rattle.vk_plan.specs.Plans.{PlanValue, NamesOwnWires, IsPlan, Holds, HasWeight, extended, shortened}
use Rattle.vk_plan.specs.PlanLaws.{Holds-extended, FitKinds-appended, AreZero-appended, names-extended, IsPlan-extended}
use Rattle.vk_range.specs.declared.selected.SelectedIs.{SelectedIs}
use Rattle.vk_range.specs.Sets.{listed, joined, IsOfWidth, test_set, set_sum, bit_parts, plus}
use Rattle.vk_range.specs.SetLaws.{sum_listed_more, linear_plus_set, set_sum-after, joined_more, joined-same, length_listed, length_joined, at_listed, All-listed}
use Rattle.vk_range.specs.Series.{IsSeries, same_plan, series, series_kinds, series_rows, series_values, series_shorter, series_sound, series_complete}
use Rattle.vk_range.specs.Selected.{ones, IsSelection, place_form, place_number, selector_row, selected_wires, selected_rows, IsSelected, may_stand, serves, first_place, selector, selectors, place_parts, selected_values}

-- the form of a place at each value of its selector
one_arith : (all wire less : ℕ) → all < modulus
    → ((0 + (modulus - all) % modulus * 1 + 1 * wire) % modulus + (all + less) % modulus) % modulus
    ≡ (wire + less) % modulus
one_arith all wire less below = omega arith

zero_arith : (factor all wire less : ℕ)
    → ((0 + factor * 0 + 1 * wire) % modulus + (all + less) % modulus) % modulus
    ≡ (wire + (all + less) % modulus) % modulus
zero_arith factor all wire less = omega arith

ones_below : (width : ℕ) → width ≤ 40 → ones width < modulus
ones_below width small = omega (arith, pow_mono {i = width} {j = 40} small)

pub place_selected : (relation : SelectedIs) (start place : ℕ) (values : List ℕ)
    → relation.width ≤ 40
    → slice_index values (start + place) ≡ 1
    → form_value (place_form relation start place) values ≡ place_number relation values place true
unfolding form_value linear_part
place_selected relation start place values small one =
    ap (λ e. ((0 + negative (ones relation.width) * e
    + 1 * slice_index values (slice_index relation.wires place)) % modulus
    + difference (ones relation.width) relation.value) % modulus) one
    ∙ one_arith (ones relation.width) (slice_index values (slice_index relation.wires place))
    (modulus - relation.value) (ones_below relation.width small)

pub place_other : (relation : SelectedIs) (start place : ℕ) (values : List ℕ)
    → slice_index values (start + place) ≡ 0
    → form_value (place_form relation start place) values ≡ place_number relation values place false
unfolding form_value linear_part
place_other relation start place values nothing =
    ap (λ e. ((0 + negative (ones relation.width) * e
    + 1 * slice_index values (slice_index relation.wires place)) % modulus
    + difference (ones relation.width) relation.value) % modulus) nothing
    ∙ zero_arith (negative (ones relation.width)) (ones relation.width)
    (slice_index values (slice_index relation.wires place)) (modulus - relation.value)

-- the wires that the forms name
pub place_names : (relation : SelectedIs) (plan : PlanValue) (place : ℕ)
    → IsSelection relation (length plan.kinds) → place < length relation.wires
    → NamesBelow (length plan.kinds + length relation.wires)
    (place_form relation (length plan.kinds) place).terms
place_names relation plan place fits inside =
    let start = length plan.kinds in
    let Named : Term → Type 0 = λ term. term.wire < start + length relation.wires in
    let selector : Term = record { wire = start + place; factor = negative (ones relation.width) }
    in
    let named = fits.names place 0 inside in
    All-cons Named selector (plus (slice_index relation.wires place) ∷ []) (omega arith)
    (All-cons Named (plus (slice_index relation.wires place)) [] (omega arith) (All-nil Named))

-- the plan with the selectors and their row
abbrev pub selecting : SelectedIs → PlanValue → PlanValue
selecting relation plan = extended plan (listed (λ _. Pair 0) (length relation.wires))
    (selector_row relation (length plan.kinds) ∷ [])

-- and with the sets of the first places
abbrev pub stage : SelectedIs → PlanValue → ℕ → PlanValue
stage relation plan count =
    series (selecting relation plan) (place_form relation (length plan.kinds)) relation.width count

pub length_selecting : (relation : SelectedIs) (plan : PlanValue)
    → length (selecting relation plan).kinds ≡ length plan.kinds + length relation.wires
length_selecting relation plan =
    length-append plan.kinds (listed (λ _. Pair 0) (length relation.wires))
    ∙ ap (λ n. length plan.kinds + n) (length_listed (λ _. Pair 0) (length relation.wires))

pub length_selected : (relation : SelectedIs)
    → length (selected_wires relation)
    ≡ length relation.wires + length relation.wires * relation.width
length_selected relation =
    length-append (listed (λ _. Pair 0) (length relation.wires))
    (joined (λ _. test_set relation.width) (length relation.wires))
    ∙ omega (
      arith,
      length_listed (λ _. Pair 0) (length relation.wires),
      length_joined (λ _. test_set relation.width) relation.width (length relation.wires)
          (λ _. length_listed Pair relation.width),
    )

-- with the sets of all places it is the plan with the whole selection
pub stage_is : (relation : SelectedIs) (plan : PlanValue)
    → extended plan (selected_wires relation) (selected_rows relation (length plan.kinds))
    ≡ stage relation plan (length relation.wires)
stage_is relation plan =
    let start = length plan.kinds in
    let n = length relation.wires in
    let pairs = listed (λ _. Pair 0) n in
    let sets = series_kinds relation.width n in
    let row = selector_row relation start in
    let rows : ℕ → List Form = λ at. series_rows (place_form relation start) at relation.width n in
    same_plan plan.inputs (plan.kinds ++ (pairs ++ sets)) (plan.kinds ++ pairs ++ sets)
    (plan.rows ++ (row ∷ rows (start + n)))
    (plan.rows ++ row ∷ [] ++ rows (length (selecting relation plan).kinds))
    (sym (append_assoc plan.kinds pairs sets))
    (sym (append_assoc plan.rows (row ∷ []) (rows (start + n)))
    ∙ ap (λ at. (plan.rows ++ row ∷ []) ++ rows at) (sym (length_selecting relation plan)))

-- the row of the selectors names wires of the plan with them
selecting_names : (relation : SelectedIs) (plan : PlanValue)
    → All (λ row. NamesBelow (length plan.kinds
    + length (listed (λ _. Pair 0) (length relation.wires))) row.terms)
    (selector_row relation (length plan.kinds) ∷ [])
selecting_names relation plan =
    let start = length plan.kinds in
    let n = length relation.wires in
    let wires = start + length (listed (λ _. Pair 0) n) in
    let Named : Form → Type 0 = λ row. NamesBelow wires row.terms in
    All-cons Named (selector_row relation start) []
    (All-listed (λ (term : Term). term.wire < wires) (λ place. plus (start + place)) n
    (λ i h. omega (arith, length_listed (λ _. Pair 0) n)))
    (All-nil Named)

names_selecting : (relation : SelectedIs) (plan : PlanValue) → NamesOwnWires plan
    → NamesOwnWires (selecting relation plan)
names_selecting relation plan own =
    names-extended plan (listed (λ _. Pair 0) (length relation.wires))
    (selector_row relation (length plan.kinds) ∷ []) own (selecting_names relation plan)

-- the sets of the places are a series over the wires of the plan and the selectors
pub selecting_series : (relation : SelectedIs) (plan : PlanValue)
    → IsSelection relation (length plan.kinds)
    → IsSeries (selecting relation plan) (place_form relation (length plan.kinds)) relation.width
    (length plan.kinds + length relation.wires) (length relation.wires)
selecting_series relation plan fits = record {
  names = λ place inside. place_names relation plan place fits inside;
  base_within = omega (arith, length_selecting relation plan);
  wide = fits.wide;
}

-- numbers that sum to 0 are 0
none_of : (f : ℕ → ℕ) (n : ℕ) → total (listed f n) ≡ 0 → (i : ℕ) → i < n → f i ≡ 0
none_of f zero e i h = omega arith
none_of f (suc n) e i h =
    let more = subst (λ m. total (listed f m) ≡ total (listed f n) + f n) (add-one n)
    (sum_listed_more f n) in
    let before : total (listed f n) ≡ 0 = omega arith in
    elim (cases_lt i n) [
      | inl q ↦ none_of f n before i q
      | inr q ↦
          (let same : i ≡ n = omega arith in ap f same ∙ omega arith)
    ]

-- numbers of 0 and 1 that sum to 1: one of them is 1, and the others are 0
pub one_of : (f : ℕ → ℕ) (n : ℕ) → ((i : ℕ) → i < n → (f i ≡ 0) ⊎ (f i ≡ 1))
    → total (listed f n) ≡ 1
    → (p : ℕ) × (p < n) × (f p ≡ 1) × ((i : ℕ) → i < n → i ≢ p → f i ≡ 0)
one_of f zero h e = absurd (omega arith)
one_of f (suc n) h e =
    let more = subst (λ m. total (listed f m) ≡ total (listed f n) + f n) (add-one n)
    (sum_listed_more f n) in
    elim (h n (omega arith)) [
      | inl last ↦
          (let before = one_of f n (λ i l. h i (omega arith)) (omega arith) in (
            before.0,
            omega arith,
            before.2,
            λ i l ne.
                elim (cases_lt i n) [
                  | inl q ↦ before.3 i q ne
                  | inr q ↦
                      (let same : i ≡ n = omega arith in ap f same ∙ last)
                ],
          ))
      | inr last ↦ (n, omega arith, last, λ i l ne. none_of f n (omega arith) i (omega arith))
    ]

-- the first row reads the sum of the selectors
selector_row_is : (relation : SelectedIs) (start : ℕ) (values : List ℕ)
    → form_value (selector_row relation start) values
    ≡ (set_sum values start (length relation.wires) % modulus + (modulus - 1)) % modulus
unfolding form_value linear_part
selector_row_is relation start values =
    ap (λ n. (n % modulus + (modulus - 1)) % modulus)
    (linear_plus_set values start (length relation.wires))

-- the selectors are 0 or 1, and their row says that they sum to 1
few_sum : (f : ℕ → ℕ) (n : ℕ) → ((i : ℕ) → i < n → (f i ≡ 0) ⊎ (f i ≡ 1)) → total (listed f n) ≤ n
few_sum f n h =
    let each : All (λ x. x ≤ 1) (listed f n) =
    All-listed (λ x. x ≤ 1) f n
    (λ i l. elim (h i l) [ inl e ↦ omega arith | inr e ↦ omega arith ]) in
    omega (arith, sum_by-le (λ x. x) 1 (listed f n) each, length_listed f n)

one_from_row : (total : ℕ) → total ≤ 63 → (total % modulus + (modulus - 1)) % modulus ≡ 0
    → total ≡ 1
one_from_row total small nothing = omega arith

selectors_sound : (relation : SelectedIs) (plan : PlanValue) (values : List ℕ)
    → IsSelection relation (length plan.kinds) → Holds (selecting relation plan) values
    → (p : ℕ) × (p < length relation.wires) × (slice_index values (length plan.kinds + p) ≡ 1)
    × ((i : ℕ) → i < length relation.wires → i ≢ p → slice_index values (length plan.kinds + i) ≡ 0)
selectors_sound relation plan values fits holds =
    let start = length plan.kinds in
    let n = length relation.wires in
    let pairs = listed (λ _. Pair 0) n in
    let rows = selector_row relation start ∷ [] in
    let f : ℕ → ℕ = λ i. slice_index values (start + i) in
    let may : (i : ℕ) → i < n → (f i ≡ 0) ⊎ (f i ≡ 1) = λ i h.
    let here = FitKinds-appended plan pairs rows values holds i
    (omega (arith, length_listed (λ _. Pair 0) n)) in
    rw (at_listed (λ _. Pair 0) n i Split h, get_or-drop start values i 0) at here in
    let row = All-head (λ form. form_value form values ≡ 0) (selector_row relation start) []
    (AreZero-appended plan pairs rows values holds) in
    let few : total (listed f n) ≤ 63 = omega (arith, few_sum f n may, fits.most) in
    one_of f n may (one_from_row (total (listed f n)) few
    (sym (selector_row_is relation start values) ∙ row))

-- a place's number is of the values of the wires before alone
place_number-take : (relation : SelectedIs) (wires place : ℕ) (values : List ℕ) (selected : Bool)
    → slice_index relation.wires place < wires
    → place_number relation (take wires values) place selected
    ≡ place_number relation values place selected
place_number-take relation wires place values true h =
    ap (λ wire. difference wire relation.value)
    (get_or-take wires values (slice_index relation.wires place) 0 h)
place_number-take relation wires place values false h =
    ap (λ wire. sum wire (difference (ones relation.width) relation.value))
    (get_or-take wires values (slice_index relation.wires place) 0 h)

pub selected_sound : (relation : SelectedIs) (plan : PlanValue) (values : List ℕ)
    → NamesOwnWires plan → IsSelection relation (length plan.kinds)
    → Holds (extended plan (selected_wires relation) (selected_rows relation (length plan.kinds)))
    values
    → (p : ℕ) × IsSelected relation (take (length plan.kinds) values) p
selected_sound relation plan values own fits holds =
    let start = length plan.kinds in
    let n = length relation.wires in
    let width = relation.width in
    let base = length (selecting relation plan).kinds in
    let long = length_selecting relation plan in
    let front = take base values in
    let whole = series_sound (selecting relation plan) (place_form relation start) width (start + n)
    n values (names_selecting relation plan own) (selecting_series relation plan fits)
    (subst (λ p. Holds p values) (stage_is relation plan) holds) in
    let one = selectors_sound relation plan front fits whole.0 in
    let number : (place : ℕ) (selected : Bool) → place < n
    → place_number relation front place selected
    ≡ place_number relation (take start values) place selected =
    λ place selected h. sym (place_number-take relation start place front selected
    (fits.names place 0 h))
    ∙ ap (λ v. place_number relation v place selected) (take-take start base values (omega arith))
    in (
      one.0,
      record {
        is_place = one.1;
        here = subst (IsOfWidth width)
            (place_selected relation start one.0 front fits.wide.most one.2
            ∙ number one.0 true one.1) (whole.1 one.0 one.1);
        others = λ other h ne.
            subst (IsOfWidth width)
            (place_other relation start other front (one.3 other h ne) ∙ number other false h)
            (whole.1 other h);
      },
    )

-- the selector of one place among several
selector_here : (place other : ℕ) → (other == place) ≡ true → selector place other ≡ 1
selector_here place other e = cc

selector_there : (place other : ℕ) → (other == place) ≡ false → selector place other ≡ 0
selector_there place other e = cc

selector_is : (place other : ℕ) → (selector place other ≡ 0) ⊎ (selector place other ≡ 1)
selector_is place other =
    elim (eqb_tells other place) [
      | inl e ↦ inr (selector_here place other e.0)
      | inr e ↦ inl
          (selector_there place other e.0)
    ]

selectors_more : (place n : ℕ)
    → total (selectors (suc n) place) ≡ total (selectors n place) + selector place n
selectors_more place n = subst
    (λ m. total (selectors m place) ≡ total (selectors n place) + selector place n) (add-one n)
    (sum_listed_more (selector place) n)

selectors_before : (place n : ℕ) → n ≤ place → total (selectors n place) ≡ 0
selectors_before place zero h = omega arith
selectors_before place (suc n) h =
    selectors_more place n ∙ omega (
      arith,
      selectors_before place n (omega arith),
      selector_there place n (ne_eqb n place (omega arith)),
    )

selectors_sum : (place n : ℕ) → place < n → total (selectors n place) ≡ 1
selectors_sum place zero h = absurd (omega arith)
selectors_sum place (suc n) h =
    selectors_more place n ∙ elim (eqb_tells n place) [
      | inl e ↦ omega (
        arith,
        selectors_before place n (omega (arith, e.1)),
        selector_here place n e.0,
      )
      | inr e ↦ omega (
        arith,
        selectors_sum place n (omega (arith, e.1)),
        selector_there place n e.0,
      )
    ]

-- the selectors hold
selecting_holds : (relation : SelectedIs) (plan : PlanValue) (values : List ℕ) (place : ℕ)
    → NamesOwnWires plan → IsSelection relation (length plan.kinds)
    → Holds plan values → place < length relation.wires
    → Holds (selecting relation plan) (values ++ selectors (length relation.wires) place)
selecting_holds relation plan values place own fits holds inside =
    let start = length plan.kinds in
    let n = length relation.wires in
    let pairs = listed (λ _. Pair 0) n in
    let f : ℕ → ℕ = selector place in
    let chosen = selectors n place in
    let row = selector_row relation start in
    let whole = values ++ chosen in
    let sums : set_sum whole start n ≡ 1 =
    subst (λ at. set_sum whole at n ≡ 1) holds.one_each
    (set_sum-after values f n ∙ selectors_sum place n inside) in
    let nothing : form_value row whole ≡ 0 = selector_row_is relation start whole ∙ omega arith in
    Holds-extended plan pairs (row ∷ []) values chosen own holds
    (length_listed f n ∙ sym (length_listed (λ _. Pair 0) n))
    (All-listed IsResidue f n (λ i h. elim (selector_is place i)
    [ inl e ↦ omega (arith, e) | inr e ↦ omega (arith, e) ]))
    (λ w h.
    let w_inside : w < n = omega (arith, length_listed (λ _. Pair 0) n) in
    rw (at_listed (λ _. Pair 0) n w Split w_inside, at_listed f n w 0 w_inside)
    (selector_is place w))
    (All-cons (λ form. form_value form whole ≡ 0) row [] nothing
    (All-nil (λ form. form_value form whole ≡ 0)))

place_number-append : (relation : SelectedIs) (place : ℕ) (values more : List ℕ) (selected : Bool)
    → slice_index relation.wires place < length values
    → place_number relation (values ++ more) place selected
    ≡ place_number relation values place selected
place_number-append relation place values more true h =
    ap (λ wire. difference wire relation.value)
    (get_or_append_left values more 0 (slice_index relation.wires place) h)
place_number-append relation place values more false h =
    ap (λ wire. sum wire (difference (ones relation.width) relation.value))
    (get_or_append_left values more 0 (slice_index relation.wires place) h)

-- the form of a place whose selector is that of a test
place_value : (relation : SelectedIs) (start place : ℕ) (values : List ℕ) (selected : Bool)
    → relation.width ≤ 40
    → slice_index values (start + place) ≡ (if selected then 1 else 0)
    → form_value (place_form relation start place) values
    ≡ place_number relation values place selected
place_value relation start place values true small e =
    place_selected relation start place values small e
place_value relation start place values false small e = place_other relation start place values e

-- each place's number is of the width
place_in_range : (relation : SelectedIs) (values : List ℕ) (place other : ℕ)
    → IsSelected relation values place → other < length relation.wires
    → IsOfWidth relation.width (place_number relation values other (other == place))
place_in_range relation values place other selected h =
    elim (eqb_tells other place) [
      | inl e ↦ subst (λ b. IsOfWidth relation.width (place_number relation values other b))
          (sym e.0)
          (subst (λ p. IsOfWidth relation.width (place_number relation values p true)) (sym e.1)
          selected.here)
      | inr e ↦ subst (λ b. IsOfWidth relation.width (place_number relation values other b))
          (sym e.0) (selected.others other h e.1)
    ]

-- the selection holds with the selector and the parts of a place that may be selected
place_complete : (relation : SelectedIs) (plan : PlanValue) (values : List ℕ) (place : ℕ)
    → NamesOwnWires plan → IsSelection relation (length plan.kinds)
    → Holds plan values → IsSelected relation values place
    → Holds (extended plan (selected_wires relation) (selected_rows relation (length plan.kinds)))
    (values ++ (selectors (length relation.wires) place
    ++ joined (place_parts relation values place) (length relation.wires)))
place_complete relation plan values place own fits holds selected =
    let start = length plan.kinds in
    let n = length relation.wires in
    let width = relation.width in
    let chosen = selectors n place in
    let before = values ++ chosen in
    let form = place_form relation start in
    let parts = joined (place_parts relation values place) n in
    let number : (i : ℕ) → i < n
    → form_value (form i) before ≡ place_number relation values i (i == place) = λ i h.
    let named = fits.names i 0 h in
    let chooses : slice_index before (start + i) ≡ selector place i =
    subst (λ at. slice_index before (at + i) ≡ selector place i) holds.one_each
    (get_or-append-add values chosen i 0 ∙ at_listed (selector place) n i 0 h) in
    place_value relation start i before (i == place) fits.wide.most chooses
    ∙ place_number-append relation i values chosen (i == place) (omega (arith, holds.one_each)) in
    let all = series_complete (selecting relation plan) form width (start + n) n before
    (names_selecting relation plan own) (selecting_series relation plan fits)
    (selecting_holds relation plan values place own fits holds selected.is_place)
    (λ i h. subst (IsOfWidth width) (sym (number i h))
    (place_in_range relation values place i selected h)) in
    let same : series_values before form width n ≡ parts =
    joined-same (λ i. bit_parts (form_value (form i) before) width)
    (place_parts relation values place) n (λ i h. ap (λ x. bit_parts x width) (number i h)) in
    subst (λ p. Holds p (values ++ (chosen ++ parts))) (sym (stage_is relation plan))
    (subst (Holds (stage relation plan n))
    (ap (λ more. before ++ more) same ∙ append_assoc values chosen parts) all)

-- the test of a place says what it is to be selected
at_range : (n k d : ℕ) → k < n → slice_index_or (range_with_len 0 n) k d ≡ k
at_range n k d h = get_or-range_with_len 0 n k d h ∙ omega arith

-- where every wire may stand, the place serves: the end of a search
pub serves_all : (relation : SelectedIs) (values : List ℕ) (place : ℕ)
    → ((k : ℕ) → k < length relation.wires → may_stand relation values place k ≡ true)
    → serves relation values place ≡ true
unfolding serves
serves_all relation values place h =
    let n = length relation.wires in
    list_all-from_AllPass (may_stand relation values place) (range_with_len 0 n) (λ k d l.
    let inside : k < n = omega (arith, length-range_with_len 0 n) in
    subst (λ other. may_stand relation values place other ≡ true) (sym (at_range n k d inside))
    (h k inside))

pub serves_from : (relation : SelectedIs) (values : List ℕ) (place : ℕ)
    → IsSelected relation values place → serves relation values place ≡ true
serves_from relation values place selected = serves_all relation values place (λ k inside.
    lt-ltb (place_number relation values k (k == place)) (2 ^ relation.width)
    (place_in_range relation values place k selected inside))

pub selected_from : (relation : SelectedIs) (values : List ℕ) (place : ℕ)
    → place < length relation.wires → serves relation values place ≡ true
    → IsSelected relation values place
unfolding serves
selected_from relation values place inside test =
    let n = length relation.wires in
    let all = AllPass-from_list_all (may_stand relation values place) (range_with_len 0 n) test in
    let stands : (other : ℕ) → other < n
    → IsOfWidth relation.width (place_number relation values other (other == place)) =
    λ other h.
    ltb-true (place_number relation values other (other == place)) (2 ^ relation.width)
    (subst (λ o. may_stand relation values place o ≡ true) (at_range n other 0 h)
    (all other 0 (omega (arith, length-range_with_len 0 n)))) in
    record {
      is_place = inside;
      here = subst (λ b. IsOfWidth relation.width (place_number relation values place b))
          (eq-eqb place place refl) (stands place inside);
      others = λ other h ne. subst
          (λ b. IsOfWidth relation.width (place_number relation values other b))
          (ne_eqb other place ne) (stands other h);
    }

-- the first place that may be selected, where there is one
pub first_place_is_selected : (relation : SelectedIs) (values : List ℕ)
    → first_place relation values < length relation.wires
    → IsSelected relation values (first_place relation values)
unfolding first_place
first_place_is_selected relation values inside =
    let n = length relation.wires in
    let test = serves relation values in
    let first = first_place relation values in
    selected_from relation values first inside
    (subst (λ p. serves relation values p ≡ true) (at_range n first 0 inside)
    (passes_at_first test (range_with_len 0 n) 0 (omega (arith, length-range_with_len 0 n))))

-- where some place may be selected, the first such place may be
first_is_selected : (relation : SelectedIs) (values : List ℕ) (place : ℕ)
    → IsSelected relation values place → IsSelected relation values (first_place relation values)
unfolding first_place
first_is_selected relation values place selected =
    let n = length relation.wires in
    let xs = range_with_len 0 n in
    let test = serves relation values in
    let long = length-range_with_len 0 n in
    let first = position_or_len test xs in
    elim (cases_lt first (length xs)) [
      | inl q ↦ first_place_is_selected relation values (omega arith)
      | inr q ↦
          (let fails = subst (λ p. serves relation values p ≡ false)
          (at_range n place 0 selected.is_place)
          (fails_before_first test xs place 0 (omega (arith, selected.is_place))) in
          absurd (false≢true (sym fails ∙ serves_from relation values place selected)))
    ]

pub selected_complete : (relation : SelectedIs) (plan : PlanValue) (values : List ℕ) (place : ℕ)
    → NamesOwnWires plan → IsSelection relation (length plan.kinds)
    → Holds plan values → IsSelected relation values place
    → Holds (extended plan (selected_wires relation) (selected_rows relation (length plan.kinds)))
    (values ++ selected_values relation values)
selected_complete relation plan values place own fits holds selected =
    place_complete relation plan values (first_place relation values) own fits holds
    (first_is_selected relation values place selected)

-- where it fits a plan of as many wires as there are values
pub IsSelection-over : (relation : SelectedIs) (values : List ℕ)
    → ((plan : PlanValue) × (IsSelection relation (length plan.kinds)
    × (length plan.kinds ≡ length values))) → IsSelection relation (length values)
IsSelection-over relation values fits = subst (IsSelection relation) fits.1.1 fits.1.0

-- the early end of a search
pub serves_not : (relation : SelectedIs) (values : List ℕ) (place other : ℕ)
    → other < length relation.wires
    → may_stand relation values place other ≡ false → serves relation values place ≡ false
unfolding serves
serves_not relation values place other h fails =
    let n = length relation.wires in
    false_from_ne_true (serves relation values place) (λ test.
    let all = AllPass-from_list_all (may_stand relation values place) (range_with_len 0 n) test in
    let passes = subst (λ o. may_stand relation values place o ≡ true) (at_range n other 0 h)
    (all other 0 (omega (arith, length-range_with_len 0 n))) in
    false≢true (sym fails ∙ passes))

pub first_place_found : (relation : SelectedIs) (values : List ℕ) (place : ℕ)
    → place ≤ length relation.wires
    → ((k : ℕ) → k < place → serves relation values k ≡ false)
    → (place < length relation.wires → serves relation values place ≡ true)
    → place ≡ first_place relation values
unfolding first_place
first_place_found relation values place few fails passes =
    let n = length relation.wires in
    let long = length-range_with_len 0 n in
    sym (position_or_len_is (serves relation values) (range_with_len 0 n) place 0 (omega arith)
    (λ k h. subst (λ p. serves relation values p ≡ false) (sym (at_range n k 0 (omega arith)))
    (fails k h))
    (λ h. let inside : place < n = omega arith in
    subst (λ p. serves relation values p ≡ true) (sym (at_range n place 0 inside))
    (passes inside)))

-- the plan with the selectors is one, where there is room
pub selecting_room : (relation : SelectedIs) (plan : PlanValue) → IsPlan plan
    → length plan.kinds + length relation.wires ≤ 16777216 → length plan.rows + 1 ≤ 16777216
    → IsPlan (selecting relation plan)
selecting_room relation plan is_plan wires rows =
    let n = length relation.wires in
    IsPlan-extended plan (listed (λ _. Pair 0) n) (selector_row relation (length plan.kinds) ∷ [])
    is_plan (All-listed HasWeight (λ _. Pair 0) n (λ i h. omega arith))
    (selecting_names relation plan) (omega (arith, length_listed (λ _. Pair 0) n)) (omega arith)

-- and where there is room for the whole selection, as the plans after it are
pub IsPlan-selecting : (relation : SelectedIs) (plan : PlanValue) → IsPlan plan
    → IsPlan (extended plan (selected_wires relation) (selected_rows relation (length plan.kinds)))
    → IsPlan (selecting relation plan)
IsPlan-selecting relation plan is_plan whole =
    selecting_room relation plan is_plan
    (omega (
      arith,
      whole.wires,
      length-append plan.kinds (selected_wires relation),
      length_selected relation,
    ))
    (omega (
      arith,
      whole.few_rows,
      length-append plan.rows (selected_rows relation (length plan.kinds)),
    ))

pub IsPlan-stage : (relation : SelectedIs) (plan : PlanValue) (count : ℕ) → IsPlan plan
    → IsSelection relation (length plan.kinds)
    → IsPlan (extended plan (selected_wires relation) (selected_rows relation (length plan.kinds)))
    → count ≤ length relation.wires
    → IsPlan (stage relation plan count)
IsPlan-stage relation plan count is_plan fits whole few =
    series_shorter (selecting relation plan) (place_form relation (length plan.kinds))
    relation.width (length plan.kinds + length relation.wires) count (length relation.wires)
    (IsPlan-selecting relation plan is_plan whole) (selecting_series relation plan fits) few
    (subst IsPlan (stage_is relation plan) whole)

-- the plan cut back
take_front : {A : Type 0} (xs ys zs : List A) → take (length xs) (xs ++ ys ++ zs) ≡ xs
take_front xs ys zs = ap (take (length xs)) (append_assoc xs ys zs)
    ∙ take_at xs (ys ++ zs) (length xs) refl

pub stage_cut : (relation : SelectedIs) (plan now : PlanValue) (count : ℕ)
    → now ≡ stage relation plan count
    → shortened now (length plan.kinds) (length plan.rows) ≡ plan
stage_cut relation plan now count same =
    ap (λ p. shortened p (length plan.kinds) (length plan.rows)) same
    ∙ same_plan plan.inputs (take (length plan.kinds) (stage relation plan count).kinds) plan.kinds
    (take (length plan.rows) (stage relation plan count).rows) plan.rows
    (take_front plan.kinds (listed (λ _. Pair 0) (length relation.wires))
    (series_kinds relation.width count))
    (take_front plan.rows (selector_row relation (length plan.kinds) ∷ [])
    (series_rows (place_form relation (length plan.kinds))
    (length (selecting relation plan).kinds) relation.width count))

-- the parts of the next place, after the values so far
pub place_pushed : (relation : SelectedIs) (values now next : List ℕ) (place count number : ℕ)
    → IsSelection relation (length values) → count < length relation.wires
    → now ≡ values ++ (selectors (length relation.wires) place
    ++ joined (place_parts relation values place) count)
    → number ≡ place_number relation now count (count == place)
    → next ≡ now ++ bit_parts number relation.width
    → next ≡ values ++ (selectors (length relation.wires) place
    ++ joined (place_parts relation values place) (count + 1))
place_pushed relation values now next place count number fits inside same is pushed =
    let chosen = selectors (length relation.wires) place in
    let parts = joined (place_parts relation values place) count in
    let here : number ≡ place_number relation values count (count == place) =
    is ∙ ap (λ v. place_number relation v count (count == place)) same
    ∙ place_number-append relation count values (chosen ++ parts) (count == place)
    (fits.names count 0 inside) in
    pushed ∙ cc (
      same,
      here,
      append_assoc values (chosen ++ parts)
          (place_parts relation values place count),
      append_assoc chosen parts (place_parts relation values place count),
      joined_more (place_parts relation values place) count,
    )
