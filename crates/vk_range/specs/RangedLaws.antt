-- Ranges behind the copies of inputs: the two laws, how many wires and rows there are, and ranges
-- one after another.
use Rattle.std.specs.Prelude.{ℕ, ◌+◌, ◌*◌, ◌<◌, ◌≤◌, ◌≡◌, false, List, [], ◌∷◌, ◌++◌, All, length, take}
use Rattle.std.proofs.Common.{refl, sym, ap, ◌∙◌, subst, arith, zero, suc, add-one, length-append, append_assoc, get_or-take, mul-le-mul_left, mul-le-mul_right}
use Rattle.std.proofs.lemmas.List.{append-nil, get_or_append_left, get_or-append-add, get_or_at, take-append-le, take_at}
use Rattle.vk_residue.specs.Residue.{IsResidue}
use Rattle.vk_plan.specs.declared.form.Form.{Form}
use Rattle.vk_plan.specs.Forms.{form_value, NamesBelow}
use Rattle.vk_plan.specs.FormLaws.{form_value_within, form_value-take}
use Rattle.vk_plan.specs.Plans.{PlanValue, IsPlan, Holds, extended}
use Rattle.vk_plan.specs.PlanLaws.{Holds-before}
use Rattle.vk_range.specs.declared.ranges.Ranges.{Ranges}
use Rattle.vk_range.specs.Sets.{listed, IsOfWidth, test_set, set_row, bit_parts}
use Rattle.vk_range.specs.SetLaws.{length_listed, at_listed, listed_more, listed-same, joined-same, joined_more}
use Rattle.vk_range.specs.Series.{series, series_kinds, series_values, series_none, series_more, length_series}
use Rattle.vk_range.specs.Ranges.{no_form, form_at, AreRanges, ranges_wires, ranges_rows, ranges_values}
use Rattle.vk_range.specs.RangesLaws.{ranges_sound, ranges_complete}
use Rattle.vk_range.specs.Rooms.{ranges_room}
use Rattle.vk_range.specs.Forms.{difference_form}
use Rattle.vk_range.specs.Differences.{width_small}
use Rattle.vk_range.specs.Copies.{copies, length_copies, copies_names, IsPlan-copies, copied_sound, copies_complete}
use Rattle.vk_range.specs.Ranged.{ranges_of, with_ranges, ranged_plan, ranged_values, IsRanged, MayBeFilled, AreRanged}

-- forms that agree at each place make one series
series-same : (plan : PlanValue) (f g : ℕ → Form) (width count : ℕ)
    → ((i : ℕ) → i < count → f i ≡ g i)
    → series plan f width count ≡ series plan g width count
series-same plan f g width count same =
    let start = length plan.kinds in
    ap (λ rows. extended plan (series_kinds width count) rows)
    (listed-same (λ i. set_row (f i) (start + i * width) width)
    (λ i. set_row (g i) (start + i * width) width) count
    (λ i h. ap (λ form. set_row form (start + i * width) width) (same i h)))

-- a list with a form at its end: the forms before, and the form
module _ (forms : List Form) (form : Form) where
  form_before : (i : ℕ) → i < length forms → form_at (forms ++ form ∷ []) i ≡ form_at forms i
  form_before i h = get_or_append_left forms (form ∷ []) no_form i h

  form_last : form_at (forms ++ form ∷ []) (length forms) ≡ form
  form_last = get_or_at forms form [] no_form (length forms) refl

-- one form more
ranges_more : (plan : PlanValue) (forms : List Form) (form : Form) (width : ℕ)
    → with_ranges plan (ranges_of (forms ++ form ∷ []) width)
    ≡ extended (with_ranges plan (ranges_of forms width)) (test_set width)
    (set_row form (length (with_ranges plan (ranges_of forms width)).kinds) width ∷ [])
ranges_more plan forms form width =
    let more = forms ++ form ∷ [] in
    let next : PlanValue → Form
    → PlanValue = λ p f. extended p (test_set width) (set_row f (length p.kinds) width ∷ []) in
    ap (λ n. series plan (form_at more) width n) (length-append forms (form ∷ []))
    ∙ series_more plan (form_at more) width (length forms)
    ∙ ap (λ p. next p (form_at more (length forms)))
    (series-same plan (form_at more) (form_at forms) width (length forms) (form_before forms form))
    ∙ ap (next (with_ranges plan (ranges_of forms width))) (form_last forms form)

values_more : (values : List ℕ) (forms : List Form) (form : Form) (width : ℕ)
    → ranges_values (ranges_of (forms ++ form ∷ []) width) values
    ≡ ranges_values (ranges_of forms width) values ++ bit_parts (form_value form values) width
values_more values forms form width =
    let more = forms ++ form ∷ [] in
    let parts : Form → List ℕ = λ f. bit_parts (form_value f values) width in
    ap (λ n. series_values values (form_at more) width n) (length-append forms (form ∷ []))
    ∙ joined_more (λ i. parts (form_at more i)) (length forms)
    ∙ ap (λ front. front ++ parts (form_at more (length forms)))
    (joined-same (λ i. parts (form_at more i)) (λ i. parts (form_at forms i)) (length forms)
    (λ i h. ap parts (form_before forms form i h)))
    ∙ ap (λ f. ranges_values (ranges_of forms width) values ++ parts f) (form_last forms form)

-- the next of a function's forms, behind the forms of a list
forms_more : (forms : List Form) (form : ℕ → Form) (count : ℕ)
    → forms ++ listed form count ++ form count ∷ [] ≡ forms ++ listed form (count + 1)
forms_more forms form count = append_assoc forms (listed form count) (form count ∷ [])
    ∙ ap (λ more. forms ++ more) (sym (listed_more form count))

-- a stage of ranges behind ranges: one list of forms
pub stage_after : (plan now : PlanValue) (forms : List Form) (form : ℕ → Form) (width count : ℕ)
    → now ≡ with_ranges plan (ranges_of forms width)
    → series now form width count ≡ with_ranges plan (ranges_of (forms ++ listed form count) width)
stage_after plan now forms form width zero same =
    series_none now form width ∙ same
    ∙ ap (λ fs. with_ranges plan (ranges_of fs width)) (sym (append-nil forms))
stage_after plan now forms form width (suc n) same =
    subst (λ m. series now form width m
    ≡ with_ranges plan (ranges_of (forms ++ listed form m) width)) (add-one n)
    (series_more now form width n
    ∙ ap (λ p. extended p (test_set width) (set_row (form n) (length p.kinds) width ∷ []))
    (stage_after plan now forms form width n same)
    ∙ sym (ranges_more plan (forms ++ listed form n) (form n) width)
    ∙ ap (λ fs. with_ranges plan (ranges_of fs width)) (forms_more forms form n))

-- and its values, where its forms are of the wires before all of them
pub values_after : (values now : List ℕ) (forms : List Form) (form : ℕ → Form) (width count : ℕ)
    → ((i : ℕ) → i < count → NamesBelow (length values) (form i).terms)
    → now ≡ values ++ ranges_values (ranges_of forms width) values
    → now ++ series_values now form width count
    ≡ values ++ ranges_values (ranges_of (forms ++ listed form count) width) values
values_after values now forms form width zero names same =
    append-nil now ∙ same ∙ ap (λ fs. values ++ ranges_values (ranges_of fs width) values)
    (sym (append-nil forms))
values_after values now forms form width (suc n) names same =
    let before = values_after values now forms form width n (λ i h. names i (omega arith)) same in
    let here : form_value (form n) now ≡ form_value (form n) values =
    ap (form_value (form n)) same
    ∙ form_value_within (form n) values (ranges_values (ranges_of forms width) values)
    (names n (omega arith)) in
    let parts = bit_parts (form_value (form n) values) width in
    let front = ranges_values (ranges_of (forms ++ listed form n) width) values in
    subst (λ m. now ++ series_values now form width m
    ≡ values ++ ranges_values (ranges_of (forms ++ listed form m) width) values) (add-one n)
    (ap (λ more. now ++ more) (joined_more (λ i. bit_parts (form_value (form i) now) width) n)
    ∙ sym (append_assoc now (series_values now form width n)
    (bit_parts (form_value (form n) now) width))
    ∙ ap (λ v. v ++ bit_parts (form_value (form n) now) width) before
    ∙ ap (λ x. values ++ front ++ bit_parts x width) here
    ∙ append_assoc values front parts
    ∙ ap (λ more. values ++ more) (sym (values_more values (forms ++ listed form n) (form n) width)
    ∙ ap (λ fs. ranges_values (ranges_of fs width) values) (forms_more forms form n)))

module _ (inputs : ℕ) (relation : Ranges) where
  -- how many wires and rows there are
  pub ranged_wires : length (ranged_plan inputs relation).kinds
      ≡ inputs + inputs + length relation.forms * relation.width
  ranged_wires = length_series (copies inputs inputs) (form_at relation.forms) relation.width
      (length relation.forms) ∙ omega (arith, length_copies inputs inputs)

  pub ranged_rows : length (ranged_plan inputs relation).rows ≡ inputs + length relation.forms
  ranged_rows =
      length-append (copies inputs inputs).rows
      (ranges_rows relation (length (copies inputs inputs).kinds))
      ∙ omega (
        arith,
        length_listed (λ j. difference_form j (inputs + j) false) inputs,
        length_listed (λ i. set_row (form_at relation.forms i)
            (length (copies inputs inputs).kinds + i * relation.width) relation.width)
            (length relation.forms),
      )

  module _ (is : IsRanged inputs relation) where
    pub over_copies : AreRanges relation (length (copies inputs inputs).kinds)
    over_copies = subst (AreRanges relation) (sym (length_copies inputs inputs)) is.fits

    pub ranged_is_plan : IsPlan (ranged_plan inputs relation)
    ranged_is_plan =
        ranges_room (copies inputs inputs) relation
        (IsPlan-copies inputs inputs is.most (omega arith)) over_copies
        (omega (
          arith,
          is.most,
          length_copies inputs inputs,
          mul-le-mul_right relation.width is.few,
          mul-le-mul_left 262144 is.fits.wide.most,
        ))
        (omega (
          arith,
          is.most,
          is.few,
          length_listed (λ j. difference_form j (inputs + j) false) inputs,
        ))

    pub ranged_sound : (values : List ℕ) → Holds (ranged_plan inputs relation) values
        → AreRanged inputs relation values
    ranged_sound values holds =
        let plan = copies inputs inputs in
        let wires = length plan.kinds in
        let two = length_copies inputs inputs in
        let own = copies_names inputs inputs (omega arith) in
        let enough : inputs + inputs ≤ length values = omega (arith, holds.one_each, ranged_wires)
        in
        let before = Holds-before plan (ranges_wires relation) (ranges_rows relation wires) values
        own holds in
        let found = ranges_sound relation plan values own over_copies holds in
        record {
          enough = enough;
          residues = holds.residues;
          copied = λ j h.
              sym (get_or-take wires values j 0 (omega arith))
              ∙ copied_sound inputs j (take wires values) h before
              ∙ get_or-take wires values (inputs + j) 0 (omega arith);
          of_width = λ k d h.
              subst (IsOfWidth relation.width)
              (form_value-take _ wires values (omega arith) (over_copies.names k d h))
              (found k d h);
        }

module _ (inputs : List ℕ) (relation : Ranges) where
  -- the values begin with the inputs
  pub ranged_begins : take (length inputs) (ranged_values inputs relation) ≡ inputs
  ranged_begins =
      take-append-le (length inputs) (inputs ++ inputs) (ranges_values relation (inputs ++ inputs))
      (omega (arith, length-append inputs inputs))
      ∙ take_at inputs inputs (length inputs) refl

  pub ranged_complete : MayBeFilled inputs relation → All IsResidue inputs
      → Holds (ranged_plan (length inputs) relation) (ranged_values inputs relation)
  ranged_complete may residues =
      ranges_complete relation (copies (length inputs) (length inputs)) (inputs ++ inputs)
      (copies_names (length inputs) (length inputs) (omega arith))
      (over_copies (length inputs) relation may.ranged) (copies_complete inputs residues)
      may.of_width

  -- so many inputs of a width
  pub ranged_of_width : (count width : ℕ) → length inputs ≡ count → width ≤ 40
      → All (IsOfWidth width) inputs → MayBeFilled inputs relation
      → Holds (ranged_plan count relation) (ranged_values inputs relation)
  ranged_of_width count width same most of_width may =
      let bound = width_small width most in
      subst (λ n. Holds (ranged_plan n relation) (ranged_values inputs relation)) same
      (ranged_complete may (λ k d h. omega (arith, of_width k d h, bound)))

  -- what the code meets: the ranges fit the values of the copies
  pub over_values : IsRanged (length inputs) relation
      → AreRanges relation (length (inputs ++ inputs))
  over_values is = subst (AreRanges relation) (sym (length-append inputs inputs)) is.fits

-- what is so of all of two lists is so of all of each, and of a function's listed values of each
pub All-front : {A : Type 0} (P : A → Type 0) (front back : List A) → All P (front ++ back)
    → All P front
All-front P front back each k d h =
    subst P (get_or_append_left front back d k h)
    (each k d (omega (arith, length-append front back)))

pub All-back : {A : Type 0} (P : A → Type 0) (front back : List A) → All P (front ++ back)
    → All P back
All-back P front back each k d h =
    subst P (get_or-append-add front back k d)
    (each (length front + k) d (omega (arith, length-append front back)))

pub listed_each : {A : Type 0} (P : A → Type 0) (f : ℕ → A) (count : ℕ) → All P (listed f count)
    → (i : ℕ) → i < count → P (f i)
listed_each P f count each i h =
    subst P (at_listed f count i (f i) h) (each i (f i) (omega (arith, length_listed f count)))
