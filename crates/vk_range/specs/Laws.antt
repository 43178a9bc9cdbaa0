-- The two laws of each relation: what its rows show, and that its own values make them 0.
use Rattle.std.specs.Prelude.{ℕ, ◌+◌, ◌-◌, ◌*◌, ◌%◌, ◌<◌, ◌≤◌, ◌≡◌, Bool, false, List, [], ◌∷◌, ◌++◌, length, take, slice_index, slice_index_or}
use Rattle.std.proofs.Common.{refl, zero, suc, sym, ◌∙◌, subst, arith, get_or-drop, length-append}
use Rattle.std.proofs.lemmas.List.{length-take-le, get_or_append_left, get_or_at}
use Rattle.std.proofs.lemmas.List.Elements.{All-cons, All-nil, All-head, All-take}
use Rattle.vk_residue.specs.Residue.{modulus, IsResidue}
use Rattle.vk_plan.specs.declared.wire.WireKind.{WireKind}
use Rattle.vk_plan.specs.declared.wire.WireKind.TheVariants.{Split, Pair}
use Rattle.vk_plan.specs.declared.form.Term.{Term}
use Rattle.vk_plan.specs.declared.form.Form.{Form}
use Rattle.vk_plan.specs.Forms.{linear_part, form_value, NamesBelow}
use Rattle.vk_plan.specs.FormLaws.{form_value-take, form_value_within}
use Rattle.vk_plan.specs.Plans.{PlanValue, NamesOwnWires, Holds, MayHave, extended}
use Rattle.vk_plan.specs.PlanLaws.{AreZero, Holds-extended, FitKinds-appended, AreZero-appended}
use Rattle.vk_range.specs.Sets.{IsOfWidth, test_set, set_row, bit_part, bit_parts, plus, minus}
use Rattle.vk_range.specs.Forms.{difference_form, IsRange}
use Rattle.vk_range.specs.SetLaws.{length_listed, at_listed, bit_parts_below, bit_parts_fit, set_row_sound, set_row_filled}

-- one appended row is 0
pub one_row : (plan : PlanValue) (kinds : List WireKind) (row : Form) (values : List ℕ)
    → Holds (extended plan kinds (row ∷ [])) values → form_value row values ≡ 0
one_row plan kinds row values holds =
    All-head (λ form. form_value form values ≡ 0) row []
    (AreZero-appended plan kinds (row ∷ []) values holds)

one_zero : (row : Form) (values : List ℕ) → form_value row values ≡ 0 → AreZero (row ∷ []) values
one_zero row values zero' = All-cons (λ form. form_value form values ≡ 0) row [] zero'
    (All-nil (λ form. form_value form values ≡ 0))

-- there are values of the wires before
pub long_enough : (plan : PlanValue) (kinds : List WireKind) (rows : List Form) (values : List ℕ)
    → Holds (extended plan kinds rows) values → length plan.kinds ≤ length values
long_enough plan kinds rows values holds =
    omega (arith, holds.one_each, length-append plan.kinds kinds)

-- a form that is 0
pub sum_is_sound : (plan : PlanValue) (form : Form) (values : List ℕ)
    → NamesBelow (length plan.kinds) form.terms
    → Holds (extended plan [] (form ∷ [])) values
    → form_value form (take (length plan.kinds) values) ≡ 0
sum_is_sound plan form values names holds =
    form_value-take form (length plan.kinds) values (long_enough plan [] (form ∷ []) values holds)
    names ∙ one_row plan [] form values holds

pub sum_is_complete : (plan : PlanValue) (form : Form) (values : List ℕ) → NamesOwnWires plan
    → NamesBelow (length plan.kinds) form.terms
    → Holds plan values → form_value form values ≡ 0
    → Holds (extended plan [] (form ∷ [])) (values ++ [])
sum_is_complete plan form values own names holds zero' =
    Holds-extended plan [] (form ∷ []) values [] own holds refl (All-nil IsResidue)
    (λ w h. omega arith)
    (one_zero form (values ++ [])
    (form_value_within form values []
    (subst (λ n. NamesBelow n form.terms) (sym holds.one_each) names) ∙ zero'))

-- a form of a width
pub in_range_sound : (plan : PlanValue) (form : Form) (width : ℕ) (values : List ℕ)
    → IsRange form width plan
    → Holds (extended plan (test_set width) (set_row form (length plan.kinds) width ∷ [])) values
    → IsOfWidth width (form_value form (take (length plan.kinds) values))
in_range_sound plan form width values fits holds =
    let start = length plan.kinds in
    let row = set_row form start width in
    let enough = long_enough plan (test_set width) (row ∷ []) values holds in
    let fit : (i : ℕ) → i < width → MayHave (Pair i) (slice_index values (start + i)) =
    λ i h.
    let here = FitKinds-appended plan (test_set width) (row ∷ []) values holds i
    (omega (arith, length_listed Pair width)) in
    rw (at_listed Pair width i Split h, get_or-drop start values i 0) at here in
    subst (IsOfWidth width) (sym (form_value-take form start values enough fits.names))
    (set_row_sound form start width values (omega (arith, fits.wide.most)) fit
    (one_row plan (test_set width) row values holds))

pub in_range_complete : (plan : PlanValue) (form : Form) (width : ℕ) (values : List ℕ)
    → NamesOwnWires plan → IsRange form width plan
    → Holds plan values → IsOfWidth width (form_value form values)
    → Holds (extended plan (test_set width) (set_row form (length plan.kinds) width ∷ []))
    (values ++ bit_parts (form_value form values) width)
in_range_complete plan form width values own fits holds below =
    let number = form_value form values in
    let small : width ≤ 60 = omega (arith, fits.wide.most) in
    let names = subst (λ n. NamesBelow n form.terms) (sym holds.one_each) fits.names in
    let filled = set_row_filled form width values small names below in
    Holds-extended plan (test_set width) (set_row form (length plan.kinds) width ∷ []) values
    (bit_parts number width) own holds
    (length_listed (bit_part number) width ∙ sym (length_listed Pair width))
    (bit_parts_below number width small)
    (bit_parts_fit number width)
    (one_zero (set_row form (length plan.kinds) width) (values ++ bit_parts number width)
    (subst (λ n. form_value (set_row form n width) (values ++ bit_parts number width) ≡ 0)
    holds.one_each filled))

-- a difference, as one remainder
pub difference_value : (left right : ℕ) (strict : Bool) (values : List ℕ)
    → form_value (difference_form left right strict) values
    ≡ (slice_index values left + (modulus - 1) * slice_index values right
    + (difference_form left right strict).constant) % modulus
unfolding form_value linear_part
difference_value left right strict values = omega arith

pub same_from_zero : (a b : ℕ) → a < modulus → b < modulus
    → (a + (modulus - 1) * b + 0) % modulus ≡ 0 → a ≡ b
same_from_zero a b ha hb h = omega arith

pub zero_from_same : (a b : ℕ) → a ≡ b → (a + (modulus - 1) * b + 0) % modulus ≡ 0
zero_from_same a b h = omega arith

-- both wires of a difference are there
pub difference_names : (wires left right : ℕ) (strict : Bool) → left < wires → right < wires
    → NamesBelow wires (difference_form left right strict).terms
difference_names wires left right strict l r =
    let Named : Term → Type 0 = λ term. term.wire < wires in
    All-cons Named (plus left) (minus right ∷ []) l
    (All-cons Named (minus right) [] r (All-nil Named))

-- the one wire of a form is there
pub one_name : (wires : ℕ) (term : Term) → term.wire < wires → NamesBelow wires (term ∷ [])
one_name wires term h = All-cons (λ (t : Term). t.wire < wires) term [] h
    (All-nil (λ (t : Term). t.wire < wires))

pub equal_sound : (plan : PlanValue) (left right : ℕ) (values : List ℕ) → left < length plan.kinds
    → right < length plan.kinds
    → Holds (extended plan [] (difference_form left right false ∷ [])) values
    → slice_index (take (length plan.kinds) values) left
    ≡ slice_index (take (length plan.kinds) values) right
equal_sound plan left right values l r holds =
    let start = length plan.kinds in
    let form = difference_form left right false in
    let enough = long_enough plan [] (form ∷ []) values holds in
    let front = length-take-le start values enough in
    let residues = All-take IsResidue start values holds.residues in
    let nothing = sum_is_sound plan form values (difference_names start left right false l r) holds
    in
    same_from_zero (slice_index (take start values) left) (slice_index (take start values) right)
    (residues left 0 (omega arith)) (residues right 0 (omega arith))
    (sym (difference_value left right false (take start values)) ∙ nothing)

pub equal_complete : (plan : PlanValue) (left right : ℕ) (values : List ℕ) → NamesOwnWires plan
    → left < length plan.kinds → right < length plan.kinds
    → Holds plan values → slice_index values left ≡ slice_index values right
    → Holds (extended plan [] (difference_form left right false ∷ [])) (values ++ [])
equal_complete plan left right values own l r holds same =
    sum_is_complete plan (difference_form left right false) values own
    (difference_names (length plan.kinds) left right false l r) holds
    (difference_value left right false values
    ∙ zero_from_same (slice_index values left) (slice_index values right) same)

-- a wire of any value fits
split_fits : (value w : ℕ) → MayHave (slice_index_or (Split ∷ []) w Split)
    (slice_index (value ∷ []) w)
split_fits value zero = tt
split_fits value (suc w) = tt

pub copied_complete : (plan : PlanValue) (wire : ℕ) (values : List ℕ) → NamesOwnWires plan
    → wire < length plan.kinds → Holds plan values
    → Holds (extended plan (Split ∷ []) (difference_form wire (length plan.kinds) false ∷ []))
    (values ++ slice_index values wire ∷ [])
copied_complete plan wire values own l holds =
    let start = length plan.kinds in
    let value = slice_index values wire in
    let whole = values ++ value ∷ [] in
    let here = get_or_append_left values (value ∷ []) 0 wire (omega (arith, holds.one_each)) in
    let there = get_or_at values value [] 0 start holds.one_each in
    let residue : IsResidue value = holds.residues wire 0 (omega (arith, holds.one_each)) in
    Holds-extended plan (Split ∷ []) (difference_form wire start false ∷ []) values (value ∷ []) own
    holds refl
    (All-cons IsResidue value [] residue (All-nil IsResidue))
    (λ w h. split_fits value w)
    (one_zero (difference_form wire start false) whole
    (difference_value wire start false whole
    ∙ zero_from_same (slice_index whole wire) (slice_index whole start) (here ∙ sym there)))

pub at_least_sound : (plan : PlanValue) (left right : ℕ) (strict : Bool) (width : ℕ)
    (values : List ℕ)
    → left < length plan.kinds → right < length plan.kinds → 1 ≤ width → width ≤ 40
    → Holds (extended plan (test_set width)
    (set_row (difference_form left right strict) (length plan.kinds) width ∷ [])) values
    → IsOfWidth width (form_value (difference_form left right strict)
    (take (length plan.kinds) values))
at_least_sound plan left right strict width values l r some most holds =
    in_range_sound plan (difference_form left right strict) width values
    (record {
      names = difference_names (length plan.kinds) left right strict l r;
      wide = record { least = some; most = most };
    }) holds

pub at_least_complete : (plan : PlanValue) (left right : ℕ) (strict : Bool) (width : ℕ)
    (values : List ℕ) → NamesOwnWires plan
    → left < length plan.kinds → right < length plan.kinds → 1 ≤ width → width ≤ 40
    → Holds plan values → IsOfWidth width (form_value (difference_form left right strict) values)
    → Holds (extended plan (test_set width)
    (set_row (difference_form left right strict) (length plan.kinds) width ∷ []))
    (values ++ bit_parts (form_value (difference_form left right strict) values) width)
at_least_complete plan left right strict width values own l r some most holds below =
    in_range_complete plan (difference_form left right strict) width values own
    (record {
      names = difference_names (length plan.kinds) left right strict l r;
      wide = record { least = some; most = most };
    }) holds below
