-- The two laws of the relation, and what it says of numbers of the width.
use Rattle.std.specs.Prelude.{ℕ, ◌+◌, ◌-◌, ◌*◌, ◌%◌, ◌^◌, ◌<◌, ◌≤◌, ◌≡◌, ◌⊎◌, ◌↔◌, ◌&&◌, Bool, true, false, nat_lt, List, [], ◌∷◌, ◌++◌, All, length, take, slice_index}
use Rattle.std.proofs.Common.{refl, sym, ap, ◌∙◌, subst, arith, inl, inr, zero, suc, length-append, append_assoc}
use Rattle.std.proofs.lemmas.List.{append-nil, length-replicate, get_or_at, take-take}
use Rattle.std.proofs.lemmas.List.Elements.{All-nil, All-cons, All-head, All-tail}
use Rattle.std.proofs.lemmas.Nat.{pow-add}
use Rattle.std.proofs.lemmas.Bool.{false≢true, and_from, and_parts, lt-ltb, ltb-true}
use Rattle.std.proofs.Math.Pow.{pow_mono}
use Rattle.vk_residue.specs.Residue.{modulus, IsResidue, negative}
use Rattle.vk_plan.specs.declared.wire.WireKind.TheVariants.{Split, Pair}
use Rattle.vk_plan.specs.declared.form.Term.{Term}
use Rattle.vk_plan.specs.declared.form.Form.{Form}
use Rattle.vk_plan.specs.Forms.{linear_part, form_value, NamesBelow}
use Rattle.vk_plan.specs.FormLaws.{form_value-take, form_value_within, NamesBelow-more}
use Rattle.vk_plan.specs.Plans.{PlanValue, NamesOwnWires, Holds, MayHave, plan_of_inputs, extended}
use Rattle.vk_plan.specs.PlanLaws.{FitKinds, Holds-extended, Holds-before, names-extended}
use Rattle.vk_range.specs.Sets.{IsOfWidth, test_set, set_row, plus, minus, bit_parts}
use Rattle.vk_range.specs.SetLaws.{length_listed, set_row_names}
use Rattle.vk_range.specs.Laws.{difference_names, one_name}
use Rattle.vk_range.specs.Ranges.{AreRanges, AreOfWidth, ranges_wires, ranges_rows, ranges_values}
use Rattle.vk_range.specs.RangesLaws.{ranges_sound, ranges_complete}
use Rattle.vk_range.specs.Series.{same_plan}
use Rattle.vk_matching.specs.declared.either.EitherAtLeast.{EitherAtLeast}
use Rattle.vk_matching.specs.Eithers.{IsEither, IsEitherAtLeast, first_at, second_at, first_form, second_form, shifted_form, paired_form, paired_ranges, ranges_at, e_value, is_one, either_wires, either_rows, either_values}

-- both of two forms
both : (P : Form → Type 0) (first second : Form) → P first → P second → All P (first ∷ second ∷ [])
both P first second of_first of_second =
    All-cons P first (second ∷ []) of_first (All-cons P second [] of_second (All-nil P))

module _ (P : Form → Type 0) (first second : Form) (each : All P (first ∷ second ∷ [])) where
  of_first : P first
  of_first = All-head P first (second ∷ []) each

  of_second : P second
  of_second = All-head P second [] (All-tail P first (second ∷ []) each)

-- the forms for an e: they name wires that are there, so that more values behind change nothing
module _ (relation : EitherAtLeast) (e : Bool) (wires : ℕ) (fits : IsEither relation wires) where
  first_names : NamesBelow wires (first_at relation e).terms
  first_names = difference_names wires relation.first_left relation.first_right false
      fits.first_left fits.first_right

  second_names : NamesBelow wires (second_at relation e).terms
  second_names = difference_names wires relation.second_left relation.second_right false
      fits.second_left fits.second_right

  pub ranges_fit : AreRanges (ranges_at relation e) wires
  ranges_fit = record {
    names = both (λ form. NamesBelow wires form.terms) (first_at relation e) (second_at relation e)
        first_names second_names;
    wide = record { least = omega arith; most = omega (arith, fits.most) };
  }

module _ (relation : EitherAtLeast) (e : Bool) (values more : List ℕ) (fits : IsEither relation (length values)) where
  first_within : form_value (first_at relation e) (values ++ more)
      ≡ form_value (first_at relation e) values
  first_within = form_value_within (first_at relation e) values more
      (first_names relation e (length values) fits)

  second_within : form_value (second_at relation e) (values ++ more)
      ≡ form_value (second_at relation e) values
  second_within = form_value_within (second_at relation e) values more
      (second_names relation e (length values) fits)

  pub ranges_within : ranges_values (ranges_at relation e) (values ++ more)
      ≡ ranges_values (ranges_at relation e) values
  ranges_within =
      ap (λ n. bit_parts n (relation.width + 1)
      ++ bit_parts (form_value (second_at relation e) (values ++ more)) (relation.width + 1))
      first_within
      ∙ ap (λ n. bit_parts (form_value (first_at relation e) values) (relation.width + 1)
      ++ bit_parts n (relation.width + 1)) second_within

  pub of_width_longer : AreOfWidth (ranges_at relation e) values
      → AreOfWidth (ranges_at relation e) (values ++ more)
  of_width_longer each =
      let Small : List ℕ → Form
      → Type 0 = λ vs form. IsOfWidth (relation.width + 1) (form_value form vs) in
      both (Small (values ++ more)) (first_at relation e) (second_at relation e)
      (subst (IsOfWidth (relation.width + 1)) (sym first_within)
      (of_first (Small values) (first_at relation e) (second_at relation e) each))
      (subst (IsOfWidth (relation.width + 1)) (sym second_within)
      (of_second (Small values) (first_at relation e) (second_at relation e) each))

-- the forms over the pair name it besides
paired_names : (start wires left right constant factor : ℕ) → left < start → right < start
    → start < wires
    → NamesBelow wires (paired_form left right constant
    (record { wire = start; factor = factor })).terms
paired_names start wires left right constant factor l r inside =
    let Named : Term → Type 0 = λ term. term.wire < wires in
    let pair : Term = record { wire = start; factor = factor } in
    All-cons Named (plus left) (minus right ∷ pair ∷ []) (omega arith)
    (All-cons Named (minus right) (pair ∷ []) (omega arith) (one_name wires pair inside))

module _ (relation : EitherAtLeast) (start wires : ℕ) (fits : IsEither relation start) (inside : start < wires) where
  first_pair_names : NamesBelow wires (first_form relation start).terms
  first_pair_names =
      paired_names start wires relation.first_left relation.first_right (2 ^ relation.width)
      (negative (2 ^ relation.width))
      fits.first_left fits.first_right inside

  second_pair_names : NamesBelow wires (second_form relation start).terms
  second_pair_names =
      paired_names start wires relation.second_left relation.second_right 0 (2 ^ relation.width)
      fits.second_left fits.second_right inside

-- the plan with the pair alone, and behind it the sets
abbrev pub with_pair : PlanValue → PlanValue
with_pair plan = extended plan (Pair 0 ∷ []) []

module _ (relation : EitherAtLeast) (plan : PlanValue) where
  pub length_pair : length (with_pair plan).kinds ≡ length plan.kinds + 1
  length_pair = length-append plan.kinds (Pair 0 ∷ [])

  pub with_sets : extended plan (either_wires relation.width)
      (either_rows relation (length plan.kinds))
      ≡ extended (with_pair plan) (ranges_wires (paired_ranges relation (length plan.kinds)))
      (ranges_rows (paired_ranges relation (length plan.kinds)) (length (with_pair plan).kinds))
  with_sets =
      let ranges = paired_ranges relation (length plan.kinds) in
      same_plan plan.inputs (plan.kinds ++ either_wires relation.width)
      (plan.kinds ++ Pair 0 ∷ [] ++ ranges_wires ranges)
      (plan.rows ++ either_rows relation (length plan.kinds))
      (plan.rows ++ [] ++ ranges_rows ranges (length (with_pair plan).kinds))
      (sym (append_assoc plan.kinds (Pair 0 ∷ []) (ranges_wires ranges)))
      (cc (append-nil plan.rows, ap (ranges_rows ranges) length_pair))

  pub sets_fit : IsEither relation (length plan.kinds)
      → AreRanges (paired_ranges relation (length plan.kinds)) (length (with_pair plan).kinds)
  sets_fit fits = record {
    names =
        let wires = length (with_pair plan).kinds in
        both (λ form. NamesBelow wires form.terms) (first_form relation (length plan.kinds))
        (second_form relation (length plan.kinds))
        (first_pair_names relation (length plan.kinds) wires fits (omega (arith, length_pair)))
        (second_pair_names relation (length plan.kinds) wires fits (omega (arith, length_pair)));
    wide = record { least = omega arith; most = omega (arith, fits.most) };
  }

  pub names_pair : NamesOwnWires plan → NamesOwnWires (with_pair plan)
  names_pair own =
      names-extended plan (Pair 0 ∷ []) [] own
      (All-nil (λ row. NamesBelow (length plan.kinds + length (Pair 0 ∷ [])) row.terms))

-- a power of a small width is far below the modulus
pub small_power : (width : ℕ) → width ≤ 16 → 2 ^ width ≤ 65536
small_power width small = pow_mono {i = width} {j = 16} small

-- what the forms come to, as one remainder
shifted_is : (left right constant : ℕ) (values : List ℕ)
    → form_value (shifted_form left right constant) values
    ≡ (slice_index values left + (modulus - 1) * slice_index values right + constant) % modulus
unfolding form_value linear_part
shifted_is left right constant values = omega arith

-- and over a pair that is that number
paired_is : (left right pair factor constant n : ℕ) (values : List ℕ) → slice_index values pair ≡ n
    → form_value (paired_form left right constant (record { wire = pair; factor = factor })) values
    ≡ (slice_index values left + (modulus - 1) * slice_index values right + factor * n + constant) %
    modulus
unfolding form_value linear_part
paired_is left right pair factor constant n values is =
    ap (λ m. ((0 + 1 * slice_index values left + (modulus - 1) * slice_index values right
    + factor * m) % modulus + constant)
    % modulus) is ∙ omega arith

taken_off : (x more : ℕ) → more ≤ 65536
    → (x + negative more * 1 + more) % modulus ≡ (x + 0) % modulus
taken_off x more small = omega arith

left_there : (x factor more : ℕ) → (x + factor * 0 + more) % modulus ≡ (x + more) % modulus
left_there x factor more = omega arith

put_on : (x more : ℕ) → (x + more * 1 + 0) % modulus ≡ (x + more) % modulus
put_on x more = omega arith

-- the pair in place of a constant
in_place : (left right pair factor constant n shift : ℕ) (values : List ℕ)
    → slice_index values pair ≡ n
    → ((x : ℕ) → (x + factor * n + constant) % modulus ≡ (x + shift) % modulus)
    → form_value (paired_form left right constant (record { wire = pair; factor = factor })) values
    ≡ form_value (shifted_form left right shift) values
in_place left right pair factor constant n shift values is same =
    paired_is left right pair factor constant n values is
    ∙ same (slice_index values left + (modulus - 1) * slice_index values right)
    ∙ sym (shifted_is left right shift values)

-- so the forms over the pair come to those for an e where the pair is e
module _ (relation : EitherAtLeast) (values : List ℕ) (pair : ℕ) (small : relation.width ≤ 16) where
  first_here : (e : Bool) → slice_index values pair ≡ e_value e
      → form_value (first_form relation pair) values ≡ form_value (first_at relation e) values
  first_here true is =
      let more = 2 ^ relation.width in
      in_place relation.first_left relation.first_right pair (negative more) more 1 0 values is
      (λ x. taken_off x more (small_power relation.width small))
  first_here false is =
      let more = 2 ^ relation.width in
      in_place relation.first_left relation.first_right pair (negative more) more 0 more values is
      (λ x. left_there x (negative more) more)

  second_here : (e : Bool) → slice_index values pair ≡ e_value e
      → form_value (second_form relation pair) values ≡ form_value (second_at relation e) values
  second_here true is =
      let more = 2 ^ relation.width in
      in_place relation.second_left relation.second_right pair more 0 1 more values is
      (λ x. put_on x more)
  second_here false is =
      let more = 2 ^ relation.width in
      in_place relation.second_left relation.second_right pair more 0 0 0 values is
      (λ x. left_there x more 0)

pub either_sound : (relation : EitherAtLeast) (plan : PlanValue) (values : List ℕ)
    → NamesOwnWires plan
    → IsEither relation (length plan.kinds)
    → Holds (extended plan (either_wires relation.width) (either_rows relation (length plan.kinds)))
    values
    → IsEitherAtLeast relation (take (length plan.kinds) values)
either_sound relation plan values own fits holds =
    let start = length plan.kinds in
    let ranges = paired_ranges relation start in
    let paired = with_pair plan in
    let wires = length paired.kinds in
    let front = take wires values in
    let width = relation.width + 1 in
    let long = length_pair relation plan in
    let names = names_pair relation plan own in
    let holds' = subst (λ p. Holds p values) (with_sets relation plan) holds in
    let found = ranges_sound ranges paired values names (sets_fit relation plan fits) holds' in
    let before = Holds-before paired (ranges_wires ranges) (ranges_rows ranges wires) values names
    holds' in
    let Small : List ℕ → Form → Type 0 = λ vs form. IsOfWidth width (form_value form vs) in
    let reads : (form : Form) → NamesBelow start form.terms
    → form_value form front ≡ form_value form (take start values) =
    λ form named. sym (form_value-take form start front (omega (arith, before.one_each)) named)
    ∙ ap (form_value form) (take-take start wires values (omega arith)) in
    let shown : (e : Bool) → slice_index front start ≡ e_value e
    → AreOfWidth (ranges_at relation e) (take start values) =
    λ e is. both (Small (take start values)) (first_at relation e) (second_at relation e)
    (subst (IsOfWidth width) (first_here relation front start fits.most e is
    ∙ reads (first_at relation e) (first_names relation e start fits))
    (of_first (Small front) (first_form relation start) (second_form relation start) found))
    (subst (IsOfWidth width) (second_here relation front start fits.most e is
    ∙ reads (second_at relation e) (second_names relation e start fits))
    (of_second (Small front) (first_form relation start) (second_form relation start) found)) in
    let kind = get_or_at plan.kinds (Pair 0) [] Split start refl in
    let pair : MayHave (Pair 0) (slice_index front start) =
    subst (λ k. MayHave k (slice_index front start)) kind (before.pairs start (omega arith)) in
    elim pair [ inl nothing ↦ inr (shown false nothing) | inr one ↦ inl (shown true one) ]

-- the e that is filled in is one for which both forms are in their ranges
chosen : (relation : EitherAtLeast) (values : List ℕ) (e : Bool) → is_one relation values ≡ e
    → IsEitherAtLeast relation values
    → AreOfWidth (ranges_at relation e) values
chosen relation values true test either =
    let bound = 2 ^ (relation.width + 1) in
    let first = form_value (first_at relation true) values in
    let second = form_value (second_at relation true) values in
    let parts = and_parts (nat_lt first bound) (nat_lt second bound) test in
    both (λ form. IsOfWidth (relation.width + 1) (form_value form values)) (first_at relation true)
    (second_at relation true)
    (ltb-true first bound parts.0) (ltb-true second bound parts.1)
chosen relation values false test (inr each) = each
chosen relation values false test (inl each) =
    let Small : Form → Type 0 = λ form. IsOfWidth (relation.width + 1) (form_value form values) in
    let bound = 2 ^ (relation.width + 1) in
    let first = form_value (first_at relation true) values in
    let second = form_value (second_at relation true) values in
    absurd (false≢true (sym test ∙ and_from (nat_lt first bound) (nat_lt second bound)
    (lt-ltb first bound (of_first Small (first_at relation true) (second_at relation true) each))
    (lt-ltb second bound (of_second Small (first_at relation true) (second_at relation true)
    each))))

pub is_chosen : (relation : EitherAtLeast) (values : List ℕ) → IsEitherAtLeast relation values
    → AreOfWidth (ranges_at relation (is_one relation values)) values
is_chosen relation values either = chosen relation values (is_one relation values) refl either

-- the pair may have its value
pair_small : (e : Bool) → IsResidue (e_value e)
pair_small true = omega arith
pair_small false = omega arith

pair_fits : (e : Bool) → FitKinds (Pair 0 ∷ []) (e_value e ∷ [])
pair_fits true zero h = inr refl
pair_fits false zero h = inl refl
pair_fits e (suc w) h = tt

pub either_complete : (relation : EitherAtLeast) (plan : PlanValue) (values : List ℕ)
    → NamesOwnWires plan
    → IsEither relation (length plan.kinds) → Holds plan values → IsEitherAtLeast relation values
    → Holds (extended plan (either_wires relation.width) (either_rows relation (length plan.kinds)))
    (values ++ either_values relation values)
either_complete relation plan values own fits holds either =
    let start = length plan.kinds in
    let ranges = paired_ranges relation start in
    let paired = with_pair plan in
    let e = is_one relation values in
    let more = e_value e ∷ [] in
    let whole = values ++ more in
    let width = relation.width + 1 in
    let Small : List ℕ → Form → Type 0 = λ vs form. IsOfWidth width (form_value form vs) in
    let over = subst (IsEither relation) (sym holds.one_each) fits in
    let longer = of_width_longer relation e values more over (is_chosen relation values either) in
    let is : slice_index whole start ≡ e_value e =
    get_or_at values (e_value e) [] 0 start holds.one_each in
    let first = first_here relation whole start fits.most e is in
    let second = second_here relation whole start fits.most e is in
    let before : Holds paired whole =
    Holds-extended plan (Pair 0 ∷ []) [] values more own holds refl
    (All-cons IsResidue (e_value e) [] (pair_small e) (All-nil IsResidue)) (pair_fits e)
    (All-nil (λ row. form_value row whole ≡ 0)) in
    let each : AreOfWidth ranges whole =
    both (Small whole) (first_form relation start) (second_form relation start)
    (subst (IsOfWidth width) (sym first)
    (of_first (Small whole) (first_at relation e) (second_at relation e) longer))
    (subst (IsOfWidth width) (sym second)
    (of_second (Small whole) (first_at relation e) (second_at relation e) longer)) in
    let filled = ranges_complete ranges paired whole (names_pair relation plan own)
    (sets_fit relation plan fits) before each in
    let same : ranges_values ranges whole ≡ ranges_values (ranges_at relation e) values =
    ap (λ n. bit_parts n width ++ bit_parts (form_value (second_form relation start) whole) width)
    first
    ∙ ap (λ n. bit_parts (form_value (first_at relation e) whole) width ++ bit_parts n width) second
    ∙ ranges_within relation e values more over in
    subst (λ p. Holds p (values ++ either_values relation values)) (sym (with_sets relation plan))
    (subst (Holds (extended paired (ranges_wires ranges)
    (ranges_rows ranges (length paired.kinds))))
    (ap (λ back. whole ++ back) same
    ∙ append_assoc values more (ranges_values (ranges_at relation e) values)) filled)

-- what the code meets: a relation over as many values as there are wires, and its own values behind
-- them
pub either_over : (relation : EitherAtLeast) (values : List ℕ)
    → (plan : PlanValue) × (IsEither relation (length plan.kinds)
    × (length plan.kinds ≡ length values)) → IsEither relation (length values)
either_over relation values over = subst (IsEither relation) over.1.1 over.1.0

pub either_longer : (relation : EitherAtLeast) (few many : ℕ) → few ≤ many → IsEither relation few
    → IsEither relation many
either_longer relation few many le fits = record {
  first_left = omega (arith, fits.first_left);
  first_right = omega (arith, fits.first_right);
  second_left = omega (arith, fits.second_left);
  second_right = omega (arith, fits.second_right);
  least = fits.least;
  most = fits.most;
}

-- more values behind change nothing, and fewer before neither
module _ (relation : EitherAtLeast) (values more : List ℕ) (fits : IsEither relation (length values)) where
  pub either_behind : IsEitherAtLeast relation values → IsEitherAtLeast relation (values ++ more)
  either_behind either = elim either [
    | inl each ↦ inl (of_width_longer relation true values more fits each)
    | inr each ↦ inr (of_width_longer relation false values more fits each)
  ]

  is_one_within : is_one relation (values ++ more) ≡ is_one relation values
  is_one_within =
      let bound = 2 ^ (relation.width + 1) in
      ap (λ n. nat_lt n bound && nat_lt (form_value (second_at relation true) (values ++ more))
      bound) (first_within relation true values more fits)
      ∙ ap (λ n. nat_lt (form_value (first_at relation true) values) bound && nat_lt n bound)
      (second_within relation true values more fits)

  pub values_within : either_values relation (values ++ more) ≡ either_values relation values
  values_within =
      ap (λ e. e_value e ∷ ranges_values (ranges_at relation e) (values ++ more)) is_one_within
      ∙ ap (λ back. e_value (is_one relation values) ∷ back)
      (ranges_within relation (is_one relation values) values more fits)

pub either_front : (relation : EitherAtLeast) (few many : ℕ) (values : List ℕ)
    → IsEither relation few → few ≤ many → many ≤ length values
    → IsEitherAtLeast relation (take many values) → IsEitherAtLeast relation (take few values)
either_front relation few many values fits le enough either =
    let Small : List ℕ → Form → Type 0 =
    λ vs form. IsOfWidth (relation.width + 1) (form_value form vs) in
    let reads : (form : Form) → NamesBelow few form.terms
    → form_value form (take many values) ≡ form_value form (take few values) =
    λ form names. form_value-take form many values enough
    (NamesBelow-more few many form.terms le names)
    ∙ sym (form_value-take form few values (omega arith) names) in
    let shown : (e : Bool) → AreOfWidth (ranges_at relation e) (take many values)
    → AreOfWidth (ranges_at relation e) (take few values) =
    λ e each. both (Small (take few values)) (first_at relation e) (second_at relation e)
    (subst (IsOfWidth (relation.width + 1))
    (reads (first_at relation e) (first_names relation e few fits))
    (of_first (Small (take many values)) (first_at relation e) (second_at relation e) each))
    (subst (IsOfWidth (relation.width + 1))
    (reads (second_at relation e) (second_names relation e few fits))
    (of_second (Small (take many values)) (first_at relation e) (second_at relation e) each)) in
    elim either [ inl each ↦ inl (shown true each) | inr each ↦ inr (shown false each) ]

-- the rows name the wires before and the relation's own
pub either_names : (relation : EitherAtLeast) (start : ℕ) → IsEither relation start
    → All (λ row. NamesBelow (start + length (either_wires relation.width)) row.terms)
    (either_rows relation start)
either_names relation start fits =
    let width = relation.width + 1 in
    let long = length-append (test_set width) (test_set width) in
    let set = length_listed Pair width in
    let wires = start + length (either_wires relation.width) in
    let first = start + 1 + 0 * width in
    let second = start + 1 + 1 * width in
    both (λ row. NamesBelow wires row.terms)
    (set_row (first_form relation start) first width)
    (set_row (second_form relation start) second width)
    (NamesBelow-more (first + width) wires (set_row (first_form relation start) first width).terms
    (omega arith)
    (set_row_names (first_form relation start) first width
    (first_pair_names relation start first fits (omega arith))))
    (NamesBelow-more (second + width) wires
    (set_row (second_form relation start) second width).terms (omega arith)
    (set_row_names (second_form relation start) second width
    (second_pair_names relation start second fits (omega arith))))

pub either_for : (relation : EitherAtLeast) (values more : List ℕ)
    → IsEither relation (length values)
    → (plan : PlanValue) × (IsEither relation (length plan.kinds)
    × (length plan.kinds ≡ length (values ++ more)))
either_for relation values more fits =
    let wires = length (values ++ more) in
    let same = length-replicate wires Split in (
      plan_of_inputs wires,
      (
        either_longer relation (length values) (length (plan_of_inputs wires).kinds)
            (omega (arith, length-append values more)) fits,
        same,
      ),
    )

module _ (relation : EitherAtLeast) (values now : List ℕ) (one : Bool) (fits : IsEither relation (length values)) (is : one ≡ is_one relation values)
    (pushed : now ≡ values ++ e_value one ∷ []) where
  pub fill_fits : AreRanges (ranges_at relation one) (length now)
  fill_fits =
      let long = ap length pushed ∙ length-append values (e_value one ∷ []) in
      ranges_fit relation one (length now)
      (either_longer relation (length values) (length now) (omega arith) fits)

  pub fill_true : IsEitherAtLeast relation values → AreOfWidth (ranges_at relation one) now
  fill_true either =
      subst (AreOfWidth (ranges_at relation one)) (sym pushed)
      (of_width_longer relation one values (e_value one ∷ []) fits
      (subst (λ e. AreOfWidth (ranges_at relation e) values) (sym is)
      (is_chosen relation values either)))

  pub fill_is : (next : List ℕ) → next ≡ now ++ ranges_values (ranges_at relation one) now
      → next ≡ values ++ either_values relation values
  fill_is next filled =
      let more = e_value one ∷ [] in
      filled
      ∙ ap (λ front. front ++ ranges_values (ranges_at relation one) front) pushed
      ∙ ap (λ back. values ++ more ++ back) (ranges_within relation one values more fits)
      ∙ append_assoc values more (ranges_values (ranges_at relation one) values)
      ∙ ap (λ e. values ++ (e_value e ∷ ranges_values (ranges_at relation e) values)) is

-- four values of the width
pub record AreSmall (relation : EitherAtLeast) (values : List ℕ) : Type 0 where
  pub first_left : IsOfWidth relation.width (slice_index values relation.first_left)
  pub first_right : IsOfWidth relation.width (slice_index values relation.first_right)
  pub second_left : IsOfWidth relation.width (slice_index values relation.second_left)
  pub second_right : IsOfWidth relation.width (slice_index values relation.second_right)

-- of numbers below a small bound: a difference is below twice the bound exactly where it isn't
-- below 0, and always where the bound is added
shows_order : (a b bound : ℕ) → a < bound → b < bound → bound ≤ 65536
    → (a + (modulus - 1) * b + 0) % modulus < 2 * bound → b ≤ a
shows_order a b bound ha hb small h = omega arith

fits_order : (a b bound : ℕ) → a < bound → bound ≤ 65536 → b ≤ a
    → (a + (modulus - 1) * b + 0) % modulus < 2 * bound
fits_order a b bound ha small h = omega arith

fits_shifted : (a b bound : ℕ) → a < bound → b < bound → bound ≤ 65536
    → (a + (modulus - 1) * b + bound) % modulus < 2 * bound
fits_shifted a b bound ha hb small = omega arith

module _ (width left right : ℕ) (values : List ℕ) (most : width ≤ 16) (of_left : IsOfWidth width (slice_index values left))
    (of_right : IsOfWidth width (slice_index values right)) where
  twice : 2 ^ (width + 1) ≡ 2 * 2 ^ width
  twice = omega (arith, pow-add 2 width 1)

  order_shown : IsOfWidth (width + 1) (form_value (shifted_form left right 0) values)
      → slice_index values right ≤ slice_index values left
  order_shown within =
      shows_order (slice_index values left) (slice_index values right) (2 ^ width) of_left of_right
      (small_power width most)
      (omega (arith, within, twice, shifted_is left right 0 values))

  order_fits : slice_index values right ≤ slice_index values left
      → IsOfWidth (width + 1) (form_value (shifted_form left right 0) values)
  order_fits le =
      omega (
        arith,
        twice,
        shifted_is left right 0 values,
        fits_order (slice_index values left) (slice_index values right) (2 ^ width) of_left
            (small_power width most) le,
      )

  shifted_fits : IsOfWidth (width + 1) (form_value (shifted_form left right (2 ^ width)) values)
  shifted_fits =
      omega (
        arith,
        twice,
        shifted_is left right (2 ^ width) values,
        fits_shifted (slice_index values left) (slice_index values right) (2 ^ width) of_left
            of_right (small_power width most),
      )

pub either_is_at_least : (relation : EitherAtLeast) (values : List ℕ) → relation.width ≤ 16
    → AreSmall relation values
    → IsEitherAtLeast relation values
    ↔ ((slice_index values relation.first_right ≤ slice_index values relation.first_left)
    ⊎ (slice_index values relation.second_right ≤ slice_index values relation.second_left))
either_is_at_least relation values most small =
    let width = relation.width in
    let Small : Form → Type 0 = λ form. IsOfWidth (width + 1) (form_value form values) in
    let fl = relation.first_left in
    let fr = relation.first_right in
    let sl = relation.second_left in
    let sr = relation.second_right in (
      λ either. elim either [
        | inl each ↦ inl (order_shown width fl fr values most small.first_left small.first_right
            (of_first Small (first_at relation true) (second_at relation true) each))
        | inr each ↦ inr (order_shown width sl sr values most small.second_left small.second_right
            (of_second Small (first_at relation false) (second_at relation false) each))
      ],
      λ either. elim either [
        | inl le ↦ inl (both Small (first_at relation true) (second_at relation true)
            (order_fits width fl fr values most small.first_left small.first_right le)
            (shifted_fits width sl sr values most small.second_left small.second_right))
        | inr le ↦ inr (both Small (first_at relation false) (second_at relation false)
            (shifted_fits width fl fr values most small.first_left small.first_right)
            (order_fits width sl sr values most small.second_left small.second_right le))
      ],
    )
