-- The sums of a test set are the numbers of its width, each of them and no others.
use Rattle.std.specs.Prelude.{ℕ, ◌+◌, ◌-◌, ◌*◌, ◌/◌, ◌%◌, ◌^◌, ◌<◌, ◌≤◌, ◌≡◌, List, [], ◌∷◌, ◌++◌, All, length, sum, sum_by, slice_index, slice_index_or}
use Rattle.std.proofs.Common.{refl, sym, ap, ◌∙◌, subst, arith, inl, inr, zero, suc, add-one, length-append, add_comm, append_assoc, suc-mul, mod-eq_of_lt}
use Rattle.std.proofs.lemmas.List.{get_or-append-add}
use Rattle.std.proofs.lemmas.List.Elements.{All-nil, All-append}
use Rattle.std.proofs.lemmas.List.FromFn.{map-range_with_len_more, length-map-range_with_len, get_or-map-range_with_len, sum_by-map-range_with_len_more}
use Rattle.std.proofs.lemmas.Nat.{mod-pow-add, pow-add}
use Rattle.std.proofs.Math.Nat.{mul-add}
use Rattle.std.proofs.Math.Pow.{pow_mono}
use Rattle.std.proofs.lemmas.Bool.{cases_lt}
use Rattle.vk_residue.specs.Residue.{modulus, IsResidue}
use Rattle.vk_plan.specs.declared.wire.WireKind.TheVariants.{Split, Pair}
use Rattle.vk_plan.specs.declared.form.Term.{Term}
use Rattle.vk_plan.specs.declared.form.Form.{Form}
use Rattle.vk_plan.specs.Forms.{term_value, linear_part, form_value, NamesBelow}
use Rattle.vk_plan.specs.FormLaws.{linear_part-append, form_value_within}
use Rattle.vk_plan.specs.Plans.{HasWeight, MayHave}
use Rattle.vk_plan.specs.PlanLaws.{FitKinds}
use Rattle.vk_range.specs.Sets.{listed, joined, test_set, IsOfWidth, plus, minus, minus_set, set_row, set_sum, bit_part, bit_parts}

-- one more at the end
pub listed_more : {A : Type 0} (f : ℕ → A) (n : ℕ) → listed f (n + 1) ≡ listed f n ++ f n ∷ []
listed_more f n = map-range_with_len_more f 0 n n (omega arith)

-- a push of the next
pub listed_push : {A : Type 0} (f : ℕ → A) (front items all : List A) (value : A) (n : ℕ)
    → all ≡ items ++ value ∷ [] → items ≡ front ++ listed f n → value ≡ f n
    → all ≡ front ++ listed f (n + 1)
listed_push f front items all value n pushed before here =
    pushed ∙ (cc (before, here, append_assoc front (listed f n) (f n ∷ []))
    ∙ ap (λ more. front ++ more) (sym (listed_more f n)))

-- one more at the end of a sum
pub sum_listed_more : (f : ℕ → ℕ) (n : ℕ) → sum (listed f (n + 1)) ≡ sum (listed f n) + f n
sum_listed_more f n = sum_by-map-range_with_len_more (λ x. x) f 0 n n (omega arith)

-- lists that agree at each place are one
pub listed-same : {A : Type 0} (f g : ℕ → A) (n : ℕ) → ((i : ℕ) → i < n → f i ≡ g i)
    → listed f n ≡ listed g n
listed-same f g zero h = refl
listed-same f g (suc n) h =
    subst (λ m. listed f m ≡ listed g m) (add-one n)
    (let below = listed-same f g n (λ i l. h i (omega arith)) in
    let here = h n (omega arith) in
    cc (listed_more f n, listed_more g n, below, here))

-- the parts of a number come to its lowest bits
sum_bit_parts : (number width : ℕ) → sum (bit_parts number width) ≡ number % 2 ^ width
sum_bit_parts number zero = omega arith
sum_bit_parts number (suc n) =
    subst (λ m. sum (bit_parts number m) ≡ number % 2 ^ m) (add-one n)
    (sum_listed_more (bit_part number) n ∙ (ap (λ s. s + bit_part number n) (sum_bit_parts number n)
    ∙ omega (arith, ap (λ m. number % 2 ^ m) (add_comm n 1), mod-pow-add number 1 n)))

-- what pairs come to is below 2 ^ width
set_sum_below : (values : List ℕ) (start width : ℕ)
    → ((i : ℕ) → i < width → MayHave (Pair i) (slice_index values (start + i)))
    → IsOfWidth width (set_sum values start width)
set_sum_below values start zero fit = omega arith
set_sum_below values start (suc n) fit =
    let before = set_sum_below values start n (λ i h. fit i (omega arith)) in
    let here : slice_index values (start + n) ≤ 2 ^ n =
    elim (fit n (omega arith)) [ inl z ↦ omega arith | inr w ↦ omega arith ] in
    let more = sum_listed_more (λ i. slice_index values (start + i)) n in
    subst (λ m. IsOfWidth m (set_sum values start m)) (add-one n) (omega (arith, pow-add 2 n 1))

-- the terms of wires one after another, each with that factor
linear_set : (values : List ℕ) (start factor count : ℕ)
    → sum_by (term_value values) (listed (λ i. record { wire = start + i; factor = factor }) count)
    ≡ factor * set_sum values start count
linear_set values start factor zero = omega arith
linear_set values start factor (suc n) =
    let term : ℕ → Term = λ i. record { wire = start + i; factor = factor } in
    let before = linear_set values start factor n in
    let terms = sum_by-map-range_with_len_more (term_value values) term 0 n n (omega arith) in
    let sums = sum_listed_more (λ i. slice_index values (start + i)) n in
    subst (λ m. sum_by (term_value values) (listed term m) ≡ factor * set_sum values start m)
    (add-one n) (terms ∙ ap (λ m. m + factor * slice_index values (start + n)) before
    ∙ sym (mul-add factor (set_sum values start n) (slice_index values (start + n)))
    ∙ ap (λ m. factor * m) (sym sums))

-- the terms of a set, all taken off
linear_minus_set : (values : List ℕ) (start width : ℕ)
    → sum_by (term_value values) (minus_set start width)
    ≡ (modulus - 1) * set_sum values start width
linear_minus_set values start width = linear_set values start (modulus - 1) width

pub linear_plus_set : (values : List ℕ) (start count : ℕ)
    → sum_by (term_value values) (listed (λ i. plus (start + i)) count) ≡ set_sum values start count
linear_plus_set values start count = omega (arith, linear_set values start 1 count)

-- a row is 0 exactly where the form is what is taken off
reads_sum : (terms taken constant : ℕ) → taken < modulus
    → ((terms % modulus + (modulus - 1) * taken % modulus) % modulus + constant) % modulus ≡ 0
    → (terms % modulus + constant) % modulus ≡ taken
reads_sum terms taken constant below nothing = omega arith

takes_sum : (terms taken constant : ℕ) → taken < modulus
    → (terms % modulus + constant) % modulus ≡ taken
    → ((terms % modulus + (modulus - 1) * taken % modulus) % modulus + constant) % modulus ≡ 0
takes_sum terms taken constant below same = omega arith

set_row_is : (form : Form) (start width : ℕ) (values : List ℕ)
    → form_value (set_row form start width) values
    ≡ ((sum_by (term_value values) form.terms % modulus
    + (modulus - 1) * set_sum values start width % modulus) % modulus + form.constant) % modulus
unfolding form_value linear_part
set_row_is form start width values =
    let whole = linear_part-append form.terms (minus_set start width) values in
    let set = linear_minus_set values start width in
    ap (λ n. (n + form.constant) % modulus)
    (whole ∙ ap (λ n. (sum_by (term_value values) form.terms % modulus + n % modulus) % modulus)
    set)

form_is : (form : Form) (values : List ℕ)
    → form_value form values ≡ (sum_by (term_value values) form.terms % modulus + form.constant) %
    modulus
unfolding form_value linear_part
form_is form values = refl

-- where the row of a set is 0, the form is a number of its width
pub set_row_sound : (form : Form) (start width : ℕ) (values : List ℕ) → width ≤ 60
    → ((i : ℕ) → i < width → MayHave (Pair i) (slice_index values (start + i)))
    → form_value (set_row form start width) values ≡ 0 → IsOfWidth width (form_value form values)
set_row_sound form start width values small fit nothing =
    let below = set_sum_below values start width fit in
    let fits : set_sum values start width < modulus =
    omega (arith, pow_mono {i = width} {j = 60} small) in
    let same = reads_sum (sum_by (term_value values) form.terms) (set_sum values start width)
    form.constant fits (sym (set_row_is form start width values) ∙ nothing) in
    subst (λ n. n < 2 ^ width) (sym (form_is form values ∙ same)) below

-- a bit's part is 0 or the weight
pub bit_part_fits : (number i : ℕ) → MayHave (Pair i) (bit_part number i)
bit_part_fits number i = elim (cases_lt (number / 2 ^ i % 2) 1) [
  | inl q ↦ inl (let e : number / 2 ^ i % 2 ≡ 0 = omega arith in
      ap (λ b. b * 2 ^ i) e ∙ omega arith)
  | inr q ↦ inr (let e : number / 2 ^ i % 2 ≡ 1 = omega arith in
      ap (λ b. b * 2 ^ i) e ∙ omega arith)
]

pub length_listed : {A : Type 0} (f : ℕ → A) (n : ℕ) → length (listed f n) ≡ n
length_listed f n = length-map-range_with_len f 0 n

pub at_listed : {A : Type 0} (f : ℕ → A) (n i : ℕ) (d : A) → i < n
    → slice_index_or (listed f n) i d ≡ f i
at_listed f n i d h = get_or-map-range_with_len f 0 n i i d h (omega arith)

-- the values of a set are residues
pub bit_parts_below : (number width : ℕ) → width ≤ 60 → All IsResidue (bit_parts number width)
bit_parts_below number width small k d h =
    let long = length_listed (bit_part number) width in
    let inside : k < width = omega arith in
    let weight : 2 ^ k ≤ 2 ^ 60 = pow_mono {i = k} {j = 60} (omega arith) in
    rw (at_listed (bit_part number) width k d inside)
    (elim (bit_part_fits number k) [ inl e ↦ omega arith | inr e ↦ omega arith ])

-- the values of a set fit its pairs
pub bit_parts_fit : (number width : ℕ) → FitKinds (test_set width) (bit_parts number width)
bit_parts_fit number width w h =
    let inside : w < width = omega (arith, length_listed Pair width) in
    rw (at_listed Pair width w Split inside, at_listed (bit_part number) width w 0 inside)
    (bit_part_fits number w)

-- the sum of values that stand after others
pub set_sum-after : (values : List ℕ) (f : ℕ → ℕ) (count : ℕ)
    → set_sum (values ++ listed f count) (length values) count ≡ sum (listed f count)
set_sum-after values f count =
    ap sum (listed-same (λ i. slice_index (values ++ listed f count) (length values + i)) f count
    (λ i h. get_or-append-add values (listed f count) i 0 ∙ at_listed f count i 0 h))

-- after any values, the values of a set come to the number
set_sum_filled : (values : List ℕ) (number width : ℕ)
    → set_sum (values ++ bit_parts number width) (length values) width ≡ number % 2 ^ width
set_sum_filled values number width = set_sum-after values (bit_part number) width
    ∙ sum_bit_parts number width

-- where the form is a number of the width, the row of a set with the number's values is 0
pub set_row_filled : (form : Form) (width : ℕ) (values : List ℕ) → width ≤ 60
    → NamesBelow (length values) form.terms
    → IsOfWidth width (form_value form values)
    → form_value (set_row form (length values) width)
    (values ++ bit_parts (form_value form values) width) ≡ 0
set_row_filled form width values small names below =
    let number = form_value form values in
    let whole = values ++ bit_parts number width in
    let set = set_sum_filled values number width ∙ mod-eq_of_lt below in
    let bound : set_sum whole (length values) width < modulus =
    omega (arith, pow_mono {i = width} {j = 60} small) in
    let same = form_value_within form values (bit_parts number width) names in
    set_row_is form (length values) width whole
    ∙ takes_sum (sum_by (term_value whole) form.terms) (set_sum whole (length values) width)
    form.constant bound (sym (form_is form whole) ∙ same ∙ sym set)

-- what each f i is, each element is
pub All-listed : {A : Type 0} (P : A → Type 0) (f : ℕ → A) (n : ℕ) → ((i : ℕ) → i < n → P (f i))
    → All P (listed f n)
All-listed P f n h k d inside =
    let here : k < n = omega (arith, length_listed f n) in
    subst P (sym (at_listed f n k d here)) (h k here)

pub All-joined : {A : Type 0} (P : A → Type 0) (f : ℕ → List A) (n : ℕ)
    → ((i : ℕ) → i < n → All P (f i)) → All P (joined f n)
All-joined P f zero h = All-nil P
All-joined P f (suc n) h = All-append P (joined f n) (f n)
    (All-joined P f n (λ i l. h i (omega arith))) (h n (omega arith))

-- lists of one length, one after another
pub length_joined : {A : Type 0} (f : ℕ → List A) (each n : ℕ) → ((i : ℕ) → length (f i) ≡ each)
    → length (joined f n) ≡ n * each
length_joined f each zero h = omega arith
length_joined f each (suc n) h =
    length-append (joined f n) (f n) ∙ omega (arith, length_joined f each n h, h n, suc-mul n each)

pub joined-same : {A : Type 0} (f g : ℕ → List A) (n : ℕ) → ((i : ℕ) → i < n → f i ≡ g i)
    → joined f n ≡ joined g n
joined-same f g zero h = refl
joined-same f g (suc n) h = cc (joined-same f g n (λ i l. h i (omega arith)), h n (omega arith))

pub joined_more : {A : Type 0} (f : ℕ → List A) (n : ℕ) → joined f (n + 1) ≡ joined f n ++ f n
joined_more f n = ap (joined f) (add-one n)

-- the row of a set names the wires of its form and those of the set
pub set_row_names : (form : Form) (start width : ℕ) → NamesBelow start form.terms
    → NamesBelow (start + width) (set_row form start width).terms
set_row_names form start width names =
    All-append (λ (term : Term). term.wire < start + width) form.terms (minus_set start width)
    (λ k d h. omega (arith, names k d h))
    (All-listed (λ (term : Term). term.wire < start + width) (λ i. minus (start + i)) width
    (λ i h. omega arith))

pub test_set_weights : (width : ℕ) → width ≤ 61 → All HasWeight (test_set width)
test_set_weights width small = All-listed HasWeight Pair width (λ i h. omega arith)
