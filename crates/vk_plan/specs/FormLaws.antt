-- How the value of a form follows its terms and the values that they name.
use Rattle.std.specs.Prelude.{ℕ, ◌+◌, ◌*◌, ◌%◌, ◌<◌, ◌≤◌, ◌≡◌, List, [], ◌∷◌, ◌++◌, length, take, slice_index, slice_index_or, sum_by}
use Rattle.std.proofs.Common.{refl, sym, ap, ◌∙◌, subst, arith, drop}
use Rattle.std.proofs.lemmas.List.{get_or_append_left, length-take-le, take-append-drop}
use Rattle.std.proofs.lemmas.List.Sums.{sum_by_more, sum_by-append, sum_by-cons}
use Rattle.std.proofs.lemmas.List.Elements.{All-head, All-tail}
use Rattle.vk_residue.specs.Residue.{modulus, sum, product}
use Rattle.vk_plan.specs.declared.form.Term.{Term}
use Rattle.vk_plan.specs.declared.form.Form.{Form}
use Rattle.vk_plan.specs.Forms.{term_value, linear_part, form_value, NamesBelow}

-- one term more
pub linear_part_more : (terms : List Term) (values : List ℕ) (i : ℕ) (d : Term) → i < length terms
    → linear_part (take (i + 1) terms) values
    ≡ sum (linear_part (take i terms) values)
    (product (slice_index_or terms i d).factor (slice_index values (slice_index_or terms i d).wire))
unfolding linear_part
linear_part_more terms values i d h = rw (sum_by_more (term_value values) terms i d h) (omega arith)

-- sums over terms that name wires of the one list alone
sum_by_within : (terms : List Term) (front back : List ℕ) → NamesBelow (length front) terms
    → sum_by (term_value (front ++ back)) terms ≡ sum_by (term_value front) terms
sum_by_within [] front back h = refl
sum_by_within (t ∷ ts) front back h =
    let here = ap (λ v. t.factor * v)
    (get_or_append_left front back 0 t.wire
    (All-head (λ (term : Term). term.wire < length front) t ts h)) in
    let there = sum_by_within ts front back
    (All-tail (λ (term : Term). term.wire < length front) t ts h) in
    sum_by-cons (term_value (front ++ back)) t ts
    ∙ cc (sum_by-cons (term_value front) t ts, here, there)

-- values after those that the terms name change nothing
pub linear_part_within : (terms : List Term) (front back : List ℕ) → NamesBelow (length front) terms
    → linear_part terms (front ++ back) ≡ linear_part terms front
unfolding linear_part
linear_part_within terms front back h = ap (λ n. n % modulus) (sum_by_within terms front back h)

pub form_value_within : (form : Form) (front back : List ℕ) → NamesBelow (length front) form.terms
    → form_value form (front ++ back) ≡ form_value form front
unfolding form_value
form_value_within form front back h =
    ap (λ n. (n + form.constant) % modulus) (linear_part_within form.terms front back h)

-- terms one after another
pub linear_part-append : (terms more : List Term) (values : List ℕ)
    → linear_part (terms ++ more) values ≡ sum (linear_part terms values) (linear_part more values)
unfolding linear_part
linear_part-append terms more values =
    rw (sum_by-append (term_value values) terms more) (omega arith)

-- only the first values count, where the terms name no others
pub form_value-take : (form : Form) (wires : ℕ) (values : List ℕ) → wires ≤ length values
    → NamesBelow wires form.terms
    → form_value form (take wires values) ≡ form_value form values
form_value-take form wires values enough names =
    let front = length-take-le wires values enough in
    sym (form_value_within form (take wires values) (drop wires values)
    (λ k d h. subst (λ n. (slice_index_or form.terms k d).wire < n) (sym front) (names k d h)))
    ∙ ap (form_value form) (take-append-drop wires values)

-- terms that name wires of the first few name wires of the first many
pub NamesBelow-more : (few many : ℕ) (terms : List Term) → few ≤ many → NamesBelow few terms
    → NamesBelow many terms
NamesBelow-more few many terms le names k d h = omega (arith, names k d h)
