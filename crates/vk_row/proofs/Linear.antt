-- The terms of a form on sums come to the sum of what they come to on both lists.
use Rattle.std.proofs.Common.{◌≡◌, ℕ, ◌+◌, ◌*◌, ◌%◌, ◌<◌, List, [], ◌∷◌, length, slice_index, refl, ap, ◌∙◌, arith}
use Rattle.std.proofs.Math.Nat.{mul-add}
use Rattle.std.proofs.lemmas.Nat.{mul-mod_second}
use Rattle.std.proofs.lemmas.List.Sums.{sum_by-cons}
use Rattle.std.proofs.lemmas.List.Elements.{All-head, All-tail}
use Rattle.vk_residue.specs.Residue.{modulus, sum, negative}
use Rattle.vk_plan.specs.declared.form.Term.{Term}
use Rattle.vk_plan.specs.declared.form.Form.{Form}
use Rattle.vk_plan.specs.Forms.{term_value, linear_part, form_value, NamesBelow}
use Rattle.vk_row.specs.Rows.{sums}
use Rattle.vk_row.proofs.Sums.{get_or-sums}

-- a factor times a sum
factor_of_sum : (factor u v : ℕ)
    → (factor * ((u + v) % modulus)) % modulus ≡ (factor * u + factor * v) % modulus
factor_of_sum factor u v = mul-mod_second factor (u + v) modulus
    ∙ ap (λ n. n % modulus) (mul-add factor u v)

-- remainders of sums of four
regrouped : (x a b us vs ws : ℕ) → x % modulus ≡ (a + b) % modulus
    → ws % modulus ≡ (us % modulus + vs % modulus) % modulus
    → (x + ws) % modulus ≡ ((a + us) % modulus + (b + vs) % modulus) % modulus
regrouped x a b us vs ws here there = omega (arith, here, there)

pub linear_part_sums : (terms : List Term) (firsts seconds : List ℕ)
    → length firsts ≡ length seconds → NamesBelow (length firsts) terms
    → linear_part terms (sums firsts seconds)
    ≡ sum (linear_part terms firsts) (linear_part terms seconds)
unfolding linear_part
linear_part_sums [] firsts seconds same names = refl
linear_part_sums (t ∷ ts) firsts seconds same names =
    let named = All-head (λ (term : Term). term.wire < length firsts) t ts names in
    let there = linear_part_sums ts firsts seconds same
    (All-tail (λ (term : Term). term.wire < length firsts) t ts names) in
    let u = slice_index firsts t.wire in
    let v = slice_index seconds t.wire in
    let here : (t.factor * slice_index (sums firsts seconds) t.wire) % modulus
    ≡ (t.factor * u + t.factor * v) % modulus =
    ap (λ n. (t.factor * n) % modulus) (get_or-sums firsts seconds t.wire 0 same named)
    ∙ factor_of_sum t.factor u v in
    rw (
      sum_by-cons (term_value (sums firsts seconds)) t ts,
      sum_by-cons (term_value firsts) t ts,
      sum_by-cons (term_value seconds) t ts,
    )
    (regrouped _ (t.factor * u) (t.factor * v) _ _ _ here there)

-- a row that both challenges meet is 0 on the sums
pub row_is_zero : (row : Form) (firsts seconds : List ℕ) (posted : ℕ)
    → length firsts ≡ length seconds → NamesBelow (length firsts) row.terms
    → linear_part row.terms firsts ≡ posted → form_value row seconds ≡ negative posted
    → form_value row (sums firsts seconds) ≡ 0
unfolding linear_part form_value
row_is_zero row firsts seconds posted same names first second =
    let total = linear_part_sums row.terms firsts seconds same names in
    omega (arith, total, first, second)
