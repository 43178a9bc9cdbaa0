-- Test sets: pairs of the weights 1, 2, 4 and so on, whose sums are the numbers of a width.
use Rattle.std.specs.Prelude.{ℕ, zero, suc, ◌+◌, ◌-◌, ◌*◌, ◌/◌, ◌%◌, ◌^◌, ◌<◌, List, [], ◌++◌, map, slice_index, sum}
use Rattle.std.specs.List.{range_with_len}
use Rattle.vk_residue.specs.Residue.{modulus}
use Rattle.vk_plan.specs.declared.wire.WireKind.{WireKind}
use Rattle.vk_plan.specs.declared.wire.WireKind.TheVariants.{Pair}
use Rattle.vk_plan.specs.declared.form.Term.{Term}
use Rattle.vk_plan.specs.declared.form.Form.{Form}

-- f 0, f 1, .. up to f (n - 1)
abbrev pub listed : {A : Type 0} → (ℕ → A) → ℕ → List A
listed f n = map f (range_with_len 0 n)

-- f 0 ++ f 1 ++ .. up to f (n - 1)
abbrev pub joined : {A : Type 0} → (ℕ → List A) → ℕ → List A
joined f zero = []
joined f (suc n) = joined f n ++ f n

-- a number of that many bits
abbrev pub IsOfWidth : ℕ → ℕ → Type 0
IsOfWidth width number = number < 2 ^ width

-- pairs of the weights 2 ^ 0 to 2 ^ (width - 1)
abbrev pub test_set : ℕ → List WireKind
test_set width = listed Pair width

-- a wire as it is, and a wire taken off
abbrev pub plus : ℕ → Term
plus wire = record { wire = wire; factor = 1 }

abbrev pub minus : ℕ → Term
minus wire = record { wire = wire; factor = modulus - 1 }

-- each pair of the set that begins at a wire is taken off
abbrev pub minus_set : ℕ → ℕ → List Term
minus_set start width = listed (λ i. minus (start + i)) width

-- the form minus each pair of that set: 0 where the form is the sum of the pairs
abbrev pub set_row : Form → ℕ → ℕ → Form
set_row form start width = record {
  terms = form.terms ++ minus_set start width;
  constant = form.constant;
}

-- what the pairs of the set that begins at a wire come to
abbrev pub set_sum : List ℕ → ℕ → ℕ → ℕ
set_sum values start width = sum (listed (λ i. slice_index values (start + i)) width)

-- the weight 2 ^ i where that bit of the number is set, else 0
abbrev pub bit_part : ℕ → ℕ → ℕ
bit_part number i = number / 2 ^ i % 2 * 2 ^ i

-- the values of the pairs of a set that come to the number
abbrev pub bit_parts : ℕ → ℕ → List ℕ
bit_parts number width = listed (bit_part number) width
