-- The halves of an honest lane, and what its rows come to on them.
use Rattle.std.proofs.Common.{◌≡◌, ℕ, zero, suc, ◌+◌, ◌%◌, ◌<◌, Bool, true, false, List, [], ◌∷◌, length, slice_index, slice_index_or, All, refl, ap, sym, ◌∙◌, arith}
use Rattle.std.proofs.lemmas.List.Elements.{All-head, All-tail}
use Rattle.vk_residue.specs.Residue.{IsResidue, modulus, sum, difference, negative}
use Rattle.vk_plan.specs.declared.form.Form.{Form}
use Rattle.vk_plan.specs.Forms.{linear_part, form_value, NamesBelow}
use Rattle.vk_wire.specs.Made.{half_of}
use Rattle.vk_wire.specs.declared.wire.WireTape.{WireTape}
use Rattle.vk_row.specs.Rows.{HasSide}
use Rattle.vk_row.specs.Rows.{sums}
use Rattle.vk_row.proofs.Linear.{linear_part_sums}
use Rattle.vk_wire.specs.Values.{IsTape}
use Rattle.vk_prover.specs.Honest.{honest_halves, masks, posted_on, no_tape}

-- one half for each wire
pub length-honest_halves : (values : List ℕ) (tape : List WireTape) (bit : Bool)
    → length values ≡ length tape → length (honest_halves values tape bit) ≡ length tape
unfolding honest_halves
length-honest_halves [] [] bit same = refl
length-honest_halves [] (t ∷ ts) bit same = absurd (omega arith)
length-honest_halves (v ∷ vs) [] bit same = absurd (omega arith)
length-honest_halves (v ∷ vs) (t ∷ ts) bit same =
    ap suc (length-honest_halves vs ts bit (omega arith))

-- the half of one wire
pub get_or-honest_halves : (values : List ℕ) (tape : List WireTape) (bit : Bool) (k : ℕ)
    → length values ≡ length tape → k < length tape
    → slice_index (honest_halves values tape bit) k
    ≡ half_of (slice_index values k) (slice_index_or tape k no_tape) bit
unfolding honest_halves
get_or-honest_halves values [] bit k same lt = absurd (omega arith)
get_or-honest_halves [] (t ∷ ts) bit k same lt = absurd (omega arith)
get_or-honest_halves (v ∷ vs) (t ∷ ts) bit zero same lt = refl
get_or-honest_halves (v ∷ vs) (t ∷ ts) bit (suc k) same lt =
    get_or-honest_halves vs ts bit k (omega arith) (omega arith)

-- the first halves are the masks
pub first_halves_are_masks : (values : List ℕ) (tape : List WireTape) → length values ≡ length tape
    → honest_halves values tape false ≡ masks tape
unfolding honest_halves
first_halves_are_masks [] [] same = refl
first_halves_are_masks [] (t ∷ ts) same = absurd (omega arith)
first_halves_are_masks (v ∷ vs) [] same = absurd (omega arith)
first_halves_are_masks (v ∷ vs) (t ∷ ts) same =
    ap (λ rest. t.mask ∷ rest) (first_halves_are_masks vs ts (omega arith))

-- a mask and the value less the mask come to the value
halves_come_to : (value mask : ℕ) → IsResidue value → IsResidue mask
    → sum mask (difference value mask) ≡ value
halves_come_to value mask small small_mask = omega arith

-- both halves of each wire come to its value
pub halves_are_sums : (values : List ℕ) (tape : List WireTape) → length values ≡ length tape
    → All IsResidue values → All IsTape tape
    → sums (masks tape) (honest_halves values tape true) ≡ values
unfolding honest_halves
halves_are_sums [] [] same residues small = refl
halves_are_sums [] (t ∷ ts) same residues small = absurd (omega arith)
halves_are_sums (v ∷ vs) [] same residues small = absurd (omega arith)
halves_are_sums (v ∷ vs) (t ∷ ts) same residues small =
    let here = halves_come_to v t.mask (All-head IsResidue v vs residues)
    (All-head IsTape t ts small).mask in
    let rest = halves_are_sums vs ts (omega arith) (All-tail IsResidue v vs residues)
    (All-tail IsTape t ts small) in
    cc

pub length-masks : (tape : List WireTape) → length (masks tape) ≡ length tape
length-masks [] = refl
length-masks (t ∷ ts) = ap suc (length-masks ts)

-- the other half of a row that is 0
other_half : (x first second constant : ℕ) → x ≡ (first + second) % modulus
    → (x + constant) % modulus ≡ 0 → first < modulus
    → (second + constant) % modulus ≡ negative first
other_half x first second constant parts zero_row small = omega (arith, parts, zero_row)

linear_part_below : (row : Form) (values : List ℕ) → linear_part row.terms values < modulus
unfolding linear_part
linear_part_below row values = omega arith

-- a row that is 0 on the values has its side on the second halves
row_seconds : (row : Form) (values firsts seconds : List ℕ) → length firsts ≡ length seconds
    → NamesBelow (length firsts) row.terms
    → sums firsts seconds ≡ values → form_value row values ≡ 0
    → form_value row seconds ≡ negative (linear_part row.terms firsts)
unfolding form_value
row_seconds row values firsts seconds same names are zero_row =
    let parts : linear_part row.terms values
    ≡ sum (linear_part row.terms firsts) (linear_part row.terms seconds) =
    ap (linear_part row.terms) (sym are) ∙ linear_part_sums row.terms firsts seconds same names in
    other_half (linear_part row.terms values) (linear_part row.terms firsts)
    (linear_part row.terms seconds) row.constant parts zero_row (linear_part_below row firsts)

-- a row that is 0 on the values has both sides on the halves, with its posted number
pub row_has_side : (row : Form) (values : List ℕ) (tape : List WireTape) (bit : Bool)
    → length values ≡ length tape → NamesBelow (length tape) row.terms
    → All IsResidue values → All IsTape tape → form_value row values ≡ 0
    → HasSide row bit (honest_halves values tape bit) (posted_on (masks tape) row)
row_has_side row values tape false same names residues small zero_row =
    ap (linear_part row.terms) (first_halves_are_masks values tape same)
row_has_side row values tape true same names residues small zero_row =
    let long = length-masks tape in
    let halves = length-honest_halves values tape true same in
    row_seconds row values (masks tape) (honest_halves values tape true) (long ∙ sym halves)
    (rw long names) (halves_are_sums values tape same residues small) zero_row
