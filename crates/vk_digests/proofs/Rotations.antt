-- The functions of words whose rotations are nested, each inside the one before, bit by bit.
use Rattle.std.proofs.Common.{◌≡◌, ℕ, ◌+◌, ◌-◌, ◌*◌, ◌/◌, ◌%◌, ◌^◌, ◌<◌, bit_or, bit_xor, refl, sym, ap, ◌∙◌, inl, inr, arith}
use Rattle.std.specs.Int.{w32, bit_at, rotate_right}
use Rattle.std.specs.Int.Bits.{xor_assoc}
use Rattle.std.proofs.lemmas.Bool.{cases_lt}
use Rattle.std.proofs.lemmas.Nat.{or_lt, pow_pos, shr-shr, shr_le, xor_lt}
use Rattle.std.proofs.lemmas.Nat.Bits.{bit_at-zero, bit_at_above, bit_at_cat_high, bit_at_cat_low, bit_at_or, bit_at_xor, same_from_bits_below}
use Rattle.sha2.specs.Sha256.{big_sigma0, big_sigma1, small_sigma0, small_sigma1}

abbrev rotated : ℕ → ℕ → ℕ
rotated k x = bit_or (x / 2 ^ k) (x * 2 ^ (32 - k) % 2 ^ 32)

-- bit i of the low 32 bits of a number
low_bit : (n i : ℕ) → i < 32 → bit_at (n % 2 ^ 32) i ≡ bit_at n i
low_bit n i lt =
    let parts : n ≡ n / 2 ^ 32 * 2 ^ 32 + n % 2 ^ 32 = omega arith in
    sym (bit_at_cat_low (n / 2 ^ 32) 32 (n % 2 ^ 32) i lt) ∙ ap (λ m. bit_at m i) (sym parts)

-- bit i of the bits of a word that go out at its low end and come in at its high end
high_part : (k x i : ℕ) → i < 32 → bit_at (x * 2 ^ (32 - k) % 2 ^ 32) i
    ≡ bit_at (x * 2 ^ (32 - k) + 0) i
high_part k x i lt =
    let same : x * 2 ^ (32 - k) ≡ x * 2 ^ (32 - k) + 0 = omega arith in
    low_bit _ i lt ∙ ap (λ m. bit_at m i) same

low_part : (k x i : ℕ) → bit_at (x / 2 ^ k) i ≡ bit_at x (k + i)
low_part k x i = ap (λ m. m % 2) (shr-shr x k i)

-- each bit of a rotated word is a bit of the word
rotated_bit : (k x i : ℕ) → k < 32 → x < 2 ^ 32 → i < 32
    → bit_at (rotated k x) i ≡ bit_at x ((i + k) % 32)
rotated_bit k x i short small lt =
    let low = low_part k x i in
    let high = high_part k x i lt in
    elim (cases_lt (i + k) 32) [
      | inl within ↦
          let from : (i + k) % 32 ≡ k + i = omega arith in
          let none : bit_at (x * 2 ^ (32 - k) + 0) i ≡ 0 =
          bit_at_cat_low x (32 - k) 0 i (omega arith) ∙ bit_at-zero i in
          rw (bit_at_or (x / 2 ^ k) (x * 2 ^ (32 - k) % 2 ^ 32) i, low, high, none, from)
          (omega arith)
      | inr past ↦
          let from : (i + k) % 32 ≡ i - (32 - k) = omega arith in
          let none : bit_at x (k + i) ≡ 0 = bit_at_above x 32 (k + i) small (omega arith) in
          let there : bit_at (x * 2 ^ (32 - k) + 0) i ≡ bit_at x (i - (32 - k)) =
          bit_at_cat_high x (32 - k) 0 i (pow_pos (32 - k)) (omega arith) in
          rw (bit_at_or (x / 2 ^ k) (x * 2 ^ (32 - k) % 2 ^ 32) i, low, high, none, there, from)
          (omega arith)
    ]

rotated_small : (k x : ℕ) → x < 2 ^ 32 → rotated k x < 2 ^ 32
rotated_small k x small =
    or_lt 32 (x / 2 ^ k) (x * 2 ^ (32 - k) % 2 ^ 32) (omega (arith, shr_le x k)) (omega arith)

-- a rotation of a word under xor with another
xor_rotated : (k x y : ℕ) → k < 32 → x < 2 ^ 32 → y < 2 ^ 32
    → rotated k (bit_xor x y) ≡ bit_xor (rotated k x) (rotated k y)
xor_rotated k x y short small_x small_y =
    let both = xor_lt 32 x y small_x small_y in
    same_from_bits_below 32 _ _ (rotated_small k _ both)
    (xor_lt 32 _ _ (rotated_small k x small_x) (rotated_small k y small_y)) (λ i lt.
    rw (
      rotated_bit k (bit_xor x y) i short both lt,
      bit_at_xor x y ((i + k) % 32),
      bit_at_xor (rotated k x) (rotated k y) i,
      rotated_bit k x i short small_x lt,
      rotated_bit k y i short small_y lt,
    ) refl)

-- two rotations are one
rotated_twice : (k j x : ℕ) → k + j < 32 → x < 2 ^ 32 → rotated k (rotated j x) ≡ rotated (k + j) x
rotated_twice k j x short small =
    let inner = rotated_small j x small in
    same_from_bits_below 32 _ _ (rotated_small k _ inner) (rotated_small (k + j) x small) (λ i lt.
    let from : ((i + k) % 32 + j) % 32 ≡ (i + (k + j)) % 32 = omega arith in
    rw (
      rotated_bit k (rotated j x) i (omega arith) inner lt,
      rotated_bit j x ((i + k) % 32) (omega arith) small (omega arith),
      rotated_bit (k + j) x i short small lt,
      from,
    ) refl)

-- the xor of a word's rotations by k and by k + j
two_rotations : (k j x : ℕ) → k + j < 32 → x < 2 ^ 32
    → rotated k (bit_xor x (rotated j x)) ≡ bit_xor (rotated k x) (rotated (k + j) x)
two_rotations k j x short small =
    xor_rotated k x (rotated j x) (omega arith) small (rotated_small j x small)
    ∙ ap (bit_xor (rotated k x)) (rotated_twice k j x short small)

-- the same of three
three_rotations : (k j i x : ℕ) → k + (j + i) < 32 → x < 2 ^ 32
    → rotated k (bit_xor x (rotated j (bit_xor x (rotated i x))))
    ≡ bit_xor (bit_xor (rotated k x) (rotated (k + j) x)) (rotated (k + (j + i)) x)
three_rotations k j i x short small =
    let near = rotated_small j x small in
    let far = rotated_small (j + i) x small in
    let inner : rotated k (bit_xor (rotated j x) (rotated (j + i) x))
    ≡ bit_xor (rotated (k + j) x) (rotated (k + (j + i)) x) =
    xor_rotated k (rotated j x) (rotated (j + i) x) (omega arith) near far
    ∙ rw (rotated_twice k j x (omega arith) small, rotated_twice k (j + i) x short small) refl in
    ap (λ y. rotated k (bit_xor x y)) (two_rotations j i x (omega arith) small)
    ∙ xor_rotated k x (bit_xor (rotated j x) (rotated (j + i) x)) (omega arith) small
    (xor_lt 32 _ _ near far)
    ∙ ap (bit_xor (rotated k x)) inner
    ∙ sym (xor_assoc (rotated k x) (rotated (k + j) x) (rotated (k + (j + i)) x))

pub big_sigma0_nested : (x : ℕ) → x < 2 ^ 32
    → rotate_right w32 (bit_xor x (rotate_right w32 (bit_xor x (rotate_right w32 x 9)) 11)) 2
    ≡ big_sigma0 x
big_sigma0_nested x small = three_rotations 2 11 9 x (omega arith) small

pub big_sigma1_nested : (x : ℕ) → x < 2 ^ 32
    → rotate_right w32 (bit_xor x (rotate_right w32 (bit_xor x (rotate_right w32 x 14)) 5)) 6
    ≡ big_sigma1 x
big_sigma1_nested x small = three_rotations 6 5 14 x (omega arith) small

pub small_sigma0_nested : (x : ℕ) → x < 2 ^ 32
    → bit_xor (rotate_right w32 (bit_xor x (rotate_right w32 x 11)) 7) (x / 2 ^ 3) ≡ small_sigma0 x
small_sigma0_nested x small =
    ap (λ y. bit_xor y (x / 2 ^ 3)) (two_rotations 7 11 x (omega arith) small)

pub small_sigma1_nested : (x : ℕ) → x < 2 ^ 32
    → bit_xor (rotate_right w32 (bit_xor x (rotate_right w32 x 2)) 17) (x / 2 ^ 10)
    ≡ small_sigma1 x
small_sigma1_nested x small =
    ap (λ y. bit_xor y (x / 2 ^ 10)) (two_rotations 17 2 x (omega arith) small)
