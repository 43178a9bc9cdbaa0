-- Canonical decimals: reading digit by digit, and both directions between a number and its text.
use Rattle.std.proofs.Common.{◌≡◌, ℕ, ◌+◌, ◌-◌, ◌*◌, ◌^◌, ◌/◌, ◌%◌, ◌<◌, ◌≤◌, Bool, true, false, ◌&&◌, if◌then◌else◌, nat_le, List, [], ◌∷◌, length, get_or, decimal, Option, Some, None, refl, ap, sym, ◌∙◌, arith, ◌⊎◌, inl, inr}
use Rattle.std.specs.Char.{is_ascii_digit, digit_value}
use Rattle.std.specs.Option.{IfSome, option_and_then}
use Rattle.std.specs.Str.{all_ascii_digits}
use Rattle.std.specs.Str.Parse.{digits_value, digits_value_after}
use Rattle.std.proofs.lemmas.Bool.{and_parts, cases_Bool, cases_eq, cases_lt, le-leb, lt-leb, leb-true}
use Rattle.std.proofs.lemmas.Bool.Decides.{nat_tests}
use Rattle.std.proofs.lemmas.Fmt.{decimal-digits_value, digits_value-decimal, digits_decimal, decimal_nonempty, first_decimal, decimal_digit, decimal_step}
use Rattle.std.proofs.lemmas.List.{length_push}
use Rattle.std.proofs.lemmas.Str.Parse.{IsNumeralModel, numerals_by_value, tells_all_ascii_digits}
use Rattle.vk_lines.specs.Tokens.{starts_canonical, is_canonical, decimal_of, next_number, ReadsDecimal}

-- the number that the digits of `text` continue, while it stays at most `most`
abbrev pub decimal_after : ℕ → ℕ → List ℕ → Option ℕ
decimal_after most number [] = Some number
decimal_after most number (digit ∷ text) =
    option_and_then (λ longer. decimal_after most longer text) (next_number most number digit)

-- more digits never make a smaller number
digits_value_after-ge : (n : ℕ) (text : List ℕ) → n ≤ digits_value_after 10 n text
digits_value_after-ge n [] = omega arith
digits_value_after-ge n (c ∷ text) = let more = digits_value_after-ge (n * 10 + digit_value c) text
    in omega arith

-- a digit's value
digit_value-digit : (c : ℕ) → is_ascii_digit c ≡ true → digit_value c ≡ c - 48
digit_value-digit c h = grind (arith, nat_tests)

-- the next digit is taken, or it is none or makes the number too great
next_cases : (most n c : ℕ)
    → ((next_number most n c ≡ Some (10 * n + (c - 48))) × (10 * n + (c - 48) ≤ most)
    × (is_ascii_digit c ≡ true))
    ⊎ ((next_number most n c ≡ None)
    × ((is_ascii_digit c ≡ false) ⊎ ((is_ascii_digit c ≡ true) × (most < 10 * n + (c - 48)))))
next_cases most n c =
    elim (cases_Bool (is_ascii_digit c)) [
      | inl digit ↦
          elim (cases_lt most (10 * n + (c - 48))) [
            | inl over ↦
                let great = lt-leb (10 * n + (c - 48)) most over in
                inr (rw (digit, great) refl, inr (digit, over))
            | inr fits ↦
                let small = le-leb (10 * n + (c - 48)) most fits in
                inl (rw (digit, small) refl, fits, digit)
          ]
      | inr other ↦ inr (rw other refl, inl other)
    ]

-- then the whole text is no number that is small enough
stopped : (most n c : ℕ) (text : List ℕ) → (is_ascii_digit c ≡ false)
    ⊎ ((is_ascii_digit c ≡ true) × (most < 10 * n + (c - 48)))
    → (all_ascii_digits (c ∷ text) && nat_le (digits_value_after 10 n (c ∷ text)) most) ≡ false
stopped most n c text (inl other) = rw other refl
stopped most n c text (inr over) =
    let more = digits_value_after-ge (n * 10 + digit_value c) text in
    let value = digit_value-digit c over.0 in
    let great : most < digits_value_after 10 (n * 10 + digit_value c) text = omega arith in
    grind (arith, nat_tests)

-- a digit in front of a text
digit_first : (most n c : ℕ) (text : List ℕ) → is_ascii_digit c ≡ true
    → n * 10 + digit_value c ≡ 10 * n + (c - 48)
    → (if all_ascii_digits text && nat_le (digits_value_after 10 (10 * n + (c - 48)) text) most
    then Some (digits_value_after 10 (10 * n + (c - 48)) text) else None)
    ≡ (if all_ascii_digits (c ∷ text) && nat_le (digits_value_after 10 n (c ∷ text)) most
    then Some (digits_value_after 10 n (c ∷ text)) else None)
digit_first most n c text digit value = rw (value, digit) refl

none_where : (test : Bool) (n : ℕ) → test ≡ false → (if test then Some n else None) ≡ None
none_where test n h = rw h refl

-- digit by digit, the number of the digits is found where it is not too great
pub decimal_after-is : (most n : ℕ) (text : List ℕ) → n ≤ most
    → decimal_after most n text
    ≡ (if all_ascii_digits text && nat_le (digits_value_after 10 n text) most
    then Some (digits_value_after 10 n text) else None)
decimal_after-is most n [] small = grind (arith, nat_tests)
decimal_after-is most n (c ∷ text) small =
    elim (next_cases most n c) [
      | inl more ↦
          let ih = decimal_after-is most (10 * n + (c - 48)) text more.1 in
          let value : n * 10 + digit_value c ≡ 10 * n + (c - 48) =
          omega (arith, digit_value-digit c more.2) in
          ap (option_and_then (λ m. decimal_after most m text)) more.0 ∙ ih
          ∙ digit_first most n c text more.2 value
      | inr stop ↦
          ap (option_and_then (λ m. decimal_after most m text)) stop.0
          ∙ sym (none_where _ (digits_value_after 10 n (c ∷ text)) (stopped most n c text stop.1))
    ]

-- a text that starts as a canonical decimal is read digit by digit
pub decimal_of-starts : (most : ℕ) (text : List ℕ) → starts_canonical text ≡ true
    → decimal_after most 0 text ≡ decimal_of most text
unfolding decimal_of
decimal_of-starts most text h = rw h (decimal_after-is most 0 text (omega arith))

-- and another is none
pub decimal_of-other : (most : ℕ) (text : List ℕ) → starts_canonical text ≡ false
    → decimal_of most text ≡ None
unfolding decimal_of
decimal_of-other most text h = rw h refl

-- std's words for digits and their value
pub own : IsNumeralModel (λ ds. all_ascii_digits ds ≡ true) (digits_value 10)
own = numerals_by_value _ tells_all_ascii_digits

-- what a canonical start tells
starts_tells : (text : List ℕ) → starts_canonical text ≡ true
    → (0 < length text) × (get_or text 0 0 ≡ 48 → length text ≡ 1)
starts_tells text h = (grind (arith, nat_tests), λ zero. grind (arith, nat_tests))

starts_from : (text : List ℕ) → 0 < length text → 48 < get_or text 0 0
    → starts_canonical text ≡ true
starts_from text some first = grind (arith, nat_tests)

starts_decimal : (n : ℕ) → n < 2 ^ 64 → starts_canonical (decimal n) ≡ true
starts_decimal n fits =
    elim (cases_eq n 0) [
      | inl none ↦ rw (none, decimal_digit 0 (omega arith)) refl
      | inr some ↦ starts_from (decimal n) (decimal_nonempty n fits)
          (first_decimal n (omega arith) fits)
    ]

some_where : (test : Bool) (v n : ℕ) → (if test then Some v else None) ≡ Some n
    → (test ≡ true) × (v ≡ n)
some_where true v n h = (refl, cc)
some_where false v n h = cc

-- what is read as a number is its decimal
pub decimal_of-some : (most n : ℕ) (text : List ℕ) → most < 2 ^ 64 → decimal_of most text ≡ Some n
    → (n ≤ most) × (text ≡ decimal n)
unfolding decimal_of
decimal_of-some most n text fits h =
    let found = some_where (is_canonical text && nat_le (digits_value 10 text) most)
    (digits_value 10 text) n h in
    let both = and_parts (is_canonical text) (nat_le (digits_value 10 text) most) found.0 in
    let canonical = and_parts (starts_canonical text) (all_ascii_digits text) both.0 in
    let small : digits_value 10 text ≤ most = leb-true (digits_value 10 text) most both.1 in
    let start = starts_tells text canonical.0 in
    let same : decimal (digits_value 10 text) ≡ text =
    decimal-digits_value own text canonical.1 start.0 start.1 (omega arith) in
    (omega (arith, found.1), sym same ∙ ap decimal found.1)

-- and each decimal is read as its number
pub decimal_of-decimal : (most n : ℕ) → most < 2 ^ 64 → n ≤ most
    → decimal_of most (decimal n) ≡ Some n
unfolding decimal_of
decimal_of-decimal most n fits small =
    let less : n < 2 ^ 64 = omega arith in
    let within = le-leb n most small in
    rw (starts_decimal n less, digits_decimal own n less, digits_value-decimal own n less, within)
    refl

-- each further digit makes the text longer by one
pub length-decimal_step : (n : ℕ) → 10 ≤ n → n < 2 ^ 64
    → length (decimal n) ≡ length (decimal (n / 10)) + 1
length-decimal_step n more fits = ap length (decimal_step n more fits)
    ∙ length_push (decimal (n / 10)) (48 + n % 10)

-- both directions
pub ReadsDecimal-decimal_of : (most : ℕ) (text : List ℕ) (result : Option ℕ) → most < 2 ^ 64
    → result ≡ decimal_of most text → ReadsDecimal most text result
ReadsDecimal-decimal_of most text result fits value n = (
  λ some. decimal_of-some most n text fits (sym value ∙ some),
  λ facts. value ∙ ap (decimal_of most) facts.1 ∙ decimal_of-decimal most n fits facts.0,
)

-- what is read is at most `most`
pub within_most : (most : ℕ) (text : List ℕ) (result : Option ℕ) → ReadsDecimal most text result
    → IfSome result (λ number. number ≤ most)
within_most most text (Some n) exact = ((exact n).0 refl).0
within_most most text None exact = tt
