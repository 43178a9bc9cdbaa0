-- Lower-case hexadecimal: writing byte by byte, and both directions between bytes and their text.
use Rattle.std.proofs.Common.{◌≡◌, ℕ, suc, ◌+◌, ◌-◌, ◌*◌, ◌/◌, ◌%◌, ◌<◌, ◌≤◌, nat_le, nat_lt, Bool, true, false, ◌&&◌, if◌then◌else◌, inl, inr, List, [], ◌∷◌, ◌++◌, length, take, drop, max, get_or, slice_index, Option, Some, None, Result, Ok, Err, refl, ap, sym, ◌∙◌, arith, rules, append_assoc}
use Rattle.std.specs.List.{list_all}
use Rattle.std.specs.Option.{IfSome}
use Rattle.std.specs.Result.{result_ok}
use Rattle.std.proofs.lemmas.Bool.{and_parts, cases_lt}
use Rattle.std.proofs.lemmas.Bool.Decides.{nat_tests}
use Rattle.std.proofs.lemmas.List.{take_more}
use Rattle.std.proofs.lemmas.List.Folds.{list_all_at}
use Rattle.std.proofs.lemmas.Grind.{common_steps, take-set_at}
use Rattle.std.proofs.Math.ListN.{set}
use Rattle.std.proofs.Math.Seq.{take-add}
use Rattle.hex.specs.Hex.{IsBytes, encode_with, lower_digits, decode_of, decode_pairs, decode_sized, digit_or_error, hex_digit_value, pair_value, value_at}
use Rattle.hex.specs.declared.error.FromHexError.{FromHexError}
use Rattle.hex.proofs.HexLemmas.{length-encode_with, decode_of-even, decode_of-ok, decode_sized-ok, decode_sized-twice, decode_sized-encode_lower}
use Rattle.hex.proofs.Pairs.{cons_byte, decode_pairs-ok_pair}
use Rattle.vk_lines.specs.Tokens.{hex_text, hex_of, is_lower_digit, digit_value, ReadsHex}

encode_with-append : (table bytes more : List ℕ)
    → encode_with table (bytes ++ more) ≡ encode_with table bytes ++ encode_with table more
unfolding encode_with
encode_with-append table [] more = refl
encode_with-append table (x ∷ bytes) more =
    ap (λ rest. slice_index table (x / 16) ∷ slice_index table (x % 16) ∷ rest)
    (encode_with-append table bytes more)

encode_with-push : (table bytes : List ℕ) (b : ℕ)
    → encode_with table (bytes ++ b ∷ []) ≡ encode_with table bytes ++ slice_index table (b / 16)
    ∷ slice_index table (b % 16) ∷ []
unfolding encode_with
encode_with-push table bytes b = encode_with-append table bytes (b ∷ [])

-- a piece more
pub hex_text_more : (bytes : List ℕ) (written count : ℕ)
    → hex_text (take (written + count) bytes)
    ≡ hex_text (take written bytes) ++ hex_text (take count (drop written bytes))
hex_text_more bytes written count = ap hex_text (take-add written count bytes)
    ∙ encode_with-append lower_digits (take written bytes) (take count (drop written bytes))

-- no bytes have the empty text
pub hex_text_none : (bytes : List ℕ) → bytes ≡ [] → hex_text bytes ≡ []
unfolding encode_with
hex_text_none bytes none = rw none refl

-- ---- both directions between bytes and their text

-- the digit of a value below 16
digit_of : (v : ℕ) → v < 16 → slice_index lower_digits v ≡ (if nat_lt v 10 then 48 + v else 87 + v)
digit_of v small = search rules

-- a lower-case digit has a value, and is that value's digit
lower_value : (c : ℕ) → is_lower_digit c ≡ true → (v : ℕ) × (v < 16) × (hex_digit_value c ≡ Some v)
    × (slice_index lower_digits v ≡ c)
lower_value c lower =
    elim (cases_lt c 58) [
      | inl digit ↦
          let value : hex_digit_value c ≡ Some (c - 48) = grind (arith, nat_tests) in
          let low : 48 ≤ c = grind (arith, nat_tests) in
          let small : c - 48 < 16 = omega arith in
          (c - 48, small, value, digit_of (c - 48) small ∙ grind (arith, nat_tests))
      | inr letter ↦
          let value : hex_digit_value c ≡ Some (c - 87) = grind (arith, nat_tests) in
          let low : 97 ≤ c = grind (arith, nat_tests) in
          let high : c ≤ 102 = grind (arith, nat_tests) in
          let small : c - 87 < 16 = omega arith in
          (c - 87, small, value, digit_of (c - 87) small ∙ grind (arith, nat_tests))
    ]

-- lower-case digits are the text of the bytes that their pairs write
lower_pairs : (i : ℕ) (text : List ℕ) → length text % 2 ≡ 0 → list_all is_lower_digit text ≡ true
    → (bytes : List ℕ) × (decode_pairs i text ≡ Ok bytes) × (hex_text bytes ≡ text)
unfolding decode_pairs encode_with
lower_pairs i [] even lower = ([], refl, refl)
lower_pairs i (a ∷ []) even lower = absurd (omega arith)
lower_pairs i (a ∷ b ∷ text) even lower =
    let front = and_parts (is_lower_digit a) (is_lower_digit b && list_all is_lower_digit text)
    lower in
    let next = and_parts (is_lower_digit b) (list_all is_lower_digit text) front.1 in
    let high = lower_value a front.0 in
    let low = lower_value b next.0 in
    let rest = lower_pairs (i + 2) text (omega arith) next.1 in
    let ha : value_at a i ≡ Ok high.0 = ap (digit_or_error a i) high.2 in
    let hb : value_at b (i + 1) ≡ Ok low.0 = ap (digit_or_error b (i + 1)) low.2 in
    let pair : pair_value a b i ≡ Ok (high.0 * 16 + low.0) = rw (ha, hb) refl in
    let over : (high.0 * 16 + low.0) / 16 ≡ high.0 = omega arith in
    let under : (high.0 * 16 + low.0) % 16 ≡ low.0 = omega arith in (
      (high.0 * 16 + low.0) ∷ rest.0,
      decode_pairs-ok_pair i a b _ text pair ∙ ap (cons_byte (high.0 * 16 + low.0)) rest.1,
      rw (over, under, high.3, low.3, rest.2) refl,
    )

-- the text of bytes has lower-case digits alone
pub hex_text-lower : (bytes : List ℕ) → IsBytes bytes
    → list_all is_lower_digit (hex_text bytes) ≡ true
unfolding encode_with
hex_text-lower [] fit = refl
hex_text-lower (b ∷ bytes) fit =
    let byte : b < 256 = fit 0 in
    let high = digit_of (b / 16) (omega arith) in
    let low = digit_of (b % 16) (omega arith) in
    let rest = hex_text-lower bytes (λ k. fit (suc k)) in
    let ha : is_lower_digit (slice_index lower_digits (b / 16)) ≡ true =
    rw high (grind (arith, nat_tests)) in
    let hb : is_lower_digit (slice_index lower_digits (b % 16)) ≡ true =
    rw low (grind (arith, nat_tests)) in
    rw (ha, hb, rest) refl

ok_of_some : (r : Result (List ℕ) FromHexError) (bytes : List ℕ) → result_ok r ≡ Some bytes
    → r ≡ Ok bytes
ok_of_some (Ok xs) bytes h = cc
ok_of_some (Err e) bytes h = cc

-- what a test shows
pub if_some : {A : Type 0} (test : Bool) (o : Option A) (y : A)
    → (if test then o else None) ≡ Some y → (test ≡ true) × (o ≡ Some y)
if_some true o y h = (refl, h)
if_some false o y h = cc

-- what is read as bytes is their text
pub hex_of-some : (count : ℕ) (text bytes : List ℕ) → hex_of count text ≡ Some bytes
    → (length bytes ≡ count) × IsBytes bytes × (text ≡ hex_text bytes)
unfolding hex_of
hex_of-some count text bytes h =
    let found = if_some (list_all is_lower_digit text) (result_ok (decode_sized text count))
    bytes h in
    let sized = ok_of_some (decode_sized text count) bytes found.1 in
    let long = decode_sized-ok text count bytes sized in
    let even : length text % 2 ≡ 0 = omega arith in
    let whole : decode_of text ≡ Ok bytes = sym (decode_sized-twice text count long) ∙ sized in
    let facts = decode_of-ok text bytes whole in
    let lower = lower_pairs 0 text even found.0 in
    let same : Ok lower.0 ≡ Ok bytes = sym lower.1 ∙ sym (decode_of-even text even) ∙ whole in
    let bytes_same : lower.0 ≡ bytes = cc same in
    (omega (arith, facts.2), facts.3, sym lower.2 ∙ ap hex_text bytes_same)

-- and the text of bytes is read as them
pub hex_of-hex_text : (count : ℕ) (bytes : List ℕ) → length bytes ≡ count → IsBytes bytes
    → hex_of count (hex_text bytes) ≡ Some bytes
unfolding hex_of
hex_of-hex_text count bytes long fit =
    rw (hex_text-lower bytes fit, decode_sized-encode_lower bytes count long fit) refl

-- two digits for each byte
pub length-hex_text : (bytes : List ℕ) → length (hex_text bytes) ≡ 2 * length bytes
length-hex_text bytes = length-encode_with lower_digits bytes

-- both directions
pub ReadsHex-hex_of : (count : ℕ) (text : List ℕ) (result : Option (List ℕ))
    → result ≡ hex_of count text → ReadsHex count text result
ReadsHex-hex_of count text result value bytes = (
  λ some. hex_of-some count text bytes (sym value ∙ some),
  λ facts. value ∙ ap (hex_of count) facts.2 ∙ hex_of-hex_text count bytes facts.0 facts.1,
)

-- what is read is so many bytes
pub read_bytes : (count : ℕ) (text : List ℕ) (result : Option (List ℕ)) → ReadsHex count text result
    → IfSome result (λ bytes. (length bytes ≡ count) × IsBytes bytes)
read_bytes count text (Some bytes) exact = let is = (exact bytes).0 refl in (is.0, is.1)
read_bytes count text None exact = tt

-- ---- reading digit by digit

none_of : (o : Option (List ℕ)) → ((bytes : List ℕ) → o ≡ Some bytes → ⊥) → o ≡ None
none_of (Some bytes) never = absurd (never bytes refl)
none_of None never = refl

-- a text of another length is that of no bytes
pub hex_none_long : (count : ℕ) (text : List ℕ) → (length text ≡ 2 * count → ⊥)
    → hex_of count text ≡ None
hex_none_long count text other =
    none_of (hex_of count text)
    (λ bytes some. let is = hex_of-some count text bytes some in
    other (ap length is.2 ∙ length-hex_text bytes ∙ ap (λ n. 2 * n) is.0))

-- a digit is that of its value, and another character has none
digit_is : (c : ℕ) → digit_value c ≤ 15 → slice_index lower_digits (digit_value c) ≡ c
digit_is c small =
    elim (cases_lt c 58) [
      | inl digit ↦
          let value : digit_value c ≡ c - 48 = grind (arith, nat_tests) in
          let low : 48 ≤ c = grind (arith, nat_tests) in
          rw value (digit_of (c - 48) (omega arith) ∙ grind (arith, nat_tests))
      | inr letter ↦
          let value : digit_value c ≡ c - 87 = grind (arith, nat_tests) in
          let low : 97 ≤ c = grind (arith, nat_tests) in
          let high : c ≤ 102 = grind (arith, nat_tests) in
          rw value (digit_of (c - 87) (omega arith) ∙ grind (arith, nat_tests))
    ]

digit_none : (c : ℕ) → 15 < digit_value c → is_lower_digit c ≡ false
digit_none c great = grind (arith, nat_tests)

-- a text with another character is that of no bytes
pub hex_none_at : (count : ℕ) (text : List ℕ) (i : ℕ) → i < length text
    → 15 < digit_value (get_or text i 0) → hex_of count text ≡ None
unfolding hex_of
hex_none_at count text i within great =
    rw (list_all_at is_lower_digit text i 0 within (digit_none (get_or text i 0) great)) refl

-- each item so far is that of the text, and one more is
pub items_more : (f : ℕ → ℕ) (items text : List ℕ) (i k item : ℕ) → i < length items → k < i + 1
    → (k < i → get_or items k 0 ≡ f (get_or text k 0)) → item ≡ f (get_or text i 0)
    → get_or (set items i item) k 0 ≡ f (get_or text k 0)
items_more f items text i k item within below before is = grind (arith, common_steps)

-- the greatest value of the digits so far and of one more is none of a digit
pub none_more : (count : ℕ) (text : List ℕ) (i greatest : ℕ) → i < length text
    → ((count : ℕ) → 15 < greatest → hex_of count text ≡ None)
    → 15 < max greatest (digit_value (get_or text i 0)) → hex_of count text ≡ None
none_more count text i greatest within before great =
    elim (cases_lt 15 greatest) [
      | inl one ↦ before count one
      | inr small ↦ hex_none_at count text i within (omega arith)
    ]

-- the byte of two digits
abbrev pub byte_of : ℕ → ℕ → ℕ
byte_of high low = high % 16 * 16 + low % 16

-- two digits more write one byte more
pair_read : (bytes text : List ℕ) (i high low : ℕ) → i < length bytes → 2 * i + 1 < length text
    → high ≡ digit_value (get_or text (2 * i) 0) → low ≡ digit_value (get_or text (2 * i + 1) 0)
    → high ≤ 15 → low ≤ 15
    → hex_text (take i bytes) ≡ take (2 * i) text
    → hex_text (take (i + 1) (set bytes i (high * 16 + low))) ≡ take (2 * (i + 1)) text
pair_read bytes text i high low within inside is_high is_low small_high small_low so_far =
    let over : (high * 16 + low) / 16 ≡ high = omega arith in
    let under : (high * 16 + low) % 16 ≡ low = omega arith in
    let first : slice_index lower_digits high ≡ get_or text (2 * i) 0 =
    rw is_high (digit_is (get_or text (2 * i) 0) (omega arith)) in
    let second : slice_index lower_digits low ≡ get_or text (2 * i + 1) 0 =
    rw is_low (digit_is (get_or text (2 * i + 1) 0) (omega arith)) in
    let more : take (2 * i + 1) text ≡ take (2 * i) text ++ get_or text (2 * i) 0 ∷ [] =
    take_more text (2 * i) 0 (omega arith) in
    let last : take (2 * i + 1 + 1) text ≡ take (2 * i + 1) text ++ get_or text (2 * i + 1) 0 ∷ [] =
    take_more text (2 * i + 1) 0 inside in
    let count : 2 * (i + 1) ≡ 2 * i + 1 + 1 = omega arith in
    ap hex_text (take-set_at bytes i (i + 1) (high * 16 + low) refl within)
    ∙ encode_with-push lower_digits (take i bytes) (high * 16 + low)
    ∙ rw (over, under, first, second, so_far, count, last, more)
    (sym (append_assoc (take (2 * i) text) (get_or text (2 * i) 0 ∷ [])
    (get_or text (2 * i + 1) 0 ∷ [])))

-- so do they where both are values of digits
pub digits_more : (bytes text : List ℕ) (i high low : ℕ) → i < length bytes
    → 2 * i + 1 < length text
    → high ≡ digit_value (get_or text (2 * i) 0) → low ≡ digit_value (get_or text (2 * i + 1) 0)
    → high ≤ 15 → low ≤ 15
    → hex_text (take i bytes) ≡ take (2 * i) text
    → hex_text (take (i + 1) (set bytes i (byte_of high low))) ≡ take (2 * (i + 1)) text
digits_more bytes text i high low within inside is_high is_low small_high small_low so_far =
    let byte : byte_of high low ≡ high * 16 + low = omega arith in
    rw byte (pair_read bytes text i high low within inside is_high is_low small_high small_low
    so_far)

-- whether or not all were digits
pub hex_by : (bytes text : List ℕ) (count greatest : ℕ) → length bytes ≡ count → IsBytes bytes
    → (greatest ≤ 15 → hex_text bytes ≡ text)
    → (15 < greatest → hex_of count text ≡ None)
    → hex_of count text ≡ (if nat_le greatest 15 then Some bytes else None)
hex_by bytes text count greatest long fit whole none =
    elim (cases_lt 15 greatest) [
      | inl great ↦ let other : nat_le greatest 15 ≡ false = grind (arith, nat_tests) in
          rw other (none great)
      | inr small ↦ let is : nat_le greatest 15 ≡ true = grind (arith, nat_tests) in
          rw is (ap (hex_of count) (sym (whole (omega arith)))
          ∙ hex_of-hex_text count bytes long fit)
    ]
