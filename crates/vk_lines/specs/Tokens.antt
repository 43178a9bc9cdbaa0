-- The pieces of a line: numbers, bytes in hexadecimal, and the fields between spaces.
use Rattle.std.specs.Prelude.{◌≡◌, ◌<◌, ◌≤◌, ◌↔◌, ℕ, ◌+◌, ◌-◌, ◌*◌, ◌==◌, ◌&&◌, ◌||◌, nat_le, nat_lt, Bool, if◌then◌else◌, List, [], ◌∷◌, length, slice_index, decimal, not, Option, Some, None}
use Rattle.std.specs.List.{list_all, slice_split}
use Rattle.std.specs.Str.{all_ascii_digits, bytes_eq}
use Rattle.std.specs.Char.{is_ascii_digit}
use Rattle.std.specs.Str.Parse.{digits_value}
use Rattle.std.specs.Result.{result_ok}
use Rattle.vk_residue.specs.Residue.{modulus}
use Rattle.vk_residue.specs.Steps.{◌>>?◌}
use Rattle.hex.specs.Hex.{IsBytes, encode_lower, decode_sized}

-- the fields of a line: its pieces between single spaces, of which some may be empty
abbrev pub fields_of : List ℕ → List (List ℕ)
fields_of text = slice_split (λ byte. byte == 32) text

-- whether a text is not empty and has no zero before another character
abbrev pub starts_canonical : List ℕ → Bool
starts_canonical text = length text == 1
    || (nat_lt 1 (length text) && not (slice_index text 0 == 48))

-- whether a text is one or more decimal digits, with no zero before another digit
abbrev pub is_canonical : List ℕ → Bool
is_canonical text = starts_canonical text && all_ascii_digits text

-- the number whose canonical decimal a text is, if it is at most `most`
unfoldable pub decimal_of : ℕ → List ℕ → Option ℕ
decimal_of most text = if is_canonical text && nat_le (digits_value 10 text) most
    then Some (digits_value 10 text) else None

-- the residue whose canonical decimal a text is
abbrev pub residue_of : List ℕ → Option ℕ
residue_of text = decimal_of (modulus - 1) text

-- a decimal is read exactly from its text: the canonical decimals of the numbers up to `most`, and
-- no other text
abbrev pub ReadsDecimal : ℕ → List ℕ → Option ℕ → Type 0
ReadsDecimal most text result = (n : ℕ) → (result ≡ Some n) ↔ ((n ≤ most) × (text ≡ decimal n))

-- the number whose digits are those of `number` and then this one, if it is one and the number is
-- at most `most`
abbrev pub next_number : ℕ → ℕ → ℕ → Option ℕ
next_number most number digit = if is_ascii_digit digit && nat_le (10 * number + (digit - 48)) most
    then Some (10 * number + (digit - 48)) else None

-- bytes as text: two lower-case hexadecimal digits a byte, the high four bits first
abbrev pub hex_text : List ℕ → List ℕ
hex_text bytes = encode_lower bytes

-- whether a byte is one of the characters `0` to `9` and `a` to `f`
abbrev pub is_lower_digit : ℕ → Bool
is_lower_digit byte = (nat_le 48 byte && nat_le byte 57) || (nat_le 97 byte && nat_le byte 102)

-- the value of such a digit, and 255 for any other byte
abbrev pub digit_value : ℕ → ℕ
digit_value byte = if nat_le 48 byte && nat_le byte 57 then byte - 48
    else if nat_le 97 byte && nat_le byte 102 then byte - 87 else 255

-- a text is lower-case digits, and these are their values
abbrev pub AreDigits : List ℕ → List ℕ → Type 0
AreDigits text values = (length text ≡ length values)
    × ((k : ℕ) → k < length text
    → (slice_index values k ≡ digit_value (slice_index text k)) × (slice_index values k ≤ 15))

-- the `count` bytes whose text in lower-case hexadecimal a text is
unfoldable pub hex_of : ℕ → List ℕ → Option (List ℕ)
hex_of count text = if list_all is_lower_digit text then result_ok (decode_sized text count)
    else None

-- bytes are read exactly from their text: that of `count` bytes in lower case, and no other text
abbrev pub ReadsHex : ℕ → List ℕ → Option (List ℕ) → Type 0
ReadsHex count text result = (bytes : List ℕ) → (result ≡ Some bytes)
    ↔ ((length bytes ≡ count) × IsBytes bytes × (text ≡ hex_text bytes))

-- ---- lines of fields

-- whether a text is this word
abbrev pub word_of : List ℕ → List ℕ → Option Unit
word_of word text = if bytes_eq text word then Some tt else None

-- a value that meets a test
abbrev pub meets : {X : Type 0} → (X → Bool) → X → Option X
meets test x = if test x then Some x else None

-- a field, and those of the text behind it, where there is one
abbrev pub with_fields : List ℕ → Option (List ℕ) → List (List ℕ)
with_fields field None = field ∷ []
with_fields field (Some text) = field ∷ fields_of text

-- the fields behind the first, where that is this word and there are more
abbrev pub behind_word : List ℕ → List (List ℕ) → Option (List (List ℕ))
behind_word word (tag ∷ field ∷ more) = word_of word tag >>? λ _. Some (field ∷ more)
behind_word word fields = None

-- the fields where there is one, where there are two, and so on
abbrev pub one_of : List (List ℕ) → Option (List ℕ)
one_of (a ∷ []) = Some a
one_of fields = None

abbrev pub two_of : List (List ℕ) → Option (List ℕ × List ℕ)
two_of (a ∷ rest) = one_of rest >>? λ b. Some (a, b)
two_of [] = None

abbrev pub three_of : List (List ℕ) → Option (List ℕ × List ℕ × List ℕ)
three_of (a ∷ rest) = two_of rest >>? λ fields. Some (a, fields.0, fields.1)
three_of [] = None

abbrev pub four_of : List (List ℕ) → Option (List ℕ × List ℕ × List ℕ × List ℕ)
four_of (a ∷ rest) = three_of rest >>? λ fields. Some (a, fields.0, fields.1, fields.2)
four_of [] = None

-- the first field, read by itself, and the fields behind it, where there are any
abbrev pub first_by : {A : Type 0} → (List ℕ → Option A) → List (List ℕ)
    → Option (A × List (List ℕ))
first_by parse (field ∷ next ∷ more) = parse field >>? λ a. Some (a, next ∷ more)
first_by parse fields = None

-- the field where there is one, read by itself
abbrev pub alone_by : {A : Type 0} → (List ℕ → Option A) → List (List ℕ) → Option A
alone_by parse fields = one_of fields >>? parse

-- a line of a word and one field, a word and two, and so on, each field read by itself
abbrev pub one_by : {X : Type 0} → List ℕ → (List ℕ → Option X) → List (List ℕ) → Option X
one_by word parse fields = behind_word word fields >>? one_of >>? parse

abbrev pub one_field : {X : Type 0} → List ℕ → (List ℕ → Option X) → List ℕ → Option X
one_field word parse text = one_by word parse (fields_of text)

abbrev pub two_by : {A B X : Type 0} → List ℕ → (List ℕ → Option A) → (List ℕ → Option B)
    → (A → B → X) → List (List ℕ) → Option X
two_by word first second make fields =
    behind_word word fields >>? two_of >>? λ fields.
    first fields.0 >>? λ a.
    second fields.1 >>? λ b.
    Some (make a b)

abbrev pub two_fields : {A B X : Type 0} → List ℕ → (List ℕ → Option A) → (List ℕ → Option B)
    → (A → B → X) → List ℕ → Option X
two_fields word first second make text = two_by word first second make (fields_of text)

abbrev pub three_by : {A B C X : Type 0} → List ℕ → (List ℕ → Option A) → (List ℕ → Option B)
    → (List ℕ → Option C) → (A → B → C → X) → List (List ℕ) → Option X
three_by word first second third make fields =
    behind_word word fields >>? three_of >>? λ fields.
    first fields.0 >>? λ a.
    second fields.1 >>? λ b.
    third fields.2 >>? λ c.
    Some (make a b c)

abbrev pub three_fields : {A B C X : Type 0} → List ℕ → (List ℕ → Option A) → (List ℕ → Option B)
    → (List ℕ → Option C) → (A → B → C → X) → List ℕ → Option X
three_fields word first second third make text =
    three_by word first second third make (fields_of text)

abbrev pub four_by : {A B C D X : Type 0} → List ℕ → (List ℕ → Option A) → (List ℕ → Option B)
    → (List ℕ → Option C) → (List ℕ → Option D) → (A → B → C → D → X) → List (List ℕ) → Option X
four_by word first second third fourth make fields =
    behind_word word fields >>? four_of >>? λ fields.
    first fields.0 >>? λ a.
    second fields.1 >>? λ b.
    third fields.2 >>? λ c.
    fourth fields.3 >>? λ d.
    Some (make a b c d)

abbrev pub four_fields : {A B C D X : Type 0} → List ℕ → (List ℕ → Option A) → (List ℕ → Option B)
    → (List ℕ → Option C) → (List ℕ → Option D) → (A → B → C → D → X) → List ℕ → Option X
four_fields word first second third fourth make text =
    four_by word first second third fourth make (fields_of text)

-- ---- the lines that several forms have

-- a line of a word and a number from `least` to `most`
abbrev pub number_token : ℕ → ℕ → List ℕ → Option ℕ
number_token least most text = decimal_of most text >>? meets (λ number. nat_le least number)

abbrev pub number_line : List ℕ → ℕ → ℕ → List ℕ → Option ℕ
number_line word least most text = one_field word (number_token least most) text

-- a line of a word and an id of 16 bytes
abbrev pub id_line : List ℕ → List ℕ → Option (List ℕ)
id_line word text = one_field word (hex_of 16) text

-- two digests
abbrev pub HasDigests : List ℕ → List ℕ → Type 0
HasDigests first second = ((length first ≡ 32) × IsBytes first)
    × ((length second ≡ 32) × IsBytes second)

-- a line of a word and two digests of 32 bytes, as what they make
abbrev pub digests_line : {X : Type 0} → (List ℕ → List ℕ → X) → List ℕ → List ℕ → Option X
digests_line make word text = two_fields word (hex_of 32) (hex_of 32) make text
