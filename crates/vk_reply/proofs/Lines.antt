-- The lines of a challenge and a reply are read from their texts alone.
use Rattle.std.proofs.Common.{◌≡◌, ℕ, ◌-◌, ◌≤◌, ◌==◌, ◌&&◌, nat_le, nat_lt, Bool, true, false, if◌then◌else◌, List, [], ◌∷◌, length, map, codes, decimal, Option, Some, None, option_map, ◌⊎◌, inl, inr, refl, ap, sym, ◌∙◌, arith, subst}
use Rattle.std.proofs.lemmas.List.{length-map}
use Rattle.std.proofs.lemmas.Option.{cond_some, same_Some}
use Rattle.std.specs.List.{list_all}
use Rattle.std.specs.Str.{bytes_eq}
use Rattle.std.proofs.lemmas.Bool.{and_parts, cases_Bool, le-leb, leb-true, eqb-true}
use Rattle.std.proofs.lemmas.Bool.Decides.{nat_tests}
use Rattle.std.proofs.lemmas.Slice.Eq.{bytes_eq-Decides}
use Rattle.hex.specs.Hex.{IsBytes}
use Rattle.vk_commit.specs.declared.place.Opening.{Opening}
use Rattle.vk_commit.specs.Values.{IsOpening}
use Rattle.vk_lines.specs.Forms.{IsLine, IsToken, is_plain, is_word, spaced}
use Rattle.vk_lines.specs.Tokens.{hex_text, hex_of, two_fields, three_fields, four_fields}
use Rattle.vk_lines.proofs.Words.{decimal_token, hex_token, one_line, two_line, three_line, four_line}
use Rattle.vk_plan.specs.declared.wire.WireKind.{WireKind}
use Rattle.vk_plan.specs.declared.wire.WireKind.TheVariants.{Split, Pair}
use Rattle.vk_residue.specs.Residue.{modulus}
use Rattle.vk_wire.specs.declared.wire.Shown.{Shown}
use Rattle.vk_wire.specs.declared.wire.Shown.TheVariants.{Half, Whole, Spent}
use Rattle.vk_reply.specs.Values.{IsShown}
use Rattle.vk_reply.specs.Texts.{bit_character, bits_text, shown_text}
use Rattle.vk_reply.specs.Tokens.{is_bit, are_bits, bits_of, bits_line, entry_of, opening_by}
use Rattle.vk_lines.specs.Tokens.{residue_of}
use Rattle.vk_reply.specs.Reading.{openings_by, whole_by, entry_by, spent_by, half_line, whole_line, spent_line, shown_line}

-- ---- bits

bit_back : (bit : Bool) → (bit_character bit == 49) ≡ bit
bit_back true = refl
bit_back false = refl

bits_back : (bits : List Bool) → map (λ character. character == 49) (bits_text bits) ≡ bits
bits_back [] = refl
bits_back (bit ∷ bits) = rw (bit_back bit, bits_back bits) refl

bit_is : (bit : Bool) → is_bit (bit_character bit) ≡ true
bit_is true = refl
bit_is false = refl

bits_are : (bits : List Bool) → list_all is_bit (bits_text bits) ≡ true
bits_are [] = refl
bits_are (bit ∷ bits) = rw (bit_is bit, bits_are bits) refl

bit_word : (bit : Bool) → nat_lt 32 (bit_character bit) ≡ true
bit_word true = refl
bit_word false = refl

bits_word : (bits : List Bool) → is_word (bits_text bits) ≡ true
bits_word [] = refl
bits_word (bit ∷ bits) = rw (bit_word bit, bits_word bits) refl

character_back : (character : ℕ) → is_bit character ≡ true
    → bit_character (character == 49) ≡ character
character_back character is =
    elim (cases_Bool (character == 49)) [
      | inl one ↦ rw one (sym (eqb-true character 49 one))
      | inr other ↦ let zero : (character == 48) ≡ true = grind (arith, nat_tests) in
          rw other (sym (eqb-true character 48 zero))
    ]

text_back : (text : List ℕ) → list_all is_bit text ≡ true
    → bits_text (map (λ character. character == 49) text) ≡ text
text_back [] all = refl
text_back (character ∷ text) all =
    let parts = and_parts (is_bit character) (list_all is_bit text) all in
    rw (character_back character parts.0, text_back text parts.1) refl

are_bits_is : (bits : List Bool) → 1 ≤ length bits → length bits ≤ 64
    → are_bits (bits_text bits) ≡ true
are_bits_is bits some few =
    rw (
      length-map bits bit_character,
      le-leb 1 (length bits) some,
      le-leb (length bits) 64 few,
      bits_are bits,
    ) refl

pub bits_token : IsToken 64 (λ bits. (1 ≤ length bits) × (length bits ≤ 64)) bits_text bits_of
bits_token = record {
  found = λ bits is. rw (are_bits_is bits is.0 is.1) (ap Some (bits_back bits));
  shown = λ word bits some.
      let read = cond_some (are_bits word) (map (λ character. character == 49) word) bits some in
      let tests = and_parts (nat_le 1 (length word))
      (nat_le (length word) 64 && list_all is_bit word) read.0 in
      let more = and_parts (nat_le (length word) 64) (list_all is_bit word) tests.1 in
      let long : length word ≡ length bits = sym (length-map word (λ character. character == 49))
      ∙ ap length read.1 in
      let least = leb-true 1 (length word) tests.0 in
      let most = leb-true (length word) 64 more.0 in
      ((omega arith, omega arith), sym (text_back word more.1) ∙ ap bits_text read.1);
  word = λ bits is. bits_word bits;
  short = λ bits is. let long = length-map bits bit_character in omega arith;
}

pub bits_line_is : IsLine (λ bits. (1 ≤ length bits) × (length bits ≤ 64))
    (λ bits. spaced (codes "bits" ∷ bits_text bits ∷ [])) bits_line
bits_line_is = one_line (codes "bits") refl bits_token (omega arith)

-- ---- the entry of a pair

entry_by_tests : (zero one x : Bool)
    → ◌≡◌ {A = Option Bool} (if zero then Some false else (if one then Some true else None))
    (Some x) → ((zero ≡ true) × (false ≡ x)) ⊎ ((one ≡ true) × (true ≡ x))
entry_by_tests true one x some = inl (refl, same_Some false x some)
entry_by_tests false true x some = inr (refl, same_Some true x some)
entry_by_tests false false x some = cc

entry_found : (second : Bool) → entry_of (bit_character second ∷ []) ≡ Some second
entry_found true = refl
entry_found false = refl

entry_shown : (word : List ℕ) (second : Bool) → entry_of word ≡ Some second
    → word ≡ bit_character second ∷ []
entry_shown word second some =
    elim (entry_by_tests (bytes_eq word (codes "0")) (bytes_eq word (codes "1")) second some) [
      | inl first ↦ (bytes_eq-Decides word (codes "0")).0 first.0
          ∙ ap (λ s. bit_character s ∷ []) first.1
      | inr other ↦ (bytes_eq-Decides word (codes "1")).0 other.0
          ∙ ap (λ s. bit_character s ∷ []) other.1
    ]

entry_word : (second : Bool) → is_word (bit_character second ∷ []) ≡ true
entry_word true = refl
entry_word false = refl

entry_token : IsToken 1 (λ _. Unit {0}) (λ second. bit_character second ∷ []) entry_of
entry_token = record {
  found = λ second _. entry_found second;
  shown = λ word second some. (tt, entry_shown word second some);
  word = λ second _. entry_word second;
  short = λ second _. omega arith;
}

-- ---- a line whose value is made of another

map_some : {X Y : Type 0} (make : X → Y) (o : Option X) (y : Y) → option_map make o ≡ Some y
    → (x : X) × (o ≡ Some x) × (make x ≡ y)
map_some make (Some x) y some = (x, refl, same_Some (make x) y some)
map_some make None y some = cc

made_line : {X Y : Type 0} {IsX : X → Type 0} {text : X → List ℕ} {parse : List ℕ → Option X}
    → IsLine IsX text parse
    → (make : X → Y) (IsY : Y → Type 0) (words : Y → List ℕ)
    → ((x : X) → IsX x → IsY (make x)) → ((y : Y) → IsY y → (x : X) × IsX x × (make x ≡ y))
    → ((x : X) → words (make x) ≡ text x)
    → IsLine IsY words (λ line. option_map make (parse line))
made_line {X} {Y} {text = text} {parse = parse} form make IsY words to from same = record {
  found = λ y is.
      let of = from y is in
      ap (λ t. option_map make (parse t)) (ap words (sym of.2) ∙ same of.0)
      ∙ ap (option_map make) (form.found of.0 of.1) ∙ ap Some of.2;
  shown = λ line y some.
      let read = map_some make (parse line) y some in
      let is = form.shown line read.0 read.1 in
      (subst IsY read.2 (to read.0 is.0), is.1 ∙ sym (same read.0) ∙ ap words read.2);
  plain = λ y is.
      let of = from y is in
      ap is_plain (ap words (sym of.2) ∙ same of.0) ∙ form.plain of.0 of.1;
  short = λ y is.
      let of = from y is in
      let long : length (words y) ≡ length (text of.0) = ap length (ap words (sym of.2) ∙ same of.0)
      in
      let few = form.short of.0 of.1 in
      omega arith;
}

-- ---- openings

abbrev KeyFacts : List ℕ → Type 0
KeyFacts key = (length key ≡ 32) × IsBytes key

abbrev ValueFacts : ℕ → Type 0
ValueFacts value = value ≤ modulus - 1

to_opening : (opening : Opening) → KeyFacts opening.key → ValueFacts opening.value
    → IsOpening opening
to_opening opening key value = record { key = key; value = omega arith }

value_facts : (opening : Opening) → IsOpening opening → ValueFacts opening.value
value_facts opening is = let small = is.value in omega arith

value_token : IsToken 20 ValueFacts decimal residue_of
value_token = decimal_token (modulus - 1) (omega arith)

-- ---- the line of a half

half_opening : IsLine (λ opening. KeyFacts opening.key × ValueFacts opening.value)
    (λ opening. spaced (codes "h" ∷ hex_text opening.key ∷ decimal opening.value ∷ []))
    (two_fields (codes "h") (hex_of 32) residue_of opening_by)
half_opening =
    two_line (codes "h") refl (hex_token 32) value_token (omega arith) opening_by
    (λ opening. opening.key) (λ opening. opening.value)
    (λ x. refl) (λ a b. refl) (λ a b. refl)

from_half : (bit : Bool) (shown : Shown) → IsShown Split bit shown → (opening : Opening)
    × (KeyFacts opening.key × ValueFacts opening.value) × (Half opening ≡ shown)
from_half bit (Half opening) is =
    (opening, (is.openings.key, value_facts opening is.openings), refl)
from_half bit (Whole first second) is = cc is.form
from_half bit (Spent second opening) is = cc is.form

half_line_is : (bit : Bool) → IsLine (IsShown Split bit) shown_text half_line
half_line_is bit =
    made_line half_opening Half (IsShown Split bit) shown_text
    (λ opening is. record { form = refl; openings = to_opening opening is.0 is.1 }) (from_half bit)
    (λ opening. refl)

-- ---- the line of both entries

whole_openings : IsLine (λ both. KeyFacts both.0.key × ValueFacts both.0.value × KeyFacts both.1.key
    × ValueFacts both.1.value)
    (λ both. spaced (codes "a" ∷ hex_text both.0.key ∷ decimal both.0.value ∷ hex_text both.1.key
    ∷ decimal both.1.value ∷ []))
    (four_fields (codes "a") (hex_of 32) residue_of (hex_of 32) residue_of openings_by)
whole_openings =
    four_line (codes "a") refl (hex_token 32) value_token (hex_token 32) value_token (omega arith)
    openings_by
    (λ both. both.0.key) (λ both. both.0.value) (λ both. both.1.key) (λ both. both.1.value)
    (λ x. refl) (λ a b c d. refl) (λ a b c d. refl) (λ a b c d. refl) (λ a b c d. refl)

from_whole : (weight : ℕ) (shown : Shown) → IsShown (Pair weight) false shown
    → (both : Opening × Opening)
    × (KeyFacts both.0.key × ValueFacts both.0.value × KeyFacts both.1.key
    × ValueFacts both.1.value) × (whole_by both ≡ shown)
from_whole weight (Whole first second) is = (
  (first, second),
  (
    is.openings.0.key,
    value_facts first is.openings.0,
    is.openings.1.key,
    value_facts second is.openings.1,
  ),
  refl,
)
from_whole weight (Half opening) is = cc is.form
from_whole weight (Spent second opening) is = cc is.form

whole_line_is : (weight : ℕ) → IsLine (IsShown (Pair weight) false) shown_text whole_line
whole_line_is weight =
    made_line whole_openings whole_by (IsShown (Pair weight) false) shown_text
    (λ both is. record {
      form = refl;
      openings = (to_opening both.0 is.0 is.1, to_opening both.1 is.2 is.3);
    }) (from_whole weight)
    (λ both. refl)

-- ---- the line of one entry

spent_entry : IsLine (λ entry. Unit {0} × KeyFacts entry.1.key × ValueFacts entry.1.value)
    (λ entry. spaced (codes "s" ∷ (bit_character entry.0 ∷ []) ∷ hex_text entry.1.key
    ∷ decimal entry.1.value ∷ []))
    (three_fields (codes "s") entry_of (hex_of 32) residue_of entry_by)
spent_entry =
    three_line (codes "s") refl entry_token (hex_token 32) value_token (omega arith) entry_by
    (λ entry. entry.0) (λ entry. entry.1.key) (λ entry. entry.1.value) (λ x. refl) (λ a b c. refl)
    (λ a b c. refl) (λ a b c. refl)

from_spent : (weight : ℕ) (shown : Shown) → IsShown (Pair weight) true shown
    → (entry : Bool × Opening) × (Unit {0} × KeyFacts entry.1.key × ValueFacts entry.1.value)
    × (spent_by entry ≡ shown)
from_spent weight (Spent second opening) is =
    ((second, opening), (tt, is.openings.key, value_facts opening is.openings), refl)
from_spent weight (Half opening) is = cc is.form
from_spent weight (Whole first second) is = cc is.form

spent_line_is : (weight : ℕ) → IsLine (IsShown (Pair weight) true) shown_text spent_line
spent_line_is weight =
    made_line spent_entry spent_by (IsShown (Pair weight) true) shown_text
    (λ entry is. record { form = refl; openings = to_opening entry.1 is.1 is.2 })
    (from_spent weight) (λ entry. refl)

pub shown_line_is : (kind : WireKind) (bit : Bool)
    → IsLine (IsShown kind bit) shown_text (shown_line kind bit)
shown_line_is Split bit = half_line_is bit
shown_line_is (Pair weight) false = whole_line_is weight
shown_line_is (Pair weight) true = spent_line_is weight
