-- Words, and lines of words between single spaces.
use Rattle.std.proofs.Common.{nat_le, get_or, ◌≡◌, ℕ, ◌+◌, ◌-◌, ◌*◌, ◌^◌, ◌<◌, ◌≤◌, ◌==◌, nat_lt, Bool, true, false, List, [], ◌∷◌, ◌++◌, length, take, drop, decimal, Option, Some, None, refl, ap, sym, ◌∙◌, arith, length-append, inl, inr}
use Rattle.std.specs.List.{list_all, join_with_byte, position, position_or_len, slice_split}
use Rattle.std.specs.Str.{bytes_eq, all_ascii_digits}
use Rattle.std.proofs.lemmas.Bool.{and_parts, cases_Bool, false_from_ne_true, le-leb, leb-true, ltb-true}
use Rattle.std.proofs.lemmas.Bool.Decides.{nat_tests}
use Rattle.std.proofs.lemmas.Fmt.{digits_decimal, length-decimal-le}
use Rattle.std.proofs.lemmas.List.Folds.{list_all-append}
use Rattle.std.proofs.lemmas.List.{take_all, length-drop}
use Rattle.std.proofs.lemmas.List.Splits.{join_with_byte-slice_split, slice_split_first}
use Rattle.std.proofs.lemmas.List.Sums.{position_or_len_is}
use Rattle.std.proofs.lemmas.Slice.Eq.{bytes_eq-Decides}
use Rattle.hex.specs.Hex.{IsBytes}
use Rattle.memchr.specs.Find.{IsFirstByte, is_byte}
use Rattle.vk_residue.specs.Steps.{◌>>?◌}
use Rattle.vk_lines.specs.Tokens.{number_line, id_line, digests_line, HasDigests, decimal_of, fields_of, hex_of, hex_text, is_lower_digit, meets, behind_word, one_of, two_of, three_of, four_of, one_by, one_field, two_by, two_fields, three_by, three_fields, four_by, four_fields, word_of}
use Rattle.vk_lines.specs.Forms.{IsLine, IsToken, digests_text, is_plain, is_word, spaced}
use Rattle.vk_lines.proofs.Decimals.{own, decimal_of-some, decimal_of-decimal}
use Rattle.vk_lines.proofs.Hexadecimal.{if_some, hex_text-lower, hex_of-some, hex_of-hex_text, length-hex_text}

-- ---- words

-- a test that implies another, at each character
all_weaker : (p q : ℕ → Bool) → ((b : ℕ) → p b ≡ true → q b ≡ true) → (text : List ℕ)
    → list_all p text ≡ true → list_all q text ≡ true
all_weaker p q more [] all = refl
all_weaker p q more (b ∷ text) all =
    let parts = and_parts (p b) (list_all p text) all in
    rw (more b parts.0, all_weaker p q more text parts.1) refl

pub plain_word : (text : List ℕ) → is_word text ≡ true → is_plain text ≡ true
plain_word text word = all_weaker (λ b. nat_lt 32 b) (λ b. nat_lt 31 b)
    (λ b above. grind (arith, nat_tests)) text word

pub plain_append : (xs ys : List ℕ) → is_plain xs ≡ true → is_plain ys ≡ true
    → is_plain (xs ++ ys) ≡ true
plain_append xs ys px py = list_all-append (λ b. nat_lt 31 b) xs ys ∙ rw (px, py) refl

-- the words of decimals and of hexadecimal
digits_word : (text : List ℕ) → all_ascii_digits text ≡ true → is_word text ≡ true
digits_word [] all = refl
digits_word (c ∷ text) all =
    let rest = digits_word text (grind (arith, nat_tests)) in
    grind (arith, nat_tests)

pub decimal_word : (n : ℕ) → n < 2 ^ 64 → is_word (decimal n) ≡ true
decimal_word n fits = digits_word (decimal n) (digits_decimal own n fits)

pub hex_word : (bytes : List ℕ) → IsBytes bytes → is_word (hex_text bytes) ≡ true
hex_word bytes fit = all_weaker is_lower_digit (λ b. nat_lt 32 b)
    (λ b digit. grind (arith, nat_tests)) (hex_text bytes) (hex_text-lower bytes fit)

-- ---- the fields of words

-- what a search for the first space finds
pub space_found : (text : List ℕ) (found : Option ℕ) → IsFirstByte (is_byte 32) text found
    → found ≡ position (λ byte. byte == 32) text
space_found text (Some at) first =
    let within : at < length text = first.0.high in
    let place = position_or_len_is (λ byte. byte == 32) text at 0 (omega arith)
    (λ k less. false_from_ne_true (get_or text k 0 == 32) (first.0.before k (omega arith) less))
    (λ inside. first.1) in
    grind (arith, nat_tests)
space_found text None nowhere =
    let place = position_or_len_is (λ byte. byte == 32) text (length text) 0 (omega arith)
    (λ k less. false_from_ne_true (get_or text k 0 == 32) (nowhere k (omega arith) less))
    (λ past. absurd (omega arith)) in
    grind (arith, nat_tests)

pub fields_of-word : (text : List ℕ) → is_word text ≡ true → fields_of text ≡ text ∷ []
fields_of-word [] word = refl
fields_of-word (b ∷ text) word =
    let parts = and_parts (nat_lt 32 b) (is_word text) word in
    let other : (b == 32) ≡ false = grind (arith, nat_tests) in
    let rest = fields_of-word text parts.1 in
    rw (other, rest) refl

pub fields_of-more : (text more : List ℕ) → is_word text ≡ true
    → fields_of (text ++ 32 ∷ more) ≡ text ∷ fields_of more
fields_of-more [] more word = refl
fields_of-more (b ∷ text) more word =
    let parts = and_parts (nat_lt 32 b) (is_word text) word in
    let other : (b == 32) ≡ false = grind (arith, nat_tests) in
    let rest = fields_of-more text more parts.1 in
    rw (other, rest) refl

-- the fields of words between single spaces are these words
abbrev pub all_words : List (List ℕ) → Bool
all_words words = list_all is_word words

pub fields_of-join : (first : List ℕ) (words : List (List ℕ)) → all_words (first ∷ words) ≡ true
    → fields_of (join_with_byte 32 (first ∷ words)) ≡ first ∷ words
fields_of-join first [] all = fields_of-word first (and_parts (is_word first) true all).0
fields_of-join first (second ∷ words) all =
    let parts = and_parts (is_word first) (all_words (second ∷ words)) all in
    fields_of-more first (join_with_byte 32 (second ∷ words)) parts.0
    ∙ ap (λ rest. first ∷ rest) (fields_of-join second words parts.1)

-- a text is its fields between single spaces
pub join-fields_of : (text : List ℕ) → join_with_byte 32 (fields_of text) ≡ text
join-fields_of text = join_with_byte-slice_split 32 text

pub plain_join : (words : List (List ℕ)) → all_words words ≡ true
    → is_plain (join_with_byte 32 words) ≡ true
plain_join [] all = refl
plain_join (first ∷ []) all = plain_word first (and_parts (is_word first) true all).0
plain_join (first ∷ second ∷ words) all =
    let parts = and_parts (is_word first) (all_words (second ∷ words)) all in
    plain_append first (32 ∷ join_with_byte 32 (second ∷ words)) (plain_word first parts.0)
    (plain_join (second ∷ words) parts.1)

-- ---- tokens

pub decimal_token : (most : ℕ) → most < 2 ^ 64
    → IsToken 20 (λ n. n ≤ most) decimal (decimal_of most)
decimal_token most fits = record {
  found = λ n small. decimal_of-decimal most n fits small;
  shown = λ word n some. decimal_of-some most n word fits some;
  word = λ n small. decimal_word n (omega arith);
  short = λ n small. length-decimal-le 20 n (omega arith) (omega arith) (omega arith);
}

pub hex_token : (count : ℕ) → IsToken (2 * count) (λ bytes. (length bytes ≡ count) × IsBytes bytes)
    hex_text (hex_of count)
hex_token count = record {
  found = λ bytes is. hex_of-hex_text count bytes is.0 is.1;
  shown = λ word bytes some. let is = hex_of-some count word bytes some in ((is.0, is.1), is.2);
  word = λ bytes is. hex_word bytes is.1;
  short = λ bytes is. omega (arith, length-hex_text bytes, is.0);
}

-- what a step shows where the steps together gave a value
pub bind_some : {A B : Type 0} (o : Option A) (f : A → Option B) (y : B) → (o >>? f) ≡ Some y
    → (x : A) × (o ≡ Some x) × (f x ≡ Some y)
bind_some (Some x) f y h = (x, refl, h)
bind_some None f y h = cc

some_same : {X : Type 0} (x y : X) → Some x ≡ Some y → x ≡ y
some_same x y same = cc

-- a token whose value meets a test
pub meeting_token : {X : Type 0} {most : ℕ} {IsValue : X → Type 0} {text : X → List ℕ}
    {parse : List ℕ → Option X}
    → (test : X → Bool) → IsToken most IsValue text parse
    → IsToken most (λ x. IsValue x × (test x ≡ true)) text (λ word. parse word >>? meets test)
meeting_token {parse = parse} test token = record {
  found = λ x is. ap (λ o. o >>? meets test) (token.found x is.0) ∙ rw is.1 refl;
  shown = λ word x some.
      let step = bind_some (parse word) (meets test) x some in
      let met = if_some (test step.0) (Some step.0) x step.2 in
      let same = some_same step.0 x met.1 in
      let read = token.shown word x (step.1 ∙ met.1) in
      ((read.0, ap test (sym same) ∙ met.0), read.1);
  word = λ x is. token.word x is.0;
  short = λ x is. token.short x is.0;
}

-- ---- lines of a word and fields

same_word : (word : List ℕ) → bytes_eq word word ≡ true
same_word word = (bytes_eq-Decides word word).1 refl

word_found : (word : List ℕ) → word_of word word ≡ Some tt
word_found word = rw (same_word word) refl

pub word_shown : (word text : List ℕ) → word_of word text ≡ Some tt → text ≡ word
word_shown word text some = (bytes_eq-Decides text word).0
    (if_some (bytes_eq text word) (Some tt) tt some).0

-- a line that is one word or more, always the same
pub fixed_line : (text : List ℕ) → is_plain text ≡ true → length text ≤ 255
    → IsLine {X = Unit {0}} (λ _. Unit {0}) (λ _. text) (word_of text)
fixed_line text plain short = record {
  found = λ x is. word_found text;
  shown = λ line x some. (tt, word_shown text line some);
  plain = λ x is. plain;
  short = λ x is. short;
}

-- ---- fields one after another

-- there is always a piece
pub split_some : (mark : ℕ) (text : List ℕ) → (first : List ℕ) × (rest : List (List ℕ))
    × (slice_split (λ byte. byte == mark) text ≡ first ∷ rest)
split_some mark [] = ([], [], refl)
split_some mark (b ∷ text) =
    elim (cases_Bool (b == mark)) [
      | inl cut ↦ ([], slice_split (λ byte. byte == mark) text, rw cut refl)
      | inr other ↦
          let rest = split_some mark text in
          (b ∷ rest.0, rest.1, rw (other, rest.2) refl)
    ]

pub behind_word_more : (word tag text : List ℕ)
    → behind_word word (tag ∷ fields_of text) ≡ (word_of word tag >>? λ _. Some (fields_of text))
behind_word_more word tag text = let some = split_some 32 text in rw some.2 refl

pub one_of_more : (field text : List ℕ) → one_of (field ∷ fields_of text) ≡ None
one_of_more field text = let some = split_some 32 text in rw some.2 refl

-- the fields of a text that is cut at its first space, or that has none
pub cut_at : (text : List ℕ) (at : ℕ) → position (λ byte. byte == 32) text ≡ Some at
    → fields_of text ≡ take at text ∷ fields_of (take (length text - (at + 1)) (drop (at + 1) text))
cut_at text at some =
    let found = if_some (nat_lt (position_or_len (λ byte. byte == 32) text) (length text))
    (Some (position_or_len (λ byte. byte == 32) text)) at some in
    let within : position_or_len (λ byte. byte == 32) text < length text = ltb-true _ _ found.0 in
    let same : position_or_len (λ byte. byte == 32) text ≡ at = some_same _ _ found.1 in
    let all : take (length text - (at + 1)) (drop (at + 1) text) ≡ drop (at + 1) text =
    take_all (length text - (at + 1)) (drop (at + 1) text)
    (omega (arith, length-drop (at + 1) text)) in
    let cut = slice_split_first (λ byte. byte == 32) text 0 within in
    rw same at cut ∙ ap (λ rest. take at text ∷ fields_of rest) (sym all)

pub cut_nowhere : (text : List ℕ) → position (λ byte. byte == 32) text ≡ None
    → fields_of text ≡ text ∷ []
cut_nowhere [] none = refl
cut_nowhere (b ∷ text) none =
    elim (cases_Bool (b == 32)) [
      | inl space ↦ absurd (grind (arith, nat_tests))
      | inr other ↦ let rest = cut_nowhere text (grind (arith, nat_tests)) in rw (other, rest) refl
    ]

-- what the fields show
behind_shown : (word : List ℕ) (fields rest : List (List ℕ)) → behind_word word fields ≡ Some rest
    → fields ≡ word ∷ rest
behind_shown word (tag ∷ field ∷ more) rest some =
    let step = bind_some (word_of word tag) (λ _. Some (field ∷ more)) rest some in
    let same : tag ≡ word = word_shown word tag step.1 in
    let left : field ∷ more ≡ rest = some_same (field ∷ more) rest step.2 in
    ap (λ w. w ∷ field ∷ more) same ∙ ap (λ fs. word ∷ fs) left
behind_shown word (tag ∷ []) rest some = cc
behind_shown word [] rest some = cc

one_of_shown : (fields : List (List ℕ)) (f : List ℕ) → one_of fields ≡ Some f → fields ≡ f ∷ []
one_of_shown (a ∷ []) f some = ap (λ x. x ∷ []) (some_same a f some)
one_of_shown (a ∷ b ∷ more) f some = cc
one_of_shown [] f some = cc

two_of_shown : (fields : List (List ℕ)) (p : List ℕ × List ℕ) → two_of fields ≡ Some p
    → fields ≡ p.0 ∷ p.1 ∷ []
two_of_shown (a ∷ rest) p some =
    let step = bind_some (one_of rest) (λ b. Some (a, b)) p some in
    let same : (a, step.0) ≡ p = some_same _ _ step.2 in
    ap (λ fs. a ∷ fs) (one_of_shown rest step.0 step.1) ∙ ap (λ q. q.0 ∷ q.1 ∷ []) same
two_of_shown [] p some = cc

three_of_shown : (fields : List (List ℕ)) (p : List ℕ × List ℕ × List ℕ) → three_of fields ≡ Some p
    → fields ≡ p.0 ∷ p.1 ∷ p.2 ∷ []
three_of_shown (a ∷ rest) p some =
    let step = bind_some (two_of rest) (λ fields. Some (a, fields.0, fields.1)) p some in
    let same : (a, step.0.0, step.0.1) ≡ p = some_same _ _ step.2 in
    ap (λ fs. a ∷ fs) (two_of_shown rest step.0 step.1) ∙ ap (λ q. q.0 ∷ q.1 ∷ q.2 ∷ []) same
three_of_shown [] p some = cc

four_of_shown : (fields : List (List ℕ)) (p : List ℕ × List ℕ × List ℕ × List ℕ)
    → four_of fields ≡ Some p → fields ≡ p.0 ∷ p.1 ∷ p.2 ∷ p.3 ∷ []
four_of_shown (a ∷ rest) p some =
    let step = bind_some (three_of rest) (λ fields. Some (a, fields.0, fields.1, fields.2)) p some
    in
    let same : (a, step.0.0, step.0.1, step.0.2) ≡ p = some_same _ _ step.2 in
    ap (λ fs. a ∷ fs) (three_of_shown rest step.0 step.1)
    ∙ ap (λ q. q.0 ∷ q.1 ∷ q.2 ∷ q.3 ∷ []) same
four_of_shown [] p some = cc

-- the fields behind a word, so many of them
behind_of : {F : Type 0} (word : List ℕ) (fields : List (List ℕ))
    (some_of : List (List ℕ) → Option F) (shows : F → List (List ℕ)) (f : F)
    → ((rest : List (List ℕ)) (g : F) → some_of rest ≡ Some g → rest ≡ shows g)
    → (behind_word word fields >>? some_of) ≡ Some f → fields ≡ word ∷ shows f
behind_of word fields some_of shows f shown some =
    let step = bind_some (behind_word word fields) some_of f some in
    behind_shown word fields step.0 step.1 ∙ ap (λ fs. word ∷ fs) (shown step.0 f step.2)

-- from the fields to the text
pub text_is : (text first : List ℕ) (words : List (List ℕ)) → fields_of text ≡ first ∷ words
    → text ≡ join_with_byte 32 (first ∷ words)
text_is text first words fields = sym (join-fields_of text) ∙ ap (join_with_byte 32) fields

one_found : {X : Type 0} (word : List ℕ) (parse : List ℕ → Option X) (f : List ℕ) (x : X)
    → parse f ≡ Some x → one_by word parse (word ∷ f ∷ []) ≡ Some x
one_found word parse f x some = rw (same_word word) some

one_shown : {X : Type 0} (word : List ℕ) (parse : List ℕ → Option X) (fields : List (List ℕ))
    (x : X) → one_by word parse fields ≡ Some x
    → (f : List ℕ) × (fields ≡ word ∷ f ∷ []) × (parse f ≡ Some x)
one_shown word parse fields x some =
    let read = bind_some (behind_word word fields >>? one_of) parse x some in
    (read.0, behind_of word fields one_of (λ f. f ∷ []) read.0 one_of_shown read.1, read.2)

pub one_line : {X : Type 0} {most : ℕ} {IsValue : X → Type 0} {text : X → List ℕ}
    {parse : List ℕ → Option X}
    → (word : List ℕ) → is_word word ≡ true → IsToken most IsValue text parse
    → length word + 1 + most ≤ 255
    → IsLine IsValue (λ x. spaced (word ∷ text x ∷ [])) (one_field word parse)
one_line {text = text} {parse = parse} word is_a_word token small = record {
  found = λ x is.
      let words : all_words (word ∷ text x ∷ []) ≡ true = rw (is_a_word, token.word x is) refl in
      ap (one_by word parse) (fields_of-join word (text x ∷ []) words)
      ∙ one_found word parse (text x) x (token.found x is);
  shown = λ line x some.
      let read = one_shown word parse (fields_of line) x some in
      let is = token.shown read.0 x read.2 in
      (is.0, text_is line word (read.0 ∷ []) read.1 ∙ ap (λ t. word ++ 32 ∷ t) is.1);
  plain = λ x is. plain_join (word ∷ text x ∷ []) (rw (is_a_word, token.word x is) refl);
  short = λ x is. let few = token.short x is in omega (arith, length-append word (32 ∷ text x));
}

two_found : {A B X : Type 0} (word : List ℕ) (first : List ℕ → Option A)
    (second : List ℕ → Option B) (make : A → B → X) (f g : List ℕ) (v : A) (w : B)
    → first f ≡ Some v → second g ≡ Some w
    → two_by word first second make (word ∷ f ∷ g ∷ []) ≡ Some (make v w)
two_found word first second make f g v w fv gw = rw (same_word word, fv, gw) refl

two_shown : {A B X : Type 0} (word : List ℕ) (first : List ℕ → Option A)
    (second : List ℕ → Option B) (make : A → B → X) (fields : List (List ℕ)) (x : X)
    → two_by word first second make fields ≡ Some x
    → (f g : List ℕ) × (v : A) × (w : B) × (fields ≡ word ∷ f ∷ g ∷ []) × (first f ≡ Some v)
    × (second g ≡ Some w) × (make v w ≡ x)
two_shown word first second make fields x some =
    let read = bind_some (behind_word word fields >>? two_of)
    (λ fields. first fields.0 >>? λ a. second fields.1 >>? λ b. Some (make a b)) x some in
    let v = bind_some (first read.0.0) (λ a. second read.0.1 >>? λ b. Some (make a b)) x read.2 in
    let w = bind_some (second read.0.1) (λ b. Some (make v.0 b)) x v.2 in (
      read.0.0,
      read.0.1,
      v.0,
      w.0,
      behind_of word fields two_of (λ f. f.0 ∷ f.1 ∷ []) read.0 two_of_shown read.1,
      v.1,
      w.1,
      some_same (make v.0 w.0) x w.2,
    )

-- a line of a word and two fields, of which a value is made and which it shows
pub two_line : {A B X : Type 0} {m n : ℕ} {IsA : A → Type 0} {IsB : B → Type 0}
    {text_a : A → List ℕ} {text_b : B → List ℕ} {parse_a : List ℕ → Option A}
    {parse_b : List ℕ → Option B}
    → (word : List ℕ) → is_word word ≡ true → IsToken m IsA text_a parse_a
    → IsToken n IsB text_b parse_b → length word + 2 + m + n ≤ 255
    → (make : A → B → X) (a : X → A) (b : X → B)
    → ((x : X) → make (a x) (b x) ≡ x) → ((v : A) (w : B) → a (make v w) ≡ v)
    → ((v : A) (w : B) → b (make v w) ≡ w)
    → IsLine (λ x. IsA (a x) × IsB (b x)) (λ x. spaced (word ∷ text_a (a x) ∷ text_b (b x) ∷ []))
    (two_fields word parse_a parse_b make)
two_line {X = X} {IsA = IsA} {IsB = IsB} {text_a = text_a} {text_b = text_b} {parse_a = parse_a}
    {parse_b = parse_b} word is_a_word ta tb small make a b eta is_a is_b =
    let words : (x : X) → IsA (a x) × IsB (b x)
    → all_words (word ∷ text_a (a x) ∷ text_b (b x) ∷ []) ≡ true =
    λ x is. rw (is_a_word, ta.word (a x) is.0, tb.word (b x) is.1) refl in
    record {
      found = λ x is.
          ap (two_by word parse_a parse_b make)
          (fields_of-join word (text_a (a x) ∷ text_b (b x) ∷ []) (words x is))
          ∙ two_found word parse_a parse_b make (text_a (a x)) (text_b (b x)) (a x) (b x)
          (ta.found (a x) is.0) (tb.found (b x) is.1) ∙ ap Some (eta x);
      shown = λ line x some.
          let read = two_shown word parse_a parse_b make (fields_of line) x some in
          let va : read.2 ≡ a x = sym (is_a read.2 read.3) ∙ ap a read.7 in
          let vb : read.3 ≡ b x = sym (is_b read.2 read.3) ∙ ap b read.7 in
          let ia = ta.shown read.0 (a x) (read.5 ∙ ap Some va) in
          let ib = tb.shown read.1 (b x) (read.6 ∙ ap Some vb) in
          ((ia.0, ib.0), text_is line word (read.0 ∷ read.1 ∷ []) read.4 ∙ rw (ia.1, ib.1) refl);
      plain = λ x is. plain_join (word ∷ text_a (a x) ∷ text_b (b x) ∷ []) (words x is);
      short = λ x is.
          let la = ta.short (a x) is.0 in
          let lb = tb.short (b x) is.1 in
          omega (
            arith,
            length-append word (32 ∷ text_a (a x) ++ (32 ∷ text_b (b x))),
            length-append (text_a (a x)) (32 ∷ text_b (b x)),
          );
    }

three_found : {A B C X : Type 0} (word : List ℕ) (first : List ℕ → Option A)
    (second : List ℕ → Option B) (third : List ℕ → Option C) (make : A → B → C → X) (f g h : List ℕ)
    (v : A) (w : B) (y : C)
    → first f ≡ Some v → second g ≡ Some w → third h ≡ Some y
    → three_by word first second third make (word ∷ f ∷ g ∷ h ∷ []) ≡ Some (make v w y)
three_found word first second third make f g h v w y fv gw hy = rw (same_word word, fv, gw, hy) refl

three_shown : {A B C X : Type 0} (word : List ℕ) (first : List ℕ → Option A)
    (second : List ℕ → Option B) (third : List ℕ → Option C) (make : A → B → C → X)
    (fields : List (List ℕ)) (x : X)
    → three_by word first second third make fields ≡ Some x
    → (f g h : List ℕ) × (v : A) × (w : B) × (y : C) × (fields ≡ word ∷ f ∷ g ∷ h ∷ [])
    × (first f ≡ Some v) × (second g ≡ Some w) × (third h ≡ Some y) × (make v w y ≡ x)
three_shown word first second third make fields x some =
    let read = bind_some (behind_word word fields >>? three_of)
    (λ fields. first fields.0 >>? λ a. second fields.1 >>? λ b. third fields.2 >>? λ c.
    Some (make a b c)) x some in
    let v = bind_some (first read.0.0)
    (λ a. second read.0.1 >>? λ b. third read.0.2 >>? λ c. Some (make a b c)) x read.2 in
    let w = bind_some (second read.0.1) (λ b. third read.0.2 >>? λ c. Some (make v.0 b c)) x v.2 in
    let y = bind_some (third read.0.2) (λ c. Some (make v.0 w.0 c)) x w.2 in (
      read.0.0,
      read.0.1,
      read.0.2,
      v.0,
      w.0,
      y.0,
      behind_of word fields three_of (λ f. f.0 ∷ f.1 ∷ f.2 ∷ []) read.0 three_of_shown read.1,
      v.1,
      w.1,
      y.1,
      some_same (make v.0 w.0 y.0) x y.2,
    )

-- a line of a word and three fields
pub three_line : {A B C X : Type 0} {m n o : ℕ} {IsA : A → Type 0} {IsB : B → Type 0}
    {IsC : C → Type 0} {text_a : A → List ℕ} {text_b : B → List ℕ} {text_c : C → List ℕ}
    → {parse_a : List ℕ → Option A} {parse_b : List ℕ → Option B} {parse_c : List ℕ → Option C}
    → (word : List ℕ) → is_word word ≡ true → IsToken m IsA text_a parse_a
    → IsToken n IsB text_b parse_b → IsToken o IsC text_c parse_c
    → length word + 3 + m + n + o ≤ 255
    → (make : A → B → C → X) (a : X → A) (b : X → B) (c : X → C)
    → ((x : X) → make (a x) (b x) (c x) ≡ x) → ((v : A) (w : B) (y : C) → a (make v w y) ≡ v)
    → ((v : A) (w : B) (y : C) → b (make v w y) ≡ w)
    → ((v : A) (w : B) (y : C) → c (make v w y) ≡ y)
    → IsLine (λ x. IsA (a x) × IsB (b x) × IsC (c x))
    (λ x. spaced (word ∷ text_a (a x) ∷ text_b (b x) ∷ text_c (c x) ∷ []))
    (three_fields word parse_a parse_b parse_c make)
three_line {X = X} {IsA = IsA} {IsB = IsB} {IsC = IsC} {text_a = text_a} {text_b = text_b}
    {text_c = text_c} {parse_a = parse_a} {parse_b = parse_b} {parse_c = parse_c} word is_a_word ta
    tb tc small make a b c eta is_a is_b is_c =
    let words : (x : X) → IsA (a x) × IsB (b x) × IsC (c x)
    → all_words (word ∷ text_a (a x) ∷ text_b (b x) ∷ text_c (c x) ∷ []) ≡ true =
    λ x is. rw (is_a_word, ta.word (a x) is.0, tb.word (b x) is.1, tc.word (c x) is.2) refl in
    record {
      found = λ x is.
          ap (three_by word parse_a parse_b parse_c make)
          (fields_of-join word (text_a (a x) ∷ text_b (b x) ∷ text_c (c x) ∷ []) (words x is))
          ∙ three_found word parse_a parse_b parse_c make (text_a (a x)) (text_b (b x))
          (text_c (c x)) (a x) (b x) (c x) (ta.found (a x) is.0) (tb.found (b x) is.1)
          (tc.found (c x) is.2) ∙ ap Some (eta x);
      shown = λ line x some.
          let read = three_shown word parse_a parse_b parse_c make (fields_of line) x some in
          let va : read.3 ≡ a x = sym (is_a read.3 read.4 read.5) ∙ ap a read.10 in
          let vb : read.4 ≡ b x = sym (is_b read.3 read.4 read.5) ∙ ap b read.10 in
          let vc : read.5 ≡ c x = sym (is_c read.3 read.4 read.5) ∙ ap c read.10 in
          let ia = ta.shown read.0 (a x) (read.7 ∙ ap Some va) in
          let ib = tb.shown read.1 (b x) (read.8 ∙ ap Some vb) in
          let ic = tc.shown read.2 (c x) (read.9 ∙ ap Some vc) in (
            (ia.0, ib.0, ic.0),
            text_is line word (read.0 ∷ read.1 ∷ read.2 ∷ []) read.6
                ∙ rw (ia.1, ib.1, ic.1) refl,
          );
      plain = λ x is. plain_join (word ∷ text_a (a x) ∷ text_b (b x) ∷ text_c (c x) ∷ [])
          (words x is);
      short = λ x is.
          let la = ta.short (a x) is.0 in
          let lb = tb.short (b x) is.1 in
          let lc = tc.short (c x) is.2 in
          let tail = 32 ∷ text_b (b x) ++ (32 ∷ text_c (c x)) in
          omega (
            arith,
            length-append word (32 ∷ text_a (a x) ++ tail),
            length-append (text_a (a x)) tail,
            length-append (text_b (b x)) (32 ∷ text_c (c x)),
          );
    }

four_found : {A B C D X : Type 0} (word : List ℕ) (first : List ℕ → Option A)
    (second : List ℕ → Option B) (third : List ℕ → Option C) (fourth : List ℕ → Option D)
    (make : A → B → C → D → X) (f g h i : List ℕ) (v : A) (w : B) (y : C) (z : D)
    → first f ≡ Some v → second g ≡ Some w → third h ≡ Some y → fourth i ≡ Some z
    → four_by word first second third fourth make (word ∷ f ∷ g ∷ h ∷ i ∷ []) ≡ Some (make v w y z)
four_found word first second third fourth make f g h i v w y z fv gw hy iz =
    rw (same_word word, fv, gw, hy, iz) refl

four_shown : {A B C D X : Type 0} (word : List ℕ) (first : List ℕ → Option A)
    (second : List ℕ → Option B) (third : List ℕ → Option C) (fourth : List ℕ → Option D)
    (make : A → B → C → D → X) (fields : List (List ℕ)) (x : X)
    → four_by word first second third fourth make fields ≡ Some x
    → (f g h i : List ℕ) × (v : A) × (w : B) × (y : C) × (z : D)
    × (fields ≡ word ∷ f ∷ g ∷ h ∷ i ∷ []) × (first f ≡ Some v) × (second g ≡ Some w)
    × (third h ≡ Some y) × (fourth i ≡ Some z) × (make v w y z ≡ x)
four_shown word first second third fourth make fields x some =
    let read = bind_some (behind_word word fields >>? four_of)
    (λ fields. first fields.0 >>? λ a. second fields.1 >>? λ b. third fields.2 >>? λ c.
    fourth fields.3 >>? λ d. Some (make a b c d)) x some in
    let v = bind_some (first read.0.0)
    (λ a. second read.0.1 >>? λ b. third read.0.2 >>? λ c. fourth read.0.3 >>? λ d.
    Some (make a b c d)) x read.2 in
    let w = bind_some (second read.0.1)
    (λ b. third read.0.2 >>? λ c. fourth read.0.3 >>? λ d. Some (make v.0 b c d)) x v.2 in
    let y = bind_some (third read.0.2) (λ c. fourth read.0.3 >>? λ d. Some (make v.0 w.0 c d)) x w.2
    in
    let z = bind_some (fourth read.0.3) (λ d. Some (make v.0 w.0 y.0 d)) x y.2 in (
      read.0.0,
      read.0.1,
      read.0.2,
      read.0.3,
      v.0,
      w.0,
      y.0,
      z.0,
      behind_of word fields four_of (λ f. f.0 ∷ f.1 ∷ f.2 ∷ f.3 ∷ []) read.0 four_of_shown read.1,
      v.1,
      w.1,
      y.1,
      z.1,
      some_same (make v.0 w.0 y.0 z.0) x z.2,
    )

-- a line of a word and four fields
pub four_line : {A B C D X : Type 0} {m n o p : ℕ} {IsA : A → Type 0} {IsB : B → Type 0}
    {IsC : C → Type 0} {IsD : D → Type 0}
    → {text_a : A → List ℕ} {text_b : B → List ℕ} {text_c : C → List ℕ} {text_d : D → List ℕ}
    → {parse_a : List ℕ → Option A} {parse_b : List ℕ → Option B} {parse_c : List ℕ → Option C}
    {parse_d : List ℕ → Option D}
    → (word : List ℕ) → is_word word ≡ true → IsToken m IsA text_a parse_a
    → IsToken n IsB text_b parse_b → IsToken o IsC text_c parse_c → IsToken p IsD text_d parse_d
    → length word + 4 + m + n + o + p ≤ 255
    → (make : A → B → C → D → X) (a : X → A) (b : X → B) (c : X → C) (d : X → D)
    → ((x : X) → make (a x) (b x) (c x) (d x) ≡ x)
    → ((v : A) (w : B) (y : C) (z : D) → a (make v w y z) ≡ v)
    → ((v : A) (w : B) (y : C) (z : D) → b (make v w y z) ≡ w)
    → ((v : A) (w : B) (y : C) (z : D) → c (make v w y z) ≡ y)
    → ((v : A) (w : B) (y : C) (z : D) → d (make v w y z) ≡ z)
    → IsLine (λ x. IsA (a x) × IsB (b x) × IsC (c x) × IsD (d x))
    (λ x. spaced (word ∷ text_a (a x) ∷ text_b (b x) ∷ text_c (c x) ∷ text_d (d x) ∷ []))
    (four_fields word parse_a parse_b parse_c parse_d make)
four_line {X = X} {IsA = IsA} {IsB = IsB} {IsC = IsC} {IsD = IsD} {text_a = text_a}
    {text_b = text_b} {text_c = text_c} {text_d = text_d} {parse_a = parse_a} {parse_b = parse_b}
    {parse_c = parse_c} {parse_d = parse_d} word is_a_word ta tb tc td small make a b c d eta is_a
    is_b is_c is_d =
    let words : (x : X) → IsA (a x) × IsB (b x) × IsC (c x) × IsD (d x)
    → all_words (word ∷ text_a (a x) ∷ text_b (b x) ∷ text_c (c x) ∷ text_d (d x) ∷ []) ≡ true =
    λ x is. rw (
      is_a_word,
      ta.word (a x) is.0,
      tb.word (b x) is.1,
      tc.word (c x) is.2,
      td.word (d x) is.3,
    ) refl in
    record {
      found = λ x is.
          ap (four_by word parse_a parse_b parse_c parse_d make)
          (fields_of-join word (text_a (a x) ∷ text_b (b x) ∷ text_c (c x) ∷ text_d (d x) ∷ [])
          (words x is))
          ∙ four_found word parse_a parse_b parse_c parse_d make (text_a (a x)) (text_b (b x))
          (text_c (c x)) (text_d (d x)) (a x) (b x) (c x) (d x) (ta.found (a x) is.0)
          (tb.found (b x) is.1) (tc.found (c x) is.2) (td.found (d x) is.3) ∙ ap Some (eta x);
      shown = λ line x some.
          let read = four_shown word parse_a parse_b parse_c parse_d make (fields_of line) x some in
          let va : read.4 ≡ a x = sym (is_a read.4 read.5 read.6 read.7) ∙ ap a read.13 in
          let vb : read.5 ≡ b x = sym (is_b read.4 read.5 read.6 read.7) ∙ ap b read.13 in
          let vc : read.6 ≡ c x = sym (is_c read.4 read.5 read.6 read.7) ∙ ap c read.13 in
          let vd : read.7 ≡ d x = sym (is_d read.4 read.5 read.6 read.7) ∙ ap d read.13 in
          let ia = ta.shown read.0 (a x) (read.9 ∙ ap Some va) in
          let ib = tb.shown read.1 (b x) (read.10 ∙ ap Some vb) in
          let ic = tc.shown read.2 (c x) (read.11 ∙ ap Some vc) in
          let id = td.shown read.3 (d x) (read.12 ∙ ap Some vd) in (
            (ia.0, ib.0, ic.0, id.0),
            text_is line word (read.0 ∷ read.1 ∷ read.2 ∷ read.3 ∷ []) read.8
                ∙ rw (ia.1, ib.1, ic.1, id.1) refl,
          );
      plain = λ x is. plain_join
          (word ∷ text_a (a x) ∷ text_b (b x) ∷ text_c (c x) ∷ text_d (d x) ∷ []) (words x is);
      short = λ x is.
          let la = ta.short (a x) is.0 in
          let lb = tb.short (b x) is.1 in
          let lc = tc.short (c x) is.2 in
          let ld = td.short (d x) is.3 in
          let last = 32 ∷ text_c (c x) ++ (32 ∷ text_d (d x)) in
          let tail = 32 ∷ text_b (b x) ++ last in
          omega (
            arith,
            length-append word (32 ∷ text_a (a x) ++ tail),
            length-append (text_a (a x)) tail,
            length-append (text_b (b x)) last,
            length-append (text_c (c x)) (32 ∷ text_d (d x)),
          );
    }

-- ---- the lines that several forms have

pub number_line_is : (word : List ℕ) (least most : ℕ) → is_word word ≡ true → length word ≤ 200
    → most < 2 ^ 64
    → IsLine (λ number. (number ≤ most) × (nat_le least number ≡ true))
    (λ number. spaced (word ∷ decimal number ∷ [])) (number_line word least most)
number_line_is word least most is_a_word short fits =
    one_line word is_a_word (meeting_token (λ number. nat_le least number)
    (decimal_token most fits)) (omega arith)

pub id_line_is : (word : List ℕ) → is_word word ≡ true → length word ≤ 200
    → IsLine (λ id. (length id ≡ 16) × IsBytes id) (λ id. spaced (word ∷ hex_text id ∷ []))
    (id_line word)
id_line_is word is_a_word short = one_line word is_a_word (hex_token 16) (omega arith)

pub digests_line_is : {X : Type 0} (word : List ℕ) → is_word word ≡ true → length word ≤ 100
    → (make : List ℕ → List ℕ → X) (first second : X → List ℕ)
    → ((x : X) → make (first x) (second x) ≡ x) → ((a b : List ℕ) → first (make a b) ≡ a)
    → ((a b : List ℕ) → second (make a b) ≡ b)
    → IsLine (λ x. HasDigests (first x) (second x)) (λ x. digests_text word (first x) (second x))
    (digests_line make word)
digests_line_is word is_a_word short make first second whole is_first is_second =
    two_line word is_a_word (hex_token 32) (hex_token 32) (omega arith) make first second whole
    is_first is_second

-- the same line, where its values are said in other words
pub line_same : {X : Type 0} {IsValue Is : X → Type 0} {text : X → List ℕ}
    {parse : List ℕ → Option X} → IsLine IsValue text parse
    → ((x : X) → IsValue x → Is x) → ((x : X) → Is x → IsValue x) → IsLine Is text parse
line_same form to from = record {
  found = λ x is. form.found x (from x is);
  shown = λ line x some. let shown = form.shown line x some in (to x shown.0, shown.1);
  plain = λ x is. form.plain x (from x is);
  short = λ x is. form.short x (from x is);
}

-- least numbers as tests and as facts
pub from_test : (least n : ℕ) → nat_le least n ≡ true → least ≤ n
from_test least n test = leb-true least n test

pub to_test : (least n : ℕ) → least ≤ n → nat_le least n ≡ true
to_test least n fact = le-leb least n fact

-- a number in its range, as it is read
abbrev pub InRange : ℕ → ℕ → ℕ → Type 0
InRange least most number = (number ≤ most) × (nat_le least number ≡ true)

-- below a bound, or at most what is one less
pub below_from : (bound n : ℕ) → 1 ≤ bound → n ≤ bound - 1 → n < bound
below_from bound n some most = omega arith

pub below_to : (bound n : ℕ) → n < bound → n ≤ bound - 1
below_to bound n below = omega arith
