-- Fields that are read one after another, with no search for the space behind them.
use Rattle.std.proofs.Common.{◌≡◌, ℕ, ◌-◌, ◌<◌, true, List, [], ◌∷◌, ◌++◌, length, take, drop, slice_index, Option, Some, None, refl, ap, sym, ◌∙◌, arith, length-append}
use Rattle.std.specs.List.{join_with_byte}
use Rattle.std.proofs.lemmas.List.{drop_at, take_all, take_at, take-append-drop}
use Rattle.vk_residue.specs.Residue.{modulus}
use Rattle.vk_residue.specs.Steps.{◌>>?◌}
use Rattle.vk_lines.specs.Forms.{IsToken, is_word}
use Rattle.vk_lines.specs.Tokens.{alone_by, fields_of, first_by, hex_of, residue_of}
use Rattle.vk_lines.proofs.Hexadecimal.{hex_of-some, length-hex_text}
use Rattle.vk_lines.proofs.Words.{bind_some, decimal_token, fields_of-more, fields_of-word, hex_token, hex_word, split_some, text_is}

never : {A : Type 0} (o : Option A) → ((x : A) → o ≡ Some x → ⊥) → o ≡ None
never (Some x) denied = absurd (denied x refl)
never None denied = refl

-- ---- the only field

-- a token that is read from a text is its only field
alone : {X : Type 0} {most : ℕ} {IsValue : X → Type 0} {text : X → List ℕ}
    {parse : List ℕ → Option X} → IsToken most IsValue text parse → (word : List ℕ) (x : X)
    → parse word ≡ Some x → fields_of word ≡ word ∷ []
alone {text = text} token word x some =
    let read = token.shown word x some in
    rw read.1 (fields_of-word (text x) (token.word x read.0))

token_alone : {X : Type 0} {most : ℕ} {IsValue : X → Type 0} {text : X → List ℕ}
    {parse : List ℕ → Option X} → IsToken most IsValue text parse
    → (word : List ℕ) (fields : List (List ℕ)) → fields_of word ≡ fields
    → parse word ≡ alone_by parse fields
token_alone token word [] same =
    let some = split_some 32 word in
    let none : [] ≡ some.0 ∷ some.1 = sym same ∙ some.2 in
    cc
token_alone {parse = parse} token word (field ∷ []) same =
    ap parse (text_is word field [] same)
token_alone {parse = parse} token word (field ∷ next ∷ more) same =
    never (parse word) (λ x some.
    let one : field ∷ next ∷ more ≡ word ∷ [] = sym same ∙ alone token word x some in
    cc)

pub hex_alone : (text : List ℕ) → hex_of 32 text ≡ alone_by (hex_of 32) (fields_of text)
hex_alone text = token_alone (hex_token 32) text (fields_of text) refl

pub residue_alone : (text : List ℕ) → residue_of text ≡ alone_by residue_of (fields_of text)
residue_alone text =
    token_alone (decimal_token (modulus - 1) (omega arith)) text (fields_of text) refl

-- ---- the first field

pub first_by_more : {A : Type 0} (parse : List ℕ → Option A) (field text : List ℕ)
    → first_by parse (field ∷ fields_of text) ≡ (parse field >>? λ a. Some (a, fields_of text))
first_by_more parse field text = let some = split_some 32 text in rw some.2 refl

-- a first field of 32 bytes in hexadecimal ends behind 64 digits
first_digits : (text : List ℕ) (fields : List (List ℕ)) (x : List ℕ × List (List ℕ))
    → fields_of text ≡ fields → first_by (hex_of 32) fields ≡ Some x
    → (64 < length text) × (slice_index (drop 64 text) 0 ≡ 32)
    × (hex_of 32 (take 64 text) ≡ Some x.0)
first_digits text [] x same some = cc
first_digits text (field ∷ []) x same some = cc
first_digits text (field ∷ next ∷ more) x same some =
    let read = bind_some (hex_of 32 field) (λ bytes. Some (bytes, next ∷ more)) x some in
    let is = hex_of-some 32 field read.0 read.1 in
    let digits : length field ≡ 64 = omega (arith, ap length is.2, length-hex_text read.0, is.0) in
    let rest = join_with_byte 32 (next ∷ more) in
    let whole : text ≡ field ++ 32 ∷ rest = text_is text field (next ∷ more) same in
    let bytes : read.0 ≡ x.0 = cc in (
      omega (arith, ap length whole, length-append field (32 ∷ rest)),
      rw whole (ap (λ more. slice_index more 0) (drop_at field (32 ∷ rest) 64 digits)),
      rw whole (ap (hex_of 32) (take_at field (32 ∷ rest) 64 digits) ∙ read.1 ∙ ap Some bytes),
    )

-- there is none where the text is short, or has no space there, or no digits before it
pub first_hex_none : (text : List ℕ)
    → (64 < length text → slice_index (drop 64 text) 0 ≡ 32 → hex_of 32 (take 64 text) ≡ None)
    → None ≡ first_by (hex_of 32) (fields_of text)
first_hex_none text none =
    sym (never (first_by (hex_of 32) (fields_of text)) (λ x some.
    let read = first_digits text (fields_of text) x refl some in
    let both : Some x.0 ≡ None = sym read.2 ∙ none read.0 read.1 in
    cc))

-- and there it is
first_hex_some : (digits more bytes : List ℕ) → hex_of 32 digits ≡ Some bytes
    → Some (bytes, fields_of more) ≡ first_by (hex_of 32) (fields_of (digits ++ 32 ∷ more))
first_hex_some digits more bytes some =
    let is = hex_of-some 32 digits bytes some in
    let word : is_word digits ≡ true = rw is.2 (hex_word bytes is.1) in
    sym (
    ap (first_by (hex_of 32)) (fields_of-more digits more word)
    ∙ first_by_more (hex_of 32) digits more
    ∙ rw some refl
    )

-- the same in parts of the text
begins : (more : List ℕ) → 0 < length more → slice_index more 0 ≡ 32
    → more ≡ 32 ∷ take (length more - 1) (drop 1 more)
begins [] some space = absurd (omega arith)
begins (b ∷ more) some space =
    ap (λ c. c ∷ more) space
    ∙ ap (λ rest. 32 ∷ rest) (sym (take_all (length (b ∷ more) - 1) more (omega arith)))

pub first_hex_found : (text bytes digits more : List ℕ) → digits ≡ take 64 text
    → more ≡ drop 64 text → 0 < length more → slice_index more 0 ≡ 32
    → hex_of 32 digits ≡ Some bytes
    → Some (bytes, fields_of (take (length more - 1) (drop 1 more)))
    ≡ first_by (hex_of 32) (fields_of text)
first_hex_found text bytes digits more front back long space some =
    let whole : digits ++ 32 ∷ take (length more - 1) (drop 1 more) ≡ text =
    ap (λ rest. digits ++ rest) (sym (begins more long space))
    ∙ rw (front, back) (take-append-drop 64 text) in
    first_hex_some digits (take (length more - 1) (drop 1 more)) bytes some
    ∙ ap (λ t. first_by (hex_of 32) (fields_of t)) whole
