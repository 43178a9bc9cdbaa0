-- Texts of so many lines: each is plain and has at most 256 bytes with its line feed.
use Rattle.std.proofs.Common.{◌≡◌, ℕ, suc, ◌+◌, ◌*◌, ◌≤◌, ◌==◌, if◌then◌else◌, nat_lt, true, List, [], ◌∷◌, ◌++◌, length, Option, refl, arith, length-append, subst}
use Rattle.std.specs.List.{flat_map}
use Rattle.std.proofs.lemmas.Bool.{and_parts}
use Rattle.std.proofs.lemmas.Bool.Decides.{nat_tests}
use Rattle.std.proofs.lemmas.List.Sums.{sum_by-append}
use Rattle.vk_lines.specs.Forms.{EachAfter, IsLine, is_plain, line, numbered_text}
use Rattle.vk_honest.specs.Sizes.{line_count}

-- so many line feeds, and at most 256 bytes for each
pub record HasLines (count : ℕ) (text : List ℕ) : Type 0 where
  pub lines : line_count text ≡ count
  pub short : length text ≤ count * 256

pub lines_as : (count other : ℕ) (text : List ℕ) → HasLines count text → count ≡ other
    → HasLines other text
lines_as count other text has same = subst (λ n. HasLines n text) same has

pub none_have : HasLines 0 []
none_have = record { lines = refl; short = omega arith }

-- plain text has no line feed
none_in_plain : (text : List ℕ) → is_plain text ≡ true → line_count text ≡ 0
none_in_plain [] plain = refl
none_in_plain (byte ∷ text) plain =
    let parts = and_parts (nat_lt 31 byte) (is_plain text) plain in
    let rest = none_in_plain text parts.1 in
    grind (arith, nat_tests)

line_count-append : (text more : List ℕ)
    → line_count (text ++ more) ≡ line_count text + line_count more
line_count-append text more = sum_by-append (λ byte. if byte == 10 then 1 else 0) text more

pub both_have : {m n : ℕ} {text more : List ℕ} → HasLines m text → HasLines n more
    → HasLines (m + n) (text ++ more)
both_have {text = text} {more = more} front back = record {
  lines = omega (arith, line_count-append text more, front.lines, back.lines);
  short = omega (arith, length-append text more, front.short, back.short);
}

-- the text of a value of a line
pub line_has : {X : Type 0} {IsValue : X → Type 0} {text : X → List ℕ} {parse : List ℕ → Option X}
    → IsLine IsValue text parse → (x : X) → IsValue x → HasLines 1 (line (text x))
line_has {text = text} form x is = record {
  lines = omega (
    arith,
    line_count-append (text x) (10 ∷ []),
    none_in_plain (text x) (form.plain x is),
  );
  short = omega (arith, length-append (text x) (10 ∷ []), form.short x is);
}

-- texts of so many lines each, one after another
pub flat_have : {X : Type 0} {IsValue : List X → X → Type 0} {text : X → List ℕ} (n : ℕ)
    → ((before : List X) (x : X) → IsValue before x → HasLines n (text x))
    → (before xs : List X) → EachAfter IsValue before xs
    → HasLines (length xs * n) (flat_map text xs)
flat_have n each before [] all = lines_as 0 (0 * n) [] none_have (omega arith)
flat_have n each before (x ∷ xs) all =
    lines_as (n + length xs * n) (suc (length xs) * n) _
    (both_have (each before x all.0) (flat_have n each (before ++ x ∷ []) xs all.1))
    (omega arith)

-- the same of texts with their numbers
pub numbered_have : {X : Type 0} {IsValue : List X → X → Type 0} (text : ℕ → X → List ℕ)
    (n most : ℕ)
    → ((before : List X) (x : X) → length before + 1 ≤ most → IsValue before x
    → HasLines n (text (length before + 1) x))
    → (before xs : List X) → length before + length xs ≤ most → EachAfter IsValue before xs
    → HasLines (length xs * n) (numbered_text text (length before + 1) xs)
numbered_have text n most each before [] few all = lines_as 0 (0 * n) [] none_have (omega arith)
numbered_have text n most each before (x ∷ xs) few all =
    let next : length (before ++ x ∷ []) ≡ length before + 1 = length-append before (x ∷ []) in
    let P : ℕ → Type 0 = λ number. HasLines (length xs * n) (numbered_text text (number + 1) xs) in
    let rest = subst P next (numbered_have text n most each (before ++ x ∷ []) xs
    (omega (arith, next)) all.1) in
    lines_as (n + length xs * n) (suc (length xs) * n) _
    (both_have (each before x (omega arith) all.0) rest) (omega arith)
