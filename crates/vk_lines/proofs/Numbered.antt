-- So many parts one after another, each with its number in its text.
use Rattle.std.proofs.Common.{◌≡◌, ℕ, zero, suc, ◌+◌, ◌≤◌, List, [], ◌∷◌, ◌++◌, length, Result, Ok, refl, ap, sym, ◌∙◌, arith, append_assoc, append-nil, length-append}
use Rattle.vk_residue.specs.Steps.{◌>>=◌}
use Rattle.vk_lines.specs.Lines.{Rest}
use Rattle.std.specs.List.{AllByRecursion}
use Rattle.vk_lines.specs.Forms.{IsPart, EachAfter, many_onto, many_at, numbered_text}
use Rattle.vk_lines.proofs.Parts.{bind_ok, ok_same, part_same, each_from_all, all_from_each}

next_number : {X : Type 0} (before : List X) (x : X)
    → length before + 1 + 1 ≡ length (before ++ x ∷ []) + 1
next_number before x = omega (arith, length-append before (x ∷ []))

numbered_found : {X : Type 0} {IsValue : ℕ → X → Type 0} {text : ℕ → X → List ℕ}
    {read : ℕ → Rest → Result (X × Rest) ℕ} (most : ℕ)
    → ((number : ℕ) → number ≤ most → IsPart (IsValue number) (text number) (read number))
    → (before xs : List X) (rest : Rest) (more : List ℕ) → length before + length xs ≤ most
    → EachAfter (λ b. IsValue (length b + 1)) before xs
    → rest.left ≡ numbered_text text (length before + 1) xs ++ more
    → (taken : ℕ) × (many_onto before (length xs) (λ b. read (length b + 1)) rest
    ≡ Ok (before ++ xs, record { taken = taken; left = more }))
unfolding many_onto
numbered_found most part before [] rest more few all left =
    (rest.taken, rw (append-nil before, ← left) refl)
numbered_found {text = text} {read = read} most part before (x ∷ xs) rest more few all left =
    let number : ℕ = length before + 1 in
    let rest_text : List ℕ = numbered_text text (number + 1) xs in
    let first = (part number (omega arith)).found rest x (rest_text ++ more) all.0
    (left ∙ append_assoc (text number x) rest_text more) in
    let next = numbered_found most part (before ++ x ∷ []) xs
    (record { taken = first.0; left = rest_text ++ more }) more
    (omega (arith, length-append before (x ∷ []))) all.1
    (ap (λ n. numbered_text text n xs ++ more) (next_number before x)) in (
      next.0,
      ap (λ r. r >>= λ p. many_onto (before ++ p.0 ∷ []) (length xs)
          (λ b. read (length b + 1)) p.1) first.1 ∙ next.1
          ∙ ap (λ ys. Ok (ys, record { taken = next.0; left = more }))
          (append_assoc before (x ∷ []) xs),
    )

numbered_shown : {X : Type 0} {IsValue : ℕ → X → Type 0} {text : ℕ → X → List ℕ}
    {read : ℕ → Rest → Result (X × Rest) ℕ} (most : ℕ)
    → ((number : ℕ) → number ≤ most → IsPart (IsValue number) (text number) (read number))
    → (before : List X) (count : ℕ) (rest : Rest) (ys : List X) (after : Rest)
    → length before + count ≤ most
    → many_onto before count (λ b. read (length b + 1)) rest ≡ Ok (ys, after)
    → (xs : List X) × (ys ≡ before ++ xs) × (length xs ≡ count)
    × EachAfter (λ b. IsValue (length b + 1)) before xs
    × (rest.left ≡ numbered_text text (length before + 1) xs ++ after.left)
unfolding many_onto
numbered_shown most part before zero rest ys after few some =
    let pair = ok_same (before, rest) (ys, after) some in
    ([], sym (ap (λ p. p.0) pair) ∙ sym (append-nil before), refl, tt, ap (λ p. p.1.left) pair)
numbered_shown {text = text} {read = read} most part before (suc count) rest ys after few some =
    let number : ℕ = length before + 1 in
    let first = bind_ok (read number rest)
    (λ p. many_onto (before ++ p.0 ∷ []) count (λ b. read (length b + 1)) p.1) (ys, after) some
    in
    let x = first.0.0 in
    let is = (part number (omega arith)).shown rest x first.0.1 first.1 in
    let next = numbered_shown most part (before ++ x ∷ []) count first.0.1 ys after
    (omega (arith, length-append before (x ∷ []))) first.2 in
    let left : first.0.1.left ≡ numbered_text text (number + 1) next.0 ++ after.left =
    next.4 ∙ ap (λ n. numbered_text text n next.0 ++ after.left) (sym (next_number before x)) in (
      x ∷ next.0,
      next.1 ∙ append_assoc before (x ∷ []) next.0,
      ap suc next.2,
      (is.0, next.3),
      is.1 ∙ ap (λ more. text number x ++ more) left
          ∙ sym (append_assoc (text number x) (numbered_text text (number + 1) next.0) after.left),
    )

pub numbered_part : {X : Type 0} {IsValue : ℕ → X → Type 0} {text : ℕ → X → List ℕ}
    {read : ℕ → Rest → Result (X × Rest) ℕ} (most count : ℕ) → count ≤ most
    → ((number : ℕ) → number ≤ most → IsPart (IsValue number) (text number) (read number))
    → IsPart (λ xs. (length xs ≡ count) × EachAfter (λ b. IsValue (length b + 1)) [] xs)
    (numbered_text text 1) (many_at count (λ b. read (length b + 1)))
numbered_part {text = text} {read = read} most count few part = record {
  found = λ rest xs more is left.
      let all = numbered_found most part [] xs rest more (omega (arith, is.0)) is.1 left in
      (all.0, ap (λ n. many_onto [] n (λ b. read (length b + 1)) rest) (sym is.0) ∙ all.1);
  shown = λ rest xs after some.
      let all = numbered_shown most part [] count rest xs after (omega arith) some in (
        (ap length all.1 ∙ all.2, rw (all.1) all.3),
        all.4
            ∙ ap (λ ys. numbered_text text 1 ys ++ after.left) (sym all.1),
      );
}

-- the same where what is right doesn't go by the number
pub numbered_all : {X : Type 0} {IsValue : X → Type 0} {text : ℕ → X → List ℕ}
    {read : ℕ → Rest → Result (X × Rest) ℕ} (most count : ℕ) → count ≤ most
    → ((number : ℕ) → number ≤ most → IsPart IsValue (text number) (read number))
    → IsPart (λ xs. (length xs ≡ count) × AllByRecursion IsValue xs) (numbered_text text 1)
    (many_at count (λ b. read (length b + 1)))
numbered_all {IsValue = IsValue} {text = text} most count few part =
    part_same (numbered_part {IsValue = λ _. IsValue} most count few part)
    (λ xs is. (is.0, all_from_each IsValue [] xs is.1))
    (λ xs is. (is.0, each_from_all IsValue [] xs is.1)) (λ xs. refl)
