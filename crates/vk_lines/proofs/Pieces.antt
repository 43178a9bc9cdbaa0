-- The pieces of a file between its line feeds, by what stands next.
use Rattle.std.proofs.Common.{◌≡◌, ℕ, ◌+◌, ◌<◌, ◌≤◌, ◌==◌, List, [], ◌∷◌, length, take, drop, refl, ap, ◌∙◌, arith, inl, inr}
use Rattle.std.specs.List.{slice_split}
use Rattle.std.proofs.lemmas.Bool.{cases_lt, cases_Bool}
use Rattle.std.proofs.lemmas.Bool.Decides.{nat_tests}
use Rattle.std.proofs.lemmas.List.{length-take-le}
use Rattle.std.proofs.lemmas.List.Splits.{slice_split_first}
use Rattle.vk_lines.specs.declared.step.Step.TheVariants.{Text}
use Rattle.vk_lines.specs.Lines.{feed_at, step_by, step_of}
use Rattle.vk_lines.proofs.Words.{split_some}

abbrev pub pieces : List ℕ → List (List ℕ)
pieces left = slice_split (λ byte. byte == 10) left

-- the first line and what is left after it
pub pieces_feed : (left : List ℕ) → feed_at left < length left
    → pieces left ≡ take (feed_at left) left ∷ pieces (drop (feed_at left + 1) left)
pieces_feed left within = slice_split_first (λ byte. byte == 10) left 0 within

-- no line feed
pub pieces_none : (left : List ℕ) → length left ≤ feed_at left → pieces left ≡ left ∷ []
pieces_none [] none = refl
pieces_none (b ∷ left) none =
    elim (cases_Bool (b == 10)) [
      | inl feed ↦ absurd (grind (arith, nat_tests))
      | inr other ↦
          let rest = pieces_none left (grind (arith, nat_tests)) in
          rw (other, rest) refl
    ]

pub text_tells : (feed count : ℕ) → step_by feed count ≡ Text → (feed < 256) × (feed < count)
text_tells feed count text = (grind (arith, nat_tests), grind (arith, nat_tests))

not_text_tells : (feed count : ℕ) → (step_by feed count ≡ Text → ⊥) → feed < count → 256 ≤ feed
not_text_tells feed count other within = grind (arith, nat_tests)

-- where no line stands next, the first piece is too long for a line or the only one
pub other_pieces : {A : Type 0} (f : List (List ℕ) → A) (answer : A) (left : List ℕ)
    → (step_of left ≡ Text → ⊥)
    → ((line piece : List ℕ) (more : List (List ℕ)) → 256 ≤ length line
    → f (line ∷ piece ∷ more) ≡ answer) → f (left ∷ []) ≡ answer
    → f (pieces left) ≡ answer
other_pieces f answer left other long only =
    elim (cases_lt (feed_at left) (length left)) [
      | inl within ↦
          let far = not_text_tells (feed_at left) (length left) other within in
          let line : List ℕ = take (feed_at left) left in
          let some = split_some 10 (drop (feed_at left + 1) left) in
          let same : length line ≡ feed_at left = length-take-le (feed_at left) left (omega arith)
          in
          ap f (pieces_feed left within ∙ ap (λ ps. line ∷ ps) some.2)
          ∙ long line some.0 some.1 (omega arith)
      | inr none ↦ ap f (pieces_none left none) ∙ only
    ]
