-- So many draws of a kind, one after another.
use Rattle.std.specs.Prelude.{ℕ, zero, suc, List, [], ◌∷◌, ◌++◌, length, Option, Some, None, Result, Ok, Err, option_map}
use Rattle.vk_dice.specs.Draws.{drawn_residue, after_residue}

-- a kind of draw: what it gives of the words ahead, none where they are dry for it; the words ahead
-- after a draw that gave something; and those after one that was dry
pub record Drawing (X : Type 0) : Type 0 where
  pub drawn : (ℕ → ℕ) → Option X
  pub after : (ℕ → ℕ) → ℕ → ℕ
  pub dry : (ℕ → ℕ) → ℕ → ℕ

-- what is drawn with a residue at its head and the words after that; none where no residue can be
-- drawn
abbrev pub with_residue : {X : Type 0} → (ℕ → (ℕ → ℕ) → X) → (ℕ → ℕ) → Option X
with_residue item ahead = option_map (λ residue. item residue (after_residue ahead))
    (drawn_residue ahead)

-- the words ahead where a draw was dry, and where it gave something
abbrev pub words_after : {X : Type 0} → (ℕ → ℕ) → (ℕ → ℕ) → Option X → ℕ → ℕ
words_after dry drawn None = dry
words_after dry drawn (Some item) = drawn

-- what comes of the draws after this one, where it gave something, else its number
abbrev pub draws_after : {X A : Type 0} → ℕ → (X → Result A ℕ) → Option X → Result A ℕ
draws_after number rest None = Err number
draws_after number rest (Some item) = rest item

-- what so many draws give, one after another, after those before; or the number of the first that
-- is dry, counted from 0 with those before
unfoldable pub drawn_onto : {X : Type 0} → Drawing X → List X → ℕ → (ℕ → ℕ) → Result (List X) ℕ
drawn_onto kind before zero ahead = Ok before
drawn_onto kind before (suc count) ahead =
    draws_after (length before)
    (λ item. drawn_onto kind (before ++ item ∷ []) count (kind.after ahead)) (kind.drawn ahead)

-- the words ahead after so many draws; where one is dry, those after the first such
unfoldable pub after_draws : {X : Type 0} → Drawing X → ℕ → (ℕ → ℕ) → ℕ → ℕ
after_draws kind zero ahead = ahead
after_draws kind (suc count) ahead =
    words_after (kind.dry ahead) (after_draws kind count (kind.after ahead)) (kind.drawn ahead)
