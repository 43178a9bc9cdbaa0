-- How the texts that are printed are put together.
use Rattle.std.specs.Prelude.{ℕ, List, [], ◌∷◌, ◌++◌}

infixr 30 ◌+++◌
-- one text after another, grouped to the right
abbrev pub ◌+++◌ : List ℕ → List ℕ → List ℕ
xs +++ ys = xs ++ ys

-- what ends each line
abbrev pub line_feed : List ℕ
line_feed = 10 ∷ []
