-- What is said of one named file.
use Rattle.std.specs.Prelude.{ℕ, List, codes, decimal}
use Rattle.vk_effect.specs.Effects.{SaidValue}
use Rattle.vk_effect.specs.Texts.{◌+++◌, line_feed}

-- it isn't held
abbrev pub missing_said : List ℕ → SaidValue
missing_said name = record { status = 5; text = codes "missing " +++ name +++ line_feed }

-- it has too many bytes
abbrev pub too_long_said : List ℕ → SaidValue
too_long_said name = record { status = 4; text = codes "too long " +++ name +++ line_feed }

-- it isn't of its form: the first line that isn't what its place demands
abbrev pub malformed_said : List ℕ → ℕ → SaidValue
malformed_said name line = record {
  status = 4;
  text = codes "malformed " +++ name +++ codes " line " +++ decimal line +++ line_feed;
}

-- it is of its form, and refused for this
abbrev pub refused_said : List ℕ → List ℕ → SaidValue
refused_said name cause = record {
  status = 1;
  text = codes "refused " +++ name +++ codes " " +++ cause +++ line_feed;
}
