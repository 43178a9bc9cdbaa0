-- Maps that are one to one and onto. Where there is one, there are equally many on both sides.
use Rattle.std.specs.Prelude.{◌≡◌}

-- what has From goes to what has To: different ones to different ones, and one to each
pub record IsOneToOneOnto {A : Type 0} (From To : A → Type 0) (map : A → A) : Type 0 where
  pub into : (a : A) → From a → To (map a)
  pub one_to_one : (a b : A) → From a → From b → map a ≡ map b → a ≡ b
  pub onto : (b : A) → To b → (a : A) × From a × (map a ≡ b)
