-- The first of two differences isn't below 0, or the second isn't: a pair e of weight 1 says which.
-- It is 1 where the first has to be in its range, and 0 where the second has to; the other may miss
-- it by less than 2 ^ width.
use Rattle.std.specs.Prelude.{ℕ, ◌+◌, ◌^◌, ◌<◌, ◌≤◌, ◌⊎◌, ◌&&◌, Bool, true, false, if◌then◌else◌, nat_lt, List, [], ◌∷◌, ◌++◌}
use Rattle.vk_residue.specs.Residue.{negative}
use Rattle.vk_plan.specs.declared.wire.WireKind.{WireKind}
use Rattle.vk_plan.specs.declared.wire.WireKind.TheVariants.{Pair}
use Rattle.vk_plan.specs.declared.form.Term.{Term}
use Rattle.vk_plan.specs.declared.form.Form.{Form}
use Rattle.vk_plan.specs.Forms.{form_value}
use Rattle.vk_range.specs.declared.ranges.Ranges.{Ranges}
use Rattle.vk_range.specs.Sets.{test_set, plus, minus}
use Rattle.vk_range.specs.Ranges.{AreOfWidth, ranges_rows, ranges_values}
use Rattle.vk_range.specs.Ranged.{ranges_of}
use Rattle.vk_matching.specs.declared.either.EitherAtLeast.{EitherAtLeast}

-- four wires of the first so many, and a width from 1 to 16
pub record IsEither (relation : EitherAtLeast) (wires : ℕ) : Type 0 where
  pub first_left : relation.first_left < wires
  pub first_right : relation.first_right < wires
  pub second_left : relation.second_left < wires
  pub second_right : relation.second_right < wires
  pub least : 1 ≤ relation.width
  pub most : relation.width ≤ 16

-- left less right, and a constant
abbrev pub shifted_form : ℕ → ℕ → ℕ → Form
shifted_form left right constant =
    record { terms = plus left ∷ minus right ∷ []; constant = constant }

-- first_left - first_right + 2 ^ width * (1 - e), for e = 1 and for e = 0
abbrev pub first_at : EitherAtLeast → Bool → Form
first_at relation e = shifted_form relation.first_left relation.first_right
    (if e then 0 else 2 ^ relation.width)

-- second_left - second_right + 2 ^ width * e
abbrev pub second_at : EitherAtLeast → Bool → Form
second_at relation e = shifted_form relation.second_left relation.second_right
    (if e then 2 ^ relation.width else 0)

-- both, of one bit more than the width
abbrev pub ranges_at : EitherAtLeast → Bool → Ranges
ranges_at relation e = ranges_of (first_at relation e ∷ second_at relation e ∷ [])
    (relation.width + 1)

-- for e = 1 or for e = 0 both are in their ranges
abbrev pub IsEitherAtLeast : EitherAtLeast → List ℕ → Type 0
IsEitherAtLeast relation values =
    AreOfWidth (ranges_at relation true) values ⊎ AreOfWidth (ranges_at relation false) values

-- whether they are for e = 1
abbrev pub is_one : EitherAtLeast → List ℕ → Bool
is_one relation values =
    nat_lt (form_value (first_at relation true) values) (2 ^ (relation.width + 1))
    && nat_lt (form_value (second_at relation true) values) (2 ^ (relation.width + 1))

-- the same over the wire of the pair
abbrev pub paired_form : ℕ → ℕ → ℕ → Term → Form
paired_form left right constant pair =
    record { terms = plus left ∷ minus right ∷ pair ∷ []; constant = constant }

abbrev pub first_form : EitherAtLeast → ℕ → Form
first_form relation pair =
    paired_form relation.first_left relation.first_right (2 ^ relation.width)
    (record { wire = pair; factor = negative (2 ^ relation.width) })

abbrev pub second_form : EitherAtLeast → ℕ → Form
second_form relation pair =
    paired_form relation.second_left relation.second_right 0
    (record { wire = pair; factor = 2 ^ relation.width })

abbrev pub paired_ranges : EitherAtLeast → ℕ → Ranges
paired_ranges relation pair =
    ranges_of (first_form relation pair ∷ second_form relation pair ∷ []) (relation.width + 1)

-- the pair, and behind it the sets of both
abbrev pub either_wires : ℕ → List WireKind
either_wires width = Pair 0 ∷ test_set (width + 1) ++ test_set (width + 1)

abbrev pub either_rows : EitherAtLeast → ℕ → List Form
either_rows relation start = ranges_rows (paired_ranges relation start) (start + 1)

-- e is 1 where both are in their ranges for 1, and each set has the value of its form
abbrev pub e_value : Bool → ℕ
e_value e = if e then 1 else 0

abbrev pub either_values : EitherAtLeast → List ℕ → List ℕ
either_values relation values =
    let e = is_one relation values in e_value e ∷ ranges_values (ranges_at relation e) values
