-- The plan that shows that no pair blocks a matching, and the values that hold for it. Wires, rows
-- and places count from 0, persons from 1. The numbers that are published are the width of the
-- ranks and then, for each man, his woman.
use Rattle.std.specs.Prelude.{ℕ, ◌+◌, ◌-◌, ◌*◌, ◌/◌, ◌%◌, ◌^◌, ◌<◌, ◌≤◌, ◌≡◌, List, [], ◌∷◌, ◌++◌, All, drop, length, slice_index}
use Rattle.vk_plan.specs.declared.form.Form.{Form}
use Rattle.vk_plan.specs.Plans.{PlanValue}
use Rattle.vk_range.specs.declared.ranges.Ranges.{Ranges}
use Rattle.vk_range.specs.Sets.{joined, plus}
use Rattle.vk_range.specs.Others.{other}
use Rattle.vk_range.specs.Ranges.{listed_ranges}
use Rattle.vk_range.specs.Ranged.{ranged_plan, ranged_values}
use Rattle.vk_matching.specs.declared.either.EitherAtLeast.{EitherAtLeast}
use Rattle.vk_matching.specs.Stability.{IsPermutation, IsStable, his_place, her_place, wife_of}
use Rattle.vk_matching.specs.Couples.{husband_of}
use Rattle.vk_matching.specs.Eithers.{either_wires, either_rows, either_values}
use Rattle.vk_matching.specs.Blocks.{blocks}

-- what the numbers are
abbrev pub width_of : List ℕ → ℕ
width_of numbers = slice_index numbers 0

abbrev pub matching_of : List ℕ → List ℕ
matching_of numbers = drop 1 numbers

-- how many men there are, and how many women
abbrev pub size_of : List ℕ → ℕ
size_of numbers = length (matching_of numbers)

-- how many ranks there are and the numbers that are published, each within its limits
pub record IsMatchingInLimits (inputs : ℕ) (numbers : List ℕ) : Type 0 where
  pub some : 1 ≤ size_of numbers
  pub most : size_of numbers ≤ 16
  pub least_width : 1 ≤ width_of numbers
  pub most_width : width_of numbers ≤ 16
  pub all_ranks : inputs ≡ 2 * size_of numbers * size_of numbers

-- and each man has a woman of his own
pub record IsMatchingCase (inputs : ℕ) (numbers : List ℕ) : Type 0 where
  pub limits : IsMatchingInLimits inputs numbers
  pub permutation : IsPermutation (size_of numbers) (matching_of numbers)

-- what the plan shows of the ranks
pub record IsMatchingClaim (inputs : ℕ) (numbers ranks : List ℕ) : Type 0 where
  pub one_each : length ranks ≡ inputs
  pub within_width : All (λ rank. rank < 2 ^ width_of numbers) ranks
  pub stable : IsStable (size_of numbers) ranks (matching_of numbers)

-- Y, the copy of the rank at a place: its wire, and that wire as a form
abbrev pub copy_at : ℕ → ℕ → ℕ
copy_at inputs place = inputs + place

abbrev pub rank_form : ℕ → ℕ → Form
rank_form inputs place = record { terms = plus (copy_at inputs place) ∷ []; constant = 0 }

-- each copy is of the width
abbrev pub rank_ranges : ℕ → List ℕ → Ranges
rank_ranges inputs numbers = listed_ranges (rank_form inputs) (width_of numbers) inputs

-- the man ranks that woman no better than his own, or she ranks him no better than her own
abbrev pub pair_either : ℕ → List ℕ → ℕ → ℕ → EitherAtLeast
pair_either inputs numbers man woman =
    let size = size_of numbers in
    let matching = matching_of numbers in
    record {
      first_left = copy_at inputs (his_place size man woman);
      first_right = copy_at inputs (his_place size man (wife_of matching man));
      second_left = copy_at inputs (her_place size woman man);
      second_right = copy_at inputs (her_place size woman (husband_of matching woman));
      width = width_of numbers;
    }

-- how many pairs of a man and a woman other than his own there are, and the man and the woman of
-- each: those of the first man first, and of one man's by ascending woman
abbrev pub pair_count : ℕ → ℕ
pair_count size = size * (size - 1)

abbrev pub man_at : ℕ → ℕ → ℕ
man_at size pair = pair / (size - 1) + 1

abbrev pub woman_at : ℕ → List ℕ → ℕ → ℕ
woman_at size matching pair = other (wife_of matching (man_at size pair) - 1) (pair % (size - 1))
    + 1

abbrev pub either_at : ℕ → List ℕ → ℕ → EitherAtLeast
either_at inputs numbers pair =
    pair_either inputs numbers (man_at (size_of numbers) pair)
    (woman_at (size_of numbers) (matching_of numbers) pair)

-- The rows, in order: each rank is its copy; each copy is of the width; and of each pair, he or she
-- doesn't prefer the other.
unfoldable pub matching_plan : ℕ → List ℕ → PlanValue
matching_plan inputs numbers =
    blocks (either_wires (width_of numbers)) (λ pair. either_rows (either_at inputs numbers pair))
    (ranged_plan inputs (rank_ranges inputs numbers)) (pair_count (size_of numbers))

-- the ranks, their copies, the values of their sets, and those of each pair's relation
unfoldable pub matching_values : ℕ → List ℕ → List ℕ → List ℕ
matching_values inputs numbers ranks =
    let before = ranged_values ranks (rank_ranges inputs numbers) in
    before ++ joined (λ pair. either_values (either_at inputs numbers pair) before)
    (pair_count (size_of numbers))

-- how many wires it has, and how many rows
abbrev pub wire_count : List ℕ → ℕ
wire_count numbers =
    let size = size_of numbers in
    let width = width_of numbers in
    4 * size * size + 2 * size * size * width + size * (size - 1) * (2 * width + 3)

abbrev pub row_count : List ℕ → ℕ
row_count numbers = let size = size_of numbers in 4 * size * size + 2 * size * (size - 1)
