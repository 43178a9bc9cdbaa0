-- Marriages of so many men and as many women: which of them no pair would rather leave. Persons
-- count from 1, and of two ranks the less is the better.
use Rattle.std.specs.Prelude.{ℕ, ◌+◌, ◌-◌, ◌*◌, ◌<◌, ◌≤◌, ◌≡◌, ◌≢◌, List, All, AllPairs, length, slice_index}

-- one of so many men, or of as many women
pub record IsPerson (size person : ℕ) : Type 0 where
  pub some : 1 ≤ person
  pub within : person ≤ size

-- where a man's rank of a woman stands: those of the first man first
abbrev pub his_place : ℕ → ℕ → ℕ → ℕ
his_place size man woman = (man - 1) * size + (woman - 1)

-- where a woman's rank of a man stands: behind all men's, those of the first woman first
abbrev pub her_place : ℕ → ℕ → ℕ → ℕ
her_place size woman man = size * size + (woman - 1) * size + (man - 1)

abbrev pub his_rank : ℕ → List ℕ → ℕ → ℕ → ℕ
his_rank size ranks man woman = slice_index ranks (his_place size man woman)

abbrev pub her_rank : ℕ → List ℕ → ℕ → ℕ → ℕ
her_rank size ranks woman man = slice_index ranks (her_place size woman man)

-- the woman that a man is matched with
abbrev pub wife_of : List ℕ → ℕ → ℕ
wife_of matching man = slice_index matching (man - 1)

-- each man is matched with a woman of his own
pub record IsPermutation (size : ℕ) (matching : List ℕ) : Type 0 where
  pub one_each : length matching ≡ size
  pub are_persons : All (IsPerson size) matching
  pub all_different : AllPairs (λ earlier later. earlier ≢ later) matching

-- a man and a woman who each rank the other better than whom they are matched with
pub record IsBlocking (size : ℕ) (ranks matching : List ℕ) (man woman : ℕ) : Type 0 where
  pub is_man : IsPerson size man
  pub is_woman : IsPerson size woman
  pub husband : ℕ
  pub is_husband : IsPerson size husband
  pub is_hers : wife_of matching husband ≡ woman
  pub he_prefers : his_rank size ranks man woman < his_rank size ranks man (wife_of matching man)
  pub she_prefers : her_rank size ranks woman man < her_rank size ranks woman husband

-- no pair blocks the matching
abbrev pub IsStable : ℕ → List ℕ → List ℕ → Type 0
IsStable size ranks matching = (man woman : ℕ) → ¬ IsBlocking size ranks matching man woman
