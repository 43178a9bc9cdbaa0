-- The places other than one, in ascending order.
use Rattle.std.specs.Prelude.{ℕ, ◌+◌, ◌-◌, ◌<◌, ◌≤◌, ◌≡◌, ◌≢◌, if◌then◌else◌, nat_lt}
use Rattle.std.proofs.Common.{ap, ◌∙◌, arith, inl, inr}
use Rattle.std.proofs.lemmas.Bool.{cases_lt, lt-ltb, le-ltb}

-- the k-th of them
abbrev pub other : ℕ → ℕ → ℕ
other place k = if nat_lt k place then k else k + 1

pub other_before : (place k : ℕ) → k < place → other place k ≡ k
other_before place k h = ap (λ b. if b then k else k + 1) (lt-ltb k place h)

pub other_after : (place k : ℕ) → place ≤ k → other place k ≡ k + 1
other_after place k h = ap (λ b. if b then k else k + 1) (le-ltb k place h)

-- of so many places, each is one
pub other_within : (count place k : ℕ) → place < count → k < count - 1 → other place k < count
other_within count place k p h = elim (cases_lt k place) [
  | inl q ↦ omega (arith, other_before place k q)
  | inr q ↦ omega (arith, other_after place k q)
]

pub other_not : (place k : ℕ) → other place k ≢ place
other_not place k e = elim (cases_lt k place) [
  | inl q ↦ omega (arith, other_before place k q)
  | inr q ↦ omega (arith, other_after place k q)
]

-- each place but that one is among them
pub other_of : (count place another : ℕ) → another < count → place < count → another ≢ place
    → (k : ℕ) × (k < count - 1) × (other place k ≡ another)
other_of count place another h p ne = elim (cases_lt another place) [
  | inl q ↦ (another, omega arith, other_before place another q)
  | inr q ↦ (
    another - 1,
    omega (arith, ne),
    other_after place (another - 1) (omega (arith, ne))
        ∙ omega (arith, ne),
  )
]

pub other_index : (place k another : ℕ) → other place k ≡ another → another < place → k < place
other_index place k another e before = elim (cases_lt k place) [
  | inl q ↦ q
  | inr q ↦ omega (arith, other_after place k q)
]
