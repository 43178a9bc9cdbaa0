-- What definitions compute of a shown wire is what it reads.
use Rattle.std.proofs.Common.{◌≡◌, ◌↔◌, ℕ, ◌<◌, Bool, true, false, Result, Ok, Err, refl, arith, rules}
use Rattle.std.proofs.lemmas.Grind.{common_steps}
use Rattle.vk_commit.proofs.Openings.{opens_decides}
use Rattle.vk_commit.specs.declared.place.Place.{Place}
use Rattle.vk_commit.specs.declared.place.Opening.{Opening}
use Rattle.vk_plan.specs.declared.wire.WireKind.{WireKind}
use Rattle.vk_plan.specs.declared.wire.WireKind.TheVariants.{Split, Pair}
use Rattle.vk_plan.specs.Plans.{HasWeight}
use Rattle.vk_wire.specs.declared.wire.WireCom.{WireCom}
use Rattle.vk_wire.specs.declared.wire.Shown.{Shown}
use Rattle.vk_wire.specs.declared.wire.Shown.TheVariants.{Half, Whole, Spent}
use Rattle.vk_wire.specs.declared.wire.WireFault.{WireFault}
use Rattle.vk_wire.specs.declared.wire.WireFault.TheVariants.{Form, Digest, NotASet}
use Rattle.vk_wire.specs.Reads.{Reads, HasFault, IsSet, OpensEntry, entry_read, set_read, whole_read, read_of}

-- one opening
pub entry_half : (place : Place) (digests : WireCom) (second : Bool) (opening : Opening) (h : ℕ)
    → (entry_read place digests second opening ≡ Ok h)
    ↔ (OpensEntry place digests second opening × (opening.value ≡ h))
entry_half place digests second opening h = grind (arith, common_steps, opens_decides)

pub entry_fault : (place : Place) (digests : WireCom) (second : Bool) (opening : Opening)
    (f : WireFault)
    → (entry_read place digests second opening ≡ Err f)
    ↔ ((f ≡ Digest second) × ¬ OpensEntry place digests second opening)
entry_fault place digests second opening f = grind (arith, common_steps, opens_decides)

-- two entries of a pair
pub set_half : (i first second h : ℕ) → i < 61 → (set_read i first second ≡ Ok h)
    ↔ IsSet i first second h
set_half i first second h weight = search rules

pub set_fault : (i first second : ℕ) (f : WireFault) → i < 61
    → (set_read i first second ≡ Err f) ↔ ((f ≡ NotASet) × ((h : ℕ) → ¬ IsSet i first second h))
set_fault i first second f weight = search rules

-- a pair that is opened whole
whole_half : (i : ℕ) (place : Place) (digests : WireCom) (first second : Opening) (h : ℕ) → i < 61
    → (whole_read i place digests first second ≡ Ok h)
    ↔ Reads (Pair i) place digests (Whole first second) false h
whole_half i place digests first second h weight =
    let set = set_half i first.value second.value h weight in
    grind (arith, common_steps, opens_decides)

whole_fault : (i : ℕ) (place : Place) (digests : WireCom) (first second : Opening) (f : WireFault)
    → i < 61
    → (whole_read i place digests first second ≡ Err f)
    ↔ HasFault (Pair i) place digests (Whole first second) false f
whole_fault i place digests first second Form weight =
    let set = set_fault i first.value second.value Form weight in
    grind (arith, common_steps, opens_decides)
whole_fault i place digests first second (Digest false) weight =
    let set = set_fault i first.value second.value (Digest false) weight in
    grind (arith, common_steps, opens_decides)
whole_fault i place digests first second (Digest true) weight =
    let set = set_fault i first.value second.value (Digest true) weight in
    grind (arith, common_steps, opens_decides)
whole_fault i place digests first second NotASet weight =
    let set = set_fault i first.value second.value NotASet weight in
    grind (arith, common_steps, opens_decides)

-- a shown wire of another form
no_half : (h : ℕ) → (let r : Result ℕ WireFault = Err Form in r ≡ Ok h) ↔ ⊥
no_half h = (λ e. absurd (cc), λ e. absurd e)

-- the faults of a split value
split_fault : (place : Place) (digests : WireCom) (opening : Opening) (bit : Bool) (f : WireFault)
    → (entry_read place digests bit opening ≡ Err f)
    ↔ HasFault Split place digests (Half opening) bit f
split_fault place digests opening bit Form = let e = entry_fault place digests bit opening Form in
    grind (arith, common_steps)
split_fault place digests opening bit (Digest second) = let e =
    entry_fault place digests bit opening (Digest second) in grind (arith, common_steps)
split_fault place digests opening bit NotASet = let e =
    entry_fault place digests bit opening NotASet in grind (arith, common_steps)

-- the faults of a spent entry are those of a split value
spent_fault : (i : ℕ) (place : Place) (digests : WireCom) (spent : Bool) (opening : Opening)
    (f : WireFault)
    → (entry_read place digests spent opening ≡ Err f)
    ↔ HasFault (Pair i) place digests (Spent spent opening) true f
spent_fault i place digests spent opening Form = split_fault place digests opening spent Form
spent_fault i place digests spent opening (Digest second) =
    split_fault place digests opening spent (Digest second)
spent_fault i place digests spent opening NotASet = split_fault place digests opening spent NotASet

-- the shown wire reads this: a half, or a fault
abbrev pub IsReading : WireKind → Place → WireCom → Shown → Bool → Result ℕ WireFault → Type 0
IsReading kind place digests shown bit (Ok h) = Reads kind place digests shown bit h
IsReading kind place digests shown bit (Err f) = HasFault kind place digests shown bit f

-- what is computed is what it reads
pub reading_is_computed : (kind : WireKind) (place : Place) (digests : WireCom) (shown : Shown)
    (bit : Bool) (reading : Result ℕ WireFault) → HasWeight kind
    → (read_of kind place digests shown bit ≡ reading)
    ↔ IsReading kind place digests shown bit reading
reading_is_computed Split place digests (Half opening) bit (Ok h) weight =
    entry_half place digests bit opening h
reading_is_computed Split place digests (Half opening) bit (Err f) weight =
    split_fault place digests opening bit f
reading_is_computed (Pair i) place digests (Whole first second) false (Ok h) weight =
    whole_half i place digests first second h weight
reading_is_computed (Pair i) place digests (Whole first second) false (Err f) weight =
    whole_fault i place digests first second f weight
reading_is_computed (Pair i) place digests (Spent second opening) true (Ok h) weight =
    entry_half place digests second opening h
reading_is_computed (Pair i) place digests (Spent second opening) true (Err f) weight =
    spent_fault i place digests second opening f
reading_is_computed kind place digests shown bit (Ok h) weight = no_half h
reading_is_computed kind place digests shown bit (Err Form) weight = (λ _. refl, λ _. refl)
reading_is_computed kind place digests shown bit (Err f) weight =
    (λ e. absurd (cc), λ e. absurd e)

module _ (kind : WireKind) (place : Place) (digests : WireCom) (shown : Shown) (bit : Bool) where
  -- each half is computed as it is read
  pub half_is_computed : (h : ℕ) → HasWeight kind
      → (read_of kind place digests shown bit ≡ Ok h) ↔ Reads kind place digests shown bit h
  half_is_computed h = reading_is_computed kind place digests shown bit (Ok h)

  -- each fault is computed as it is defined
  pub fault_is_computed : (f : WireFault) → HasWeight kind
      → (read_of kind place digests shown bit ≡ Err f) ↔ HasFault kind place digests shown bit f
  fault_is_computed f = reading_is_computed kind place digests shown bit (Err f)
