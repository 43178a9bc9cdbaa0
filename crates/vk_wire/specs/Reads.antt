-- What a shown wire reads, and why it reads nothing.
use Rattle.std.specs.Prelude.{◌≡◌, ◌⊎◌, ℕ, ◌^◌, Bool, true, false, ◌==◌, ◌&&◌, if◌then◌else◌, List, Result, Ok, Err}
use Rattle.vk_residue.specs.Residue.{IsResidue, difference, negative}
use Rattle.vk_commit.specs.Commitment.{Opens, opens_test}
use Rattle.vk_commit.specs.declared.place.Place.{Place}
use Rattle.vk_commit.specs.declared.place.Opening.{Opening}
use Rattle.vk_plan.specs.declared.wire.WireKind.{WireKind}
use Rattle.vk_plan.specs.declared.wire.WireKind.TheVariants.{Split, Pair}
use Rattle.vk_wire.specs.declared.wire.WireCom.{WireCom}
use Rattle.vk_wire.specs.declared.wire.Shown.{Shown}
use Rattle.vk_wire.specs.declared.wire.Shown.TheVariants.{Half, Whole, Spent}
use Rattle.vk_wire.specs.declared.wire.WireFault.{WireFault}
use Rattle.vk_wire.specs.declared.wire.WireFault.TheVariants.{Form, Digest, NotASet}
use Rattle.vk_wire.specs.Places.{entry_place}

-- the digest of the entry that the bit names
abbrev pub entry_digest : WireCom → Bool → List ℕ
entry_digest digests false = digests.first
entry_digest digests true = digests.second

-- the opening opens the wire's first or second digest
abbrev pub OpensEntry : Place → WireCom → Bool → Opening → Type 0
OpensEntry place digests second opening =
    Opens (entry_place place second) (entry_digest digests second) opening

-- the entries of a pair of weight 2^i with the mask h: -h and 2^i - h, in either order
abbrev pub IsSet : ℕ → ℕ → ℕ → ℕ → Type 0
IsSet i first second h =
    IsResidue h × (((first ≡ negative h) × (second ≡ difference (2 ^ i) h))
    ⊎ ((first ≡ difference (2 ^ i) h) × (second ≡ negative h)))

-- the shown wire gives the half h for the bit
abbrev pub Reads : WireKind → Place → WireCom → Shown → Bool → ℕ → Type 0
Reads Split place digests (Half opening) bit h = OpensEntry place digests bit opening
    × (opening.value ≡ h)
Reads (Pair i) place digests (Whole first second) false h =
    OpensEntry place digests false first × OpensEntry place digests true second
    × IsSet i first.value second.value h
Reads (Pair i) place digests (Spent second opening) true h =
    OpensEntry place digests second opening × (opening.value ≡ h)
Reads _ _ _ _ _ _ = ⊥

-- the shown wire is of the form for its kind and bit
abbrev pub has_form : WireKind → Shown → Bool → Bool
has_form Split (Half _) _ = true
has_form (Pair _) (Whole _ _) false = true
has_form (Pair _) (Spent _ _) true = true
has_form _ _ _ = false

-- the shown wire has the fault, and none that comes before it in the order form, first digest,
-- second digest, set
abbrev pub HasFault : WireKind → Place → WireCom → Shown → Bool → WireFault → Type 0
HasFault kind place digests shown bit Form = has_form kind shown bit ≡ false
HasFault Split place digests (Half opening) bit (Digest second) = (second ≡ bit)
    × ¬ OpensEntry place digests bit opening
HasFault (Pair i) place digests (Whole first second) false (Digest false) =
    ¬ OpensEntry place digests false first
HasFault (Pair i) place digests (Whole first second) false (Digest true) =
    OpensEntry place digests false first × ¬ OpensEntry place digests true second
HasFault (Pair i) place digests (Whole first second) false NotASet =
    OpensEntry place digests false first × OpensEntry place digests true second
    × ((h : ℕ) → ¬ IsSet i first.value second.value h)
HasFault (Pair i) place digests (Spent spent opening) true (Digest second) =
    (second ≡ spent) × ¬ OpensEntry place digests spent opening
HasFault _ _ _ _ _ _ = ⊥

-- the value of an opening that opens the wire's first or second digest
abbrev pub entry_read : Place → WireCom → Bool → Opening → Result ℕ WireFault
entry_read place digests second opening =
    if opens_test (entry_place place second) (entry_digest digests second) opening
    then Ok opening.value else Err (Digest second)

-- the two entries are -h and 2^i - h, in this order
abbrev pub is_set : ℕ → ℕ → ℕ → ℕ → Bool
is_set i without with h = (without == negative h) && (with == difference (2 ^ i) h)

-- the half of a pair of weight 2^i with these entries
abbrev pub set_read : ℕ → ℕ → ℕ → Result ℕ WireFault
set_read i first second =
    if is_set i first second (negative first)
    then Ok (negative first)
    else (if is_set i second first (negative second) then Ok (negative second) else Err NotASet)

-- the half of a pair that is opened whole
abbrev pub whole_read : ℕ → Place → WireCom → Opening → Opening → Result ℕ WireFault
whole_read i place digests first second =
    if opens_test place digests.first first
    then (if opens_test (entry_place place true) digests.second second
    then set_read i first.value second.value else Err (Digest true))
    else Err (Digest false)

-- the half, or the first fault, as definitions compute it
abbrev pub read_of : WireKind → Place → WireCom → Shown → Bool → Result ℕ WireFault
read_of Split place digests (Half opening) bit = entry_read place digests bit opening
read_of (Pair i) place digests (Whole first second) false = whole_read i place digests first second
read_of (Pair i) place digests (Spent second opening) true = entry_read place digests second opening
read_of _ _ _ _ _ = Err Form
