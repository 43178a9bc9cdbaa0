-- What the two halves of one wire come to.
use Rattle.std.proofs.Common.{◌≡◌, ℕ, ◌<◌, ◌≤◌, ◌^◌, ◌⊎◌, eq-eqb, Bool, true, false, arith, inl, inr}
use Rattle.std.specs.Prelude.{if◌then◌else◌, ◌==◌}
use Rattle.std.proofs.lemmas.Bool.Decides.{nat_tests}
use Rattle.std.proofs.Math.Nat.{pow-le-pow_right}
use Rattle.std.proofs.lemmas.Nat.{pow_pos}
use Rattle.vk_residue.specs.Residue.{modulus, sum, difference, negative}
use Rattle.vk_commit.specs.declared.place.Place.{Place}
use Rattle.vk_commit.specs.declared.place.Opening.{Opening}
use Rattle.vk_plan.specs.declared.wire.WireKind.{WireKind}
use Rattle.vk_plan.specs.declared.wire.WireKind.TheVariants.{Split, Pair}
use Rattle.vk_plan.specs.Plans.{HasWeight, MayHave}
use Rattle.vk_wire.specs.Reads.{Reads, OpensEntry}
use Rattle.vk_wire.specs.declared.wire.WireCom.{WireCom}
use Rattle.vk_wire.specs.declared.wire.Shown.{Shown}
use Rattle.vk_wire.specs.declared.wire.Shown.TheVariants.{Half, Whole, Spent}
use Rattle.vk_extractor.specs.Clash.{entry_opening}
use Rattle.vk_extractor.specs.FirstClash.{Agree}
use Rattle.vk_extractor.specs.Values.{wire_value}

-- a weight is at most 2^60
weight_bound : (i : ℕ) → i < 61 → 2 ^ i ≤ 1152921504606846976
weight_bound i lt = pow-le-pow_right {n = 2} (omega arith) {i = i} {j = 60} (omega arith)

-- the spent entry less the lower one is the sum of the halves
pair_sum : (p a b g h : ℕ) → 1 ≤ p → p ≤ 1152921504606846976 → g < modulus
    → ((a ≡ negative g) × (b ≡ difference p g)) ⊎ ((a ≡ difference p g) × (b ≡ negative g))
    → (if difference b a == p then difference h a else difference h b) ≡ sum g h
pair_sum p a b g h some most small (inl e) =
    let rises : difference b a ≡ p = omega (arith, e.0, e.1) in
    let test = eq-eqb (difference b a) p rises in
    rw test (omega (arith, e.0))
pair_sum p a b g h some most small (inr e) = grind (arith, nat_tests)

-- the computed value of a wire is the sum of the halves that it reads
pub wire_value_is_sum : (kind : WireKind) (place : Place) (digests : WireCom) (zero one : Shown)
    (g h : ℕ) → HasWeight kind
    → Reads kind place digests zero false g → Reads kind place digests one true h
    → wire_value kind zero one ≡ sum g h
wire_value_is_sum Split place digests (Half u) (Half v) g h weight first second = let e = first.1 in
    let f = second.1 in cc
wire_value_is_sum Split place digests (Half u) one g h weight first second = absurd second
wire_value_is_sum Split place digests zero one g h weight first second = absurd first
wire_value_is_sum (Pair i) place digests (Whole a b) (Spent s o) g h weight first second =
    rw second.1 (pair_sum (2 ^ i) a.value b.value g h (omega (arith, pow_pos i))
    (weight_bound i weight) first.2.0 first.2.1)
wire_value_is_sum (Pair i) place digests (Whole a b) one g h weight first second = absurd second
wire_value_is_sum (Pair i) place digests zero one g h weight first second = absurd first

-- an entry with the mask g and the mask come to 0 or to the weight
entry_sum : (p a b g h : ℕ) → 1 ≤ p → p ≤ 1152921504606846976 → g < modulus
    → ((a ≡ negative g) × (b ≡ difference p g)) ⊎ ((a ≡ difference p g) × (b ≡ negative g))
    → (a ≡ h) ⊎ (b ≡ h) → (sum g h ≡ 0) ⊎ (sum g h ≡ p)
entry_sum p a b g h some most small (inl e) (inl s) = inl (omega (arith, e.0, s))
entry_sum p a b g h some most small (inl e) (inr s) = inr (omega (arith, e.1, s))
entry_sum p a b g h some most small (inr e) (inl s) = inr (omega (arith, e.0, s))
entry_sum p a b g h some most small (inr e) (inr s) = inl (omega (arith, e.1, s))

-- where the spent entry agrees it has the value of one of the two
spent_is_entry : (a b : Opening) (s : Bool) (o : Opening) → Agree (Whole a b) (Spent s o)
    → (a.value ≡ o.value) ⊎ (b.value ≡ o.value)
spent_is_entry a b false o same = inl same
spent_is_entry a b true o same = inr same

-- the sum of the halves of a wire is a value that its kind may have
pub sum_is_fair : (kind : WireKind) (place : Place) (digests : WireCom) (zero one : Shown) (g h : ℕ)
    → HasWeight kind
    → Reads kind place digests zero false g → Reads kind place digests one true h → Agree zero one
    → MayHave kind (sum g h)
sum_is_fair Split place digests zero one g h weight first second same = tt
sum_is_fair (Pair i) place digests (Whole a b) (Spent s o) g h weight first second same =
    entry_sum (2 ^ i) a.value b.value g h (omega (arith, pow_pos i)) (weight_bound i weight)
    first.2.0 first.2.1
    (rw second.1 at (spent_is_entry a b s o same))
sum_is_fair (Pair i) place digests (Whole a b) one g h weight first second same = absurd second
sum_is_fair (Pair i) place digests zero one g h weight first second same = absurd first

-- of an accepted pair both openings of the spent entry open it
pub entry_opens : (kind : WireKind) (place : Place) (digests : WireCom) (a b : Opening) (s : Bool)
    (o : Opening) (g h : ℕ)
    → Reads kind place digests (Whole a b) false g → Reads kind place digests (Spent s o) true h
    → OpensEntry place digests s (entry_opening s a b) × OpensEntry place digests s o
entry_opens Split place digests a b s o g h first second = absurd first
entry_opens (Pair i) place digests a b false o g h first second = (first.0, second.0)
entry_opens (Pair i) place digests a b true o g h first second = (first.1, second.0)
