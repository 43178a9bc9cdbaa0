-- One wire with its tape moved.
use Rattle.std.proofs.Common.{◌≡◌, ◌⊎◌, ℕ, ◌^◌, ◌<◌, ◌≤◌, Bool, true, false, List, refl, sym, ap, ◌∙◌, arith, inl, inr, if◌then◌else◌}
use Rattle.std.specs.Prelude.{not, ◌==◌}
use Rattle.std.proofs.Math.Pow.{pow_mono}
use Rattle.std.proofs.lemmas.Bool.{eq-eqb, ne_eqb}
use Rattle.std.proofs.lemmas.Bool.Decides.{nat_tests}
use Rattle.vk_residue.specs.Residue.{IsResidue, modulus, sum, difference, negative}
use Rattle.vk_plan.specs.Plans.{MayHave}
use Rattle.vk_plan.specs.declared.wire.WireKind.{WireKind}
use Rattle.vk_plan.specs.declared.wire.WireKind.TheVariants.{Split, Pair}
use Rattle.vk_commit.specs.declared.place.Opening.{Opening}
use Rattle.vk_wire.specs.Made.{first_opening, second_opening, shown_wire}
use Rattle.vk_wire.specs.Values.{IsTape}
use Rattle.vk_wire.specs.declared.wire.WireTape.{WireTape}
use Rattle.vk_wire.specs.declared.wire.Shown.{Shown}
use Rattle.vk_wire.specs.declared.wire.Shown.TheVariants.{Half, Spent}
use Rattle.vk_views.specs.Moved.{is_turned, moved_wire}
use Rattle.vk_views.specs.Laws.{OfWires, ShowsTheSame, WireComesBack}

-- ---- masks

-- the other value less the moved mask is the value less the mask
other_less_moved : (value other mask : ℕ) → IsResidue value → IsResidue other → IsResidue mask
    → difference other (sum mask (difference other value)) ≡ difference value mask
other_less_moved value other mask small small_other small_mask = omega arith

mask_comes_back : (value other mask : ℕ) → IsResidue value → IsResidue other → IsResidue mask
    → sum (sum mask (difference other value)) (difference value other) ≡ mask
mask_comes_back value other mask small small_other small_mask = omega arith

-- ---- the entry of a pair that is spent

-- whether it is the second: as the swap says where the value is 0, else the other one
abbrev spends : ℕ → Bool → Bool
spends value swap = if value == 0 then swap else not swap

-- the entry that is spent is that number, and if it is the first, the second isn't
abbrev IsSpent : ℕ → ℕ → ℕ → Bool → Type 0
IsSpent first second number true = second ≡ number
IsSpent first second number false = (first ≡ number) × ¬ (second ≡ number)

abbrev spent_of : Bool → List ℕ → List ℕ → ℕ → Shown
spent_of is_second first_key second_key number =
    Spent is_second (record { key = if is_second then second_key else first_key; value = number })

-- of two entries the second is shown where it is the number, else the first
chosen : (first second : Opening) (number : ℕ) (is_second : Bool)
    → IsSpent first.value second.value number is_second
    → (if second.value == number then Spent true second else Spent false first)
    ≡ spent_of is_second first.key second.key number
chosen first second number true is =
    let test : (second.value == number) ≡ true = eq-eqb second.value number is in
    rw test (ap (λ v. Spent true (record { key = second.key; value = v })) is)
chosen first second number false is =
    let test : (second.value == number) ≡ false = ne_eqb second.value number is.1 in
    rw test (ap (λ v. Spent false (record { key = first.key; value = v })) is.0)

-- -mask and w - mask differ
entries_differ : (w mask : ℕ) → 1 ≤ w → w < modulus → IsResidue mask
    → ¬ (difference w mask ≡ negative mask)
entries_differ w mask some small small_mask same = absurd (omega (arith, same))

zero_less : (mask : ℕ) → negative mask ≡ difference 0 mask
zero_less mask = omega arith

-- of the entries of a pair of weight w
spent_entry : (w value mask : ℕ) (swap : Bool) → 1 ≤ w → w < modulus → IsResidue mask
    → (value ≡ 0) ⊎ (value ≡ w)
    → IsSpent (if swap then difference w mask else negative mask)
    (if swap then negative mask else difference w mask) (difference value mask) (spends value swap)
spent_entry w value mask true some small small_mask (inl none) = rw none (zero_less mask)
spent_entry w value mask false some small small_mask (inl none) =
    rw none (
      zero_less mask,
      rw (sym (zero_less mask))
          (entries_differ w mask some small small_mask),
    )
spent_entry w value mask true some small small_mask (inr whole) =
    let test : (w == 0) ≡ false = ne_eqb w 0 (λ z. absurd (omega (arith, z))) in
    rw (whole, test) (refl, λ same. entries_differ w mask some small small_mask (sym same))
spent_entry w value mask false some small small_mask (inr whole) =
    let test : (w == 0) ≡ false = ne_eqb w 0 (λ z. absurd (omega (arith, z))) in
    rw (whole, test) refl

-- a weight is neither 0 nor the modulus
some_weight : (i : ℕ) → 1 ≤ 2 ^ i
some_weight i = pow_mono {i = 0} {j = i} (omega arith)

small_weight : (i : ℕ) → i < 61 → 2 ^ i < modulus
small_weight i lt = let most : 2 ^ i ≤ 2 ^ 60 = pow_mono {i = i} {j = 60} (omega arith) in
    omega arith

-- what a pair shows for bit 1
pair_shows : (i value : ℕ) (tape : WireTape) → i < 61 → MayHave (Pair i) value → IsResidue tape.mask
    → shown_wire (Pair i) value tape true
    ≡ spent_of (spends value tape.swap) tape.first_key tape.second_key (difference value tape.mask)
pair_shows i value tape weight may small =
    chosen (first_opening (Pair i) value tape) (second_opening (Pair i) value tape)
    (difference value tape.mask) (spends value tape.swap)
    (spent_entry (2 ^ i) value tape.mask tape.swap (some_weight i) (small_weight i weight) small
    may)

-- ---- the swap of a pair whose value stays, and of one whose value changes

same_spent : (w value other : ℕ) (swap : Bool) → 1 ≤ w → (value ≡ 0) ⊎ (value ≡ w)
    → (other ≡ 0) ⊎ (other ≡ w)
    → spends other (if not (value == other) then not swap else swap) ≡ spends value swap
same_spent w value other swap some (inl none) (inl none_other) = rw (none, none_other) refl
same_spent w value other swap some (inr whole) (inr whole_other) =
    let same : (w == w) ≡ true = eq-eqb w w refl in
    rw (whole, whole_other, same) refl
same_spent w value other true some (inl none) (inr whole) =
    let test : (w == 0) ≡ false = ne_eqb w 0 (λ z. absurd (omega (arith, z))) in
    let differ : (0 == w) ≡ false = ne_eqb 0 w (λ z. absurd (omega (arith, z))) in
    rw (none, whole, differ, test) refl
same_spent w value other false some (inl none) (inr whole) =
    let test : (w == 0) ≡ false = ne_eqb w 0 (λ z. absurd (omega (arith, z))) in
    let differ : (0 == w) ≡ false = ne_eqb 0 w (λ z. absurd (omega (arith, z))) in
    rw (none, whole, differ, test) refl
same_spent w value other swap some (inr whole) (inl none) =
    let test : (w == 0) ≡ false = ne_eqb w 0 (λ z. absurd (omega (arith, z))) in
    rw (whole, none, test) refl

-- turned twice it is as before
once_more : (turned swap : Bool)
    → (if turned then not (if turned then not swap else swap)
    else (if turned then not swap else swap)) ≡ swap
once_more true true = refl
once_more true false = refl
once_more false swap = refl

turned_twice : (first second swap : Bool) → second ≡ first
    → (if second then not (if first then not swap else swap)
    else (if first then not swap else swap)) ≡ swap
turned_twice first second swap same = rw same (once_more first swap)

-- ---- the laws

pub shows_the_same : OfWires ShowsTheSame
shows_the_same Split value other false tape weight may may_other small small_other is = refl
shows_the_same (Pair i) value other false tape weight may may_other small small_other is = refl
shows_the_same Split value other true tape weight may may_other small small_other is =
    ap (λ v. Half (record { key = tape.second_key; value = v }))
    (other_less_moved value other tape.mask small small_other is.mask)
shows_the_same (Pair i) value other true tape weight may may_other small small_other is =
    let moved = moved_wire (Pair i) value other true tape in
    pair_shows i other moved weight may_other (omega arith)
    ∙ ap (λ s. spent_of s tape.first_key tape.second_key (difference other moved.mask))
    (same_spent (2 ^ i) value other tape.swap (some_weight i) may may_other)
    ∙ ap (spent_of (spends value tape.swap) tape.first_key tape.second_key)
    (other_less_moved value other tape.mask small small_other is.mask)
    ∙ sym (pair_shows i value tape weight may is.mask)

-- the values exchanged turn the same wires
equal_turned : (a b : ℕ) → (a == b) ≡ (b == a)
equal_turned a b = grind (arith, nat_tests)

turned_alike : (kind : WireKind) (value other : ℕ)
    → is_turned kind other value ≡ is_turned kind value other
turned_alike Split value other = refl
turned_alike (Pair i) value other = ap not (equal_turned other value)

pub wire_comes_back : OfWires WireComesBack
wire_comes_back kind value other false tape weight may may_other small small_other is = refl
wire_comes_back kind value other true tape weight may may_other small small_other is =
    let swap = turned_twice (is_turned kind value other) (is_turned kind other value) tape.swap
    (turned_alike kind value other) in
    let mask = mask_comes_back value other tape.mask small small_other is.mask in
    let tape_with : ℕ → Bool → WireTape =
    λ m s. record {
      mask = m;
      swap = s;
      first_key = tape.first_key;
      second_key = tape.second_key;
    } in
    ap (λ m. tape_with m (moved_wire kind other value true
    (moved_wire kind value other true tape)).swap) mask ∙ ap (tape_with tape.mask) swap

-- a moved tape is one
pub moved_is_tape : (kind : WireKind) (value other : ℕ) (bit : Bool) (tape : WireTape) → IsTape tape
    → IsTape (moved_wire kind value other bit tape)
moved_is_tape kind value other false tape is = is
moved_is_tape kind value other true tape is =
    record { mask = omega arith; first_key = is.first_key; second_key = is.second_key }
