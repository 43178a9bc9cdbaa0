-- The computed halves of wires are those that they give, and a computed fault is the first.
use Rattle.std.proofs.Common.{◌≡◌, ℕ, zero, suc, ◌+◌, ◌<◌, ◌⊎◌, Bool, List, [], ◌∷◌, ◌++◌, length, slice_index, slice_index_or, All, Result, Ok, Err, refl, ap, ◌∙◌, arith, inl, inr, add-zero, append_assoc}
use Rattle.std.proofs.lemmas.List.{append-nil, length_push, nil_from_length}
use Rattle.std.proofs.lemmas.List.Elements.{All-head, All-tail}
use Rattle.vk_residue.specs.Steps.{◌>>=◌}
use Rattle.vk_plan.specs.Plans.{HasWeight}
use Rattle.vk_plan.specs.declared.wire.WireKind.{WireKind}
use Rattle.vk_plan.specs.declared.wire.WireKind.TheVariants.{Split}
use Rattle.vk_wire.specs.Reads.{Reads, HasFault}
use Rattle.vk_wire.specs.declared.wire.WireCom.{WireCom}
use Rattle.vk_wire.specs.declared.wire.Shown.{Shown}
use Rattle.vk_wire.specs.declared.wire.WireFault.{WireFault}
use Rattle.vk_wire.proofs.Readings.{half_is_computed, fault_is_computed}
use Rattle.vk_row.specs.declared.case.LaneCase.{LaneCase}
use Rattle.vk_row.specs.declared.case.LaneFault.{LaneFault}
use Rattle.vk_row.specs.declared.case.LaneFault.TheVariants.{Wire}
use Rattle.vk_row.specs.Lanes.{place_in, no_digests, nothing_shown}
use Rattle.vk_row.specs.LaneTests.{at_wire, halves_from}

-- the wires of the lists give these halves, where the first of them has that number
pub record Give (case : LaneCase) (bit : Bool) (start : ℕ) (kinds : List WireKind)
    (coms : List WireCom) (shown : List Shown) (back : List ℕ) : Type 0 where
  pub one_each : length back ≡ length kinds
  pub each : (k : ℕ) → k < length kinds
      → Reads (slice_index_or kinds k Split) (place_in case (start + k))
      (slice_index_or coms k no_digests) (slice_index_or shown k nothing_shown) bit
      (slice_index back k)

-- the wire at that place in the lists is the first with a fault
pub record Fails (case : LaneCase) (bit : Bool) (start : ℕ) (kinds : List WireKind)
    (coms : List WireCom) (shown : List Shown) (wire : ℕ) (fault : WireFault) : Type 0 where
  pub within : wire < length kinds
  pub before : (k : ℕ) → k < wire
      → (h : ℕ) × Reads (slice_index_or kinds k Split) (place_in case (start + k))
      (slice_index_or coms k no_digests) (slice_index_or shown k nothing_shown) bit h
  pub faulty : HasFault (slice_index_or kinds wire Split) (place_in case (start + wire))
      (slice_index_or coms wire no_digests) (slice_index_or shown wire nothing_shown) bit fault

-- one wire before them
each_cons : (case : LaneCase) (bit : Bool) (start : ℕ) (kind : WireKind) (kinds : List WireKind)
    (digests : WireCom) (coms : List WireCom) (s : Shown) (shown : List Shown) (h : ℕ)
    (back : List ℕ)
    → Reads kind (place_in case start) digests s bit h
    → Give case bit (start + 1) kinds coms shown back
    → (k : ℕ) → k < length (kind ∷ kinds)
    → Reads (slice_index_or (kind ∷ kinds) k Split) (place_in case (start + k))
    (slice_index_or (digests ∷ coms) k no_digests) (slice_index_or (s ∷ shown) k nothing_shown) bit
    (slice_index (h ∷ back) k)
each_cons case bit start kind kinds digests coms s shown h back here rest zero lt = rw add-zero here
each_cons case bit start kind kinds digests coms s shown h back here rest (suc k) lt =
    let e : start + suc k ≡ start + 1 + k = omega arith in rw e (rest.each k (omega arith))

give_cons : (case : LaneCase) (bit : Bool) (start : ℕ) (kind : WireKind) (kinds : List WireKind)
    (digests : WireCom) (coms : List WireCom) (s : Shown) (shown : List Shown) (h : ℕ)
    (back : List ℕ)
    → Reads kind (place_in case start) digests s bit h
    → Give case bit (start + 1) kinds coms shown back
    → Give case bit start (kind ∷ kinds) (digests ∷ coms) (s ∷ shown) (h ∷ back)
give_cons case bit start kind kinds digests coms s shown h back here rest = record {
  one_each = omega (arith, rest.one_each);
  each = each_cons case bit start kind kinds digests coms s shown h back here rest;
}

give_tail : (case : LaneCase) (bit : Bool) (start : ℕ) (kind : WireKind) (kinds : List WireKind)
    (digests : WireCom) (coms : List WireCom) (s : Shown) (shown : List Shown) (h : ℕ)
    (back : List ℕ)
    → Give case bit start (kind ∷ kinds) (digests ∷ coms) (s ∷ shown) (h ∷ back)
    → Give case bit (start + 1) kinds coms shown back
give_tail case bit start kind kinds digests coms s shown h back all = record {
  one_each = omega (arith, all.one_each);
  each = λ k lt. let e : start + 1 + k ≡ start + suc k = omega arith in
      rw e (all.each (suc k) (omega arith));
}

fails_head : (case : LaneCase) (bit : Bool) (start : ℕ) (kind : WireKind) (kinds : List WireKind)
    (digests : WireCom) (coms : List WireCom) (s : Shown) (shown : List Shown) (fault : WireFault)
    → HasFault kind (place_in case start) digests s bit fault
    → Fails case bit start (kind ∷ kinds) (digests ∷ coms) (s ∷ shown) zero fault
fails_head case bit start kind kinds digests coms s shown fault here = record {
  within = omega arith;
  before = λ k lt. absurd (omega arith);
  faulty = rw add-zero here;
}

before_cons : (case : LaneCase) (bit : Bool) (start : ℕ) (kind : WireKind) (kinds : List WireKind)
    (digests : WireCom) (coms : List WireCom) (s : Shown) (shown : List Shown) (h wire : ℕ)
    (fault : WireFault)
    → Reads kind (place_in case start) digests s bit h
    → Fails case bit (start + 1) kinds coms shown wire fault
    → (k : ℕ) → k < suc wire → (g : ℕ)
    × Reads (slice_index_or (kind ∷ kinds) k Split) (place_in case (start + k))
    (slice_index_or (digests ∷ coms) k no_digests) (slice_index_or (s ∷ shown) k nothing_shown) bit
    g
before_cons case bit start kind kinds digests coms s shown h wire fault here rest zero lt =
    (h, rw add-zero here)
before_cons case bit start kind kinds digests coms s shown h wire fault here rest (suc k) lt =
    let e : start + suc k ≡ start + 1 + k = omega arith in
    let g = rest.before k (omega arith) in
    (g.0, rw e g.1)

fails_cons : (case : LaneCase) (bit : Bool) (start : ℕ) (kind : WireKind) (kinds : List WireKind)
    (digests : WireCom) (coms : List WireCom) (s : Shown) (shown : List Shown) (h wire : ℕ)
    (fault : WireFault)
    → Reads kind (place_in case start) digests s bit h
    → Fails case bit (start + 1) kinds coms shown wire fault
    → Fails case bit start (kind ∷ kinds) (digests ∷ coms) (s ∷ shown) (suc wire) fault
fails_cons case bit start kind kinds digests coms s shown h wire fault here rest = record {
  within = omega (arith, rest.within);
  before = before_cons case bit start kind kinds digests coms s shown h wire fault here rest;
  faulty = let e : start + suc wire ≡ start + 1 + wire = omega arith in rw e rest.faulty;
}

fails_tail : (case : LaneCase) (bit : Bool) (start : ℕ) (kind : WireKind) (kinds : List WireKind)
    (digests : WireCom) (coms : List WireCom) (s : Shown) (shown : List Shown) (wire : ℕ)
    (fault : WireFault)
    → Fails case bit start (kind ∷ kinds) (digests ∷ coms) (s ∷ shown) (suc wire) fault
    → Fails case bit (start + 1) kinds coms shown wire fault
fails_tail case bit start kind kinds digests coms s shown wire fault all = record {
  within = omega (arith, all.within);
  before = λ k lt. let e : start + 1 + k ≡ start + suc k = omega arith in
      let g = all.before (suc k) (omega arith) in (g.0, rw e g.1);
  faulty = let e : start + 1 + wire ≡ start + suc wire = omega arith in rw e all.faulty;
}

-- one step of the computation
step_ok : (r : Result ℕ WireFault) (f : ℕ → Result (List ℕ) LaneFault) (n : ℕ) (all : List ℕ)
    → (at_wire n r >>= f) ≡ Ok all → (h : ℕ) × ((r ≡ Ok h) × (f h ≡ Ok all))
step_ok (Ok h) f n all e = (h, (refl, e))
step_ok (Err fault) f n all e = absurd (cc)

step_err : (r : Result ℕ WireFault) (f : ℕ → Result (List ℕ) LaneFault) (n : ℕ) (fault : LaneFault)
    → (at_wire n r >>= f) ≡ Err fault
    → ((w : WireFault) × ((r ≡ Err w) × (fault ≡ Wire n w)))
    ⊎ ((h : ℕ) × ((r ≡ Ok h) × (f h ≡ Err fault)))
step_err (Ok h) f n fault e = inr (h, (refl, e))
step_err (Err w) f n fault e = inl (w, (refl, cc))

step_half : (r : Result ℕ WireFault) (f : ℕ → Result (List ℕ) LaneFault) (n h : ℕ) → r ≡ Ok h
    → (at_wire n r >>= f) ≡ f h
step_half r f n h e = rw e

step_fault : (r : Result ℕ WireFault) (f : ℕ → Result (List ℕ) LaneFault) (n : ℕ) (w : WireFault)
    → r ≡ Err w → (at_wire n r >>= f) ≡ Err (Wire n w)
step_fault r f n w e = rw e

-- computed halves are given
pub halves_given : (case : LaneCase) (bit : Bool) (kinds : List WireKind) (coms : List WireCom)
    (shown : List Shown) (front all : List ℕ)
    → length coms ≡ length kinds → length shown ≡ length kinds → All HasWeight kinds
    → halves_from case bit front kinds coms shown ≡ Ok all
    → (back : List ℕ) × ((all ≡ front ++ back) × Give case bit (length front) kinds coms shown back)
unfolding halves_from
halves_given case bit [] coms shown front all same_coms same_shown weights e =
    let nothing = append-nil front in
    ([], (cc, record { one_each = refl; each = λ k lt. absurd (omega arith) }))
halves_given case bit (kind ∷ kinds) (digests ∷ coms) (s ∷ shown) front all same_coms same_shown
    weights e =
    let step = step_ok _ (λ half. halves_from case bit (front ++ half ∷ []) kinds coms shown)
    (length front) all e in
    let h = step.0 in
    let here = (half_is_computed kind (place_in case (length front)) digests s bit h
    (All-head HasWeight kind kinds weights)).0 step.1.0 in
    let later = halves_given case bit kinds coms shown (front ++ h ∷ []) all (omega arith)
    (omega arith) (All-tail HasWeight kind kinds weights) step.1.1 in
    let longer = length_push front h in (
      h ∷ later.0,
      (
        later.1.0 ∙ append_assoc front (h ∷ []) later.0,
        give_cons case bit (length front) kind kinds digests coms s shown h later.0 here
            (rw longer at later.1.1),
      ),
    )
halves_given case bit (kind ∷ kinds) coms shown front all same_coms same_shown weights e =
    absurd (omega arith)

-- given halves are computed
pub halves_computed : (case : LaneCase) (bit : Bool) (kinds : List WireKind) (coms : List WireCom)
    (shown : List Shown) (front back : List ℕ)
    → length coms ≡ length kinds → length shown ≡ length kinds → All HasWeight kinds
    → Give case bit (length front) kinds coms shown back
    → halves_from case bit front kinds coms shown ≡ Ok (front ++ back)
unfolding halves_from
halves_computed case bit [] coms shown front back same_coms same_shown weights given =
    let none = nil_from_length back given.one_each in
    let nothing = append-nil front in
    rw (none, nothing)
halves_computed case bit (kind ∷ kinds) [] shown front back same_coms same_shown weights given =
    absurd (omega arith)
halves_computed case bit (kind ∷ kinds) (digests ∷ coms) [] front back same_coms same_shown weights
    given = absurd (omega arith)
halves_computed case bit (kind ∷ kinds) (digests ∷ coms) (s ∷ shown) front [] same_coms same_shown
    weights given = absurd (omega (arith, given.one_each))
halves_computed case bit (kind ∷ kinds) (digests ∷ coms) (s ∷ shown) front (h ∷ back) same_coms
    same_shown weights given =
    let zeroth : length front + zero ≡ length front = add-zero (length front) in
    let here = (half_is_computed kind (place_in case (length front)) digests s bit h
    (All-head HasWeight kind kinds weights)).1 (rw zeroth at (given.each zero (omega arith))) in
    let longer = length_push front h in
    let tail = give_tail case bit (length front) kind kinds digests coms s shown h back given in
    let later = halves_computed case bit kinds coms shown (front ++ h ∷ []) back (omega arith)
    (omega arith) (All-tail HasWeight kind kinds weights) (rw longer tail) in
    step_half _ (λ half. halves_from case bit (front ++ half ∷ []) kinds coms shown) (length front)
    h here ∙ later ∙ ap Ok (append_assoc front (h ∷ []) back)

-- a computed fault is the first
pub fault_found : (case : LaneCase) (bit : Bool) (kinds : List WireKind) (coms : List WireCom)
    (shown : List Shown) (front : List ℕ) (fault : LaneFault)
    → length coms ≡ length kinds → length shown ≡ length kinds → All HasWeight kinds
    → halves_from case bit front kinds coms shown ≡ Err fault
    → (wire : ℕ) × ((w : WireFault)
    × ((fault ≡ Wire (length front + wire) w)
    × Fails case bit (length front) kinds coms shown wire w))
unfolding halves_from
fault_found case bit [] coms shown front fault same_coms same_shown weights e = absurd (cc)
fault_found case bit (kind ∷ kinds) (digests ∷ coms) (s ∷ shown) front fault same_coms same_shown
    weights e =
    let weight = All-head HasWeight kind kinds weights in
    let at = place_in case (length front) in
    elim (step_err _ (λ half. halves_from case bit (front ++ half ∷ []) kinds coms shown)
    (length front) fault e) [
      | inl step ↦
          let zeroth : length front + zero ≡ length front = add-zero (length front) in (
            zero,
            (
              step.0,
              (
                rw zeroth step.1.1,
                fails_head case bit (length front) kind kinds digests coms s shown step.0
                    ((fault_is_computed kind at digests s bit step.0 weight).0 step.1.0),
              ),
            ),
          )
      | inr step ↦
          let h = step.0 in
          let here = (half_is_computed kind at digests s bit h weight).0 step.1.0 in
          let later = fault_found case bit kinds coms shown (front ++ h ∷ []) fault (omega arith)
          (omega arith) (All-tail HasWeight kind kinds weights) step.1.1 in
          let longer = length_push front h in
          let number : length front + suc later.0 ≡ length (front ++ h ∷ []) + later.0 =
          omega (arith, longer) in (
            suc later.0,
            (
              later.1.0,
              (
                rw number later.1.1.0,
                fails_cons case bit (length front) kind kinds digests coms s shown h later.0
                    later.1.0
                    here (rw longer at later.1.1.1),
              ),
            ),
          )
    ]
fault_found case bit (kind ∷ kinds) coms shown front fault same_coms same_shown weights e =
    absurd (omega arith)

-- the first fault is computed
pub fault_computed : (case : LaneCase) (bit : Bool) (kinds : List WireKind) (coms : List WireCom)
    (shown : List Shown) (front : List ℕ) (wire : ℕ) (w : WireFault)
    → length coms ≡ length kinds → length shown ≡ length kinds → All HasWeight kinds
    → Fails case bit (length front) kinds coms shown wire w
    → halves_from case bit front kinds coms shown ≡ Err (Wire (length front + wire) w)
unfolding halves_from
fault_computed case bit [] coms shown front wire w same_coms same_shown weights fails =
    absurd (omega (arith, fails.within))
fault_computed case bit (kind ∷ kinds) [] shown front wire w same_coms same_shown weights fails =
    absurd (omega arith)
fault_computed case bit (kind ∷ kinds) (digests ∷ coms) [] front wire w same_coms same_shown weights
    fails = absurd (omega arith)
fault_computed case bit (kind ∷ kinds) (digests ∷ coms) (s ∷ shown) front zero w same_coms
    same_shown weights fails =
    let zeroth : length front + zero ≡ length front = add-zero (length front) in
    let weight = All-head HasWeight kind kinds weights in
    let here = (fault_is_computed kind (place_in case (length front)) digests s bit w weight).1
    (rw zeroth at fails.faulty) in
    rw zeroth (step_fault _ (λ half. halves_from case bit (front ++ half ∷ []) kinds coms shown)
    (length front) w here)
fault_computed case bit (kind ∷ kinds) (digests ∷ coms) (s ∷ shown) front (suc wire) w same_coms
    same_shown weights fails =
    let zeroth : length front + zero ≡ length front = add-zero (length front) in
    let first = fails.before zero (omega arith) in
    let h = first.0 in
    let here = (half_is_computed kind (place_in case (length front)) digests s bit h
    (All-head HasWeight kind kinds weights)).1 (rw zeroth at first.1) in
    let longer = length_push front h in
    let tail = fails_tail case bit (length front) kind kinds digests coms s shown wire w fails in
    let later = fault_computed case bit kinds coms shown (front ++ h ∷ []) wire w (omega arith)
    (omega arith) (All-tail HasWeight kind kinds weights) (rw longer tail) in
    let number : length (front ++ h ∷ []) + wire ≡ length front + suc wire = omega (arith, longer)
    in
    step_half _ (λ half. halves_from case bit (front ++ half ∷ []) kinds coms shown) (length front)
    h here ∙ rw number at later
