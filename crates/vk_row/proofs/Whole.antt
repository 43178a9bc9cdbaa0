-- What is computed of a lane is whether it is accepted, and its first fault.
use Rattle.std.proofs.Common.{◌≡◌, ℕ, zero, ◌+◌, ◌⊎◌, Bool, List, [], Option, Some, None, Result, Ok, Err, refl, sym, ap, subst, ◌∙◌, arith, inl, inr, zero-add}
use Rattle.vk_residue.specs.Steps.{◌>>=◌}
use Rattle.vk_plan.specs.Plans.{PlanValue, IsPlan}
use Rattle.vk_wire.specs.declared.wire.Shown.{Shown}
use Rattle.vk_wire.specs.declared.wire.WireFault.{WireFault}
use Rattle.vk_row.specs.declared.case.LaneCase.{LaneCase}
use Rattle.vk_row.specs.declared.case.LaneFault.{LaneFault}
use Rattle.vk_row.specs.declared.case.LaneFault.TheVariants.{Wire, Row, NoMemory}
use Rattle.vk_row.specs.Lanes.{HasCounts, AreHalves, IsAcceptedLane, IsFirstWire, HasLaneFault}
use Rattle.vk_row.specs.LaneTests.{halves_from, first_false_row, judged, checked_lane}
use Rattle.vk_row.proofs.Halves.{Give, Fails, halves_given, halves_computed, fault_found, fault_computed}
use Rattle.vk_row.proofs.RowsMet.{rows_met, none_unmet, row_broken, broken_found}

-- from the first wire on
halves_of_give : (plan : PlanValue) (case : LaneCase) (bit : Bool) (shown : List Shown)
    (halves : List ℕ)
    → Give case bit zero plan.kinds case.coms shown halves → AreHalves plan case bit shown halves
halves_of_give plan case bit shown halves given = record {
  one_each = given.one_each;
  each = λ k lt. let number : zero + k ≡ k = zero-add k in rw number at (given.each k lt);
}

give_of_halves : (plan : PlanValue) (case : LaneCase) (bit : Bool) (shown : List Shown)
    (halves : List ℕ)
    → AreHalves plan case bit shown halves → Give case bit zero plan.kinds case.coms shown halves
give_of_halves plan case bit shown halves are = record {
  one_each = are.one_each;
  each = λ k lt. let number : zero + k ≡ k = zero-add k in rw number (are.each k lt);
}

first_of_fails : (plan : PlanValue) (case : LaneCase) (bit : Bool) (shown : List Shown) (wire : ℕ)
    (w : WireFault)
    → Fails case bit zero plan.kinds case.coms shown wire w → IsFirstWire plan case bit shown wire w
first_of_fails plan case bit shown wire w fails = record {
  within = fails.within;
  before = λ k lt. let number : zero + k ≡ k = zero-add k in let g = fails.before k lt in
      (g.0, rw number at g.1);
  faulty = let number : zero + wire ≡ wire = zero-add wire in rw number at fails.faulty;
}

fails_of_first : (plan : PlanValue) (case : LaneCase) (bit : Bool) (shown : List Shown) (wire : ℕ)
    (w : WireFault)
    → IsFirstWire plan case bit shown wire w → Fails case bit zero plan.kinds case.coms shown wire w
fails_of_first plan case bit shown wire w first = record {
  within = first.within;
  before = λ k lt. let number : zero + k ≡ k = zero-add k in let g = first.before k lt in
      (g.0, rw number g.1);
  faulty = let number : zero + wire ≡ wire = zero-add wire in rw number first.faulty;
}

-- the two steps of the computation
both_ok : (r : Result (List ℕ) LaneFault) (f : List ℕ → Result (List ℕ) LaneFault) (all : List ℕ)
    → (r >>= f) ≡ Ok all → (halves : List ℕ) × ((r ≡ Ok halves) × (f halves ≡ Ok all))
both_ok (Ok halves) f all e = (halves, (refl, e))
both_ok (Err fault) f all e = absurd (cc)

one_err : (r : Result (List ℕ) LaneFault) (f : List ℕ → Result (List ℕ) LaneFault)
    (fault : LaneFault)
    → (r >>= f) ≡ Err fault → (r ≡ Err fault)
    ⊎ ((halves : List ℕ) × ((r ≡ Ok halves) × (f halves ≡ Err fault)))
one_err (Ok halves) f fault e = inr (halves, (refl, e))
one_err (Err other) f fault e = inl e

then_ok : (r : Result (List ℕ) LaneFault) (f : List ℕ → Result (List ℕ) LaneFault) (halves : List ℕ)
    → r ≡ Ok halves → (r >>= f) ≡ f halves
then_ok r f halves e = rw e

then_err : (r : Result (List ℕ) LaneFault) (f : List ℕ → Result (List ℕ) LaneFault)
    (fault : LaneFault) → r ≡ Err fault → (r >>= f) ≡ Err fault
then_err r f fault e = rw e

judged_ok : (halves all : List ℕ) (row : Option ℕ) → judged halves row ≡ Ok all
    → (row ≡ None) × (halves ≡ all)
judged_ok halves all None e = (refl, cc)
judged_ok halves all (Some row) e = absurd (cc)

judged_err : (halves : List ℕ) (row : Option ℕ) (fault : LaneFault) → judged halves row ≡ Err fault
    → (n : ℕ) × ((row ≡ Some n) × (fault ≡ Row n))
judged_err halves None fault e = absurd (cc)
judged_err halves (Some row) fault e = (row, (refl, cc))

-- computed halves are accepted
pub ok_accepted : (plan : PlanValue) (case : LaneCase) (bit : Bool) (shown : List Shown)
    (halves : List ℕ) → IsPlan plan → HasCounts plan case shown
    → checked_lane plan case bit shown ≡ Ok halves → IsAcceptedLane plan case bit shown halves
unfolding checked_lane
ok_accepted plan case bit shown halves is_plan counts e =
    let both = both_ok (halves_from case bit [] plan.kinds case.coms shown)
    (λ hs. judged hs (first_false_row bit hs zero plan.rows case.posted)) halves e in
    let fine = judged_ok both.0 halves _ both.1.1 in
    let given = halves_given case bit plan.kinds case.coms shown [] both.0 counts.coms
    counts.one_shown is_plan.weights both.1.0 in
    let P : List ℕ → Type 0 = λ hs. IsAcceptedLane plan case bit shown hs in
    let met = rows_met bit both.0 zero plan.rows case.posted counts.posted fine.0 in
    let Q : List ℕ → Type 0 = λ hs. AreHalves plan case bit shown hs in
    subst P fine.1 (record {
      counts = counts;
      wires = subst Q (sym given.1.0) (halves_of_give plan case bit shown given.0 given.1.1);
      rows = met;
    })

-- what is accepted is computed
pub accepted_ok : (plan : PlanValue) (case : LaneCase) (bit : Bool) (shown : List Shown)
    (halves : List ℕ) → IsPlan plan
    → IsAcceptedLane plan case bit shown halves → checked_lane plan case bit shown ≡ Ok halves
unfolding checked_lane
accepted_ok plan case bit shown halves is_plan accepted =
    let counts = accepted.counts in
    let computed = halves_computed case bit plan.kinds case.coms shown [] halves counts.coms
    counts.one_shown is_plan.weights (give_of_halves plan case bit shown halves accepted.wires)
    in
    then_ok (halves_from case bit [] plan.kinds case.coms shown)
    (λ hs. judged hs (first_false_row bit hs zero plan.rows case.posted)) halves computed
    ∙ ap (judged halves) (none_unmet bit halves zero plan.rows case.posted counts.posted
    accepted.rows)

-- a computed fault is the first
pub err_faulty : (plan : PlanValue) (case : LaneCase) (bit : Bool) (shown : List Shown)
    (fault : LaneFault) → IsPlan plan → HasCounts plan case shown
    → checked_lane plan case bit shown ≡ Err fault → HasLaneFault plan case bit shown fault
unfolding checked_lane
err_faulty plan case bit shown fault is_plan counts e =
    let P : LaneFault → Type 0 = λ f. HasLaneFault plan case bit shown f in
    elim (one_err (halves_from case bit [] plan.kinds case.coms shown)
    (λ hs. judged hs (first_false_row bit hs zero plan.rows case.posted)) fault e) [
      | inl wires ↦
          let found = fault_found case bit plan.kinds case.coms shown [] fault counts.coms
          counts.one_shown is_plan.weights wires in
          let number : zero + found.0 ≡ found.0 = zero-add found.0 in
          subst P (sym (rw number at found.1.1.0))
          (first_of_fails plan case bit shown found.0 found.1.0 found.1.1.1)
      | inr rows ↦
          let bad = judged_err rows.0 _ fault rows.1.1 in
          let given = halves_given case bit plan.kinds case.coms shown [] rows.0 counts.coms
          counts.one_shown is_plan.weights rows.1.0 in
          let broken = row_broken bit rows.0 zero plan.rows case.posted bad.0 counts.posted bad.1.0
          in
          let number : broken.0 ≡ bad.0 = omega (arith, broken.1.0) in
          let Q : List ℕ → Type 0 = λ hs. AreHalves plan case bit shown hs in
          let R : ℕ → Type 0 = λ n. HasLaneFault plan case bit shown (Row n) in
          subst P (sym bad.1.1) (subst R number (
            rows.0,
            record {
              wires = subst Q (sym given.1.0)
                  (halves_of_give plan case bit shown given.0 given.1.1);
              within = broken.1.1.within;
              before = broken.1.1.before;
              broken = broken.1.1.broken;
            },
          ))
    ]

-- the first fault is computed
pub faulty_err : (plan : PlanValue) (case : LaneCase) (bit : Bool) (shown : List Shown)
    (fault : LaneFault) → IsPlan plan → HasCounts plan case shown
    → HasLaneFault plan case bit shown fault → checked_lane plan case bit shown ≡ Err fault
unfolding checked_lane
faulty_err plan case bit shown (Wire wire w) is_plan counts first =
    let computed = fault_computed case bit plan.kinds case.coms shown [] wire w counts.coms
    counts.one_shown is_plan.weights (fails_of_first plan case bit shown wire w first) in
    let number : zero + wire ≡ wire = zero-add wire in
    then_err (halves_from case bit [] plan.kinds case.coms shown)
    (λ hs. judged hs (first_false_row bit hs zero plan.rows case.posted)) (Wire wire w)
    (rw number at computed)
faulty_err plan case bit shown (Row row) is_plan counts first =
    let halves = first.0 in
    let computed = halves_computed case bit plan.kinds case.coms shown [] halves counts.coms
    counts.one_shown is_plan.weights (give_of_halves plan case bit shown halves first.1.wires)
    in
    let found = broken_found bit halves zero plan.rows case.posted row counts.posted
    (record { within = first.1.within; before = first.1.before; broken = first.1.broken }) in
    let number : zero + row ≡ row = zero-add row in
    then_ok (halves_from case bit [] plan.kinds case.coms shown)
    (λ hs. judged hs (first_false_row bit hs zero plan.rows case.posted)) halves computed
    ∙ ap (judged halves) (rw number at found)
faulty_err plan case bit shown NoMemory is_plan counts first = absurd first
