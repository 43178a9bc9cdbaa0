-- The place of the winner's seal.
use Rattle.std.proofs.Common.{◌≡◌, ◌≢◌, ℕ, zero, suc, ◌+◌, ◌-◌, ◌<◌, ◌==◌, Bool, true, false, if◌then◌else◌, List, [], ◌∷◌, ◌++◌, length, Option, Some, None, option_map, refl, sym, ap, ◌∙◌, arith, append_assoc, subst}
use Rattle.std.specs.Prelude.{slice_index, Contains}
use Rattle.std.specs.List.{AllByRecursion}
use Rattle.std.proofs.lemmas.Bool.{eqb-true, eq-eqb, ne_eqb}
use Rattle.std.proofs.lemmas.List.{length-map, get_or_default}
use Rattle.std.proofs.lemmas.Option.{same_Some}
use Rattle.vk_lines.specs.Forms.{EachAfter}
use Rattle.vk_board.specs.declared.board.Head.{Head}
use Rattle.vk_board.specs.declared.board.SealLines.{SealLines}
use Rattle.vk_board.specs.Values.{IsSealAfter, AreSeals}
use Rattle.vk_board.specs.Reading.{seats_of}
use Rattle.vk_board.specs.Published.{position_from, position_of, placed}
use Rattle.vk_board.specs.Fronts.{IsPlaced}

-- the seal at that index has the seat, and its place is counted from the place of the first
abbrev pub HasSeat : ℕ → ℕ → List SealLines → ℕ → Type 0
HasSeat seat place seals position = (index : ℕ) × (position ≡ place + index)
    × (index < length seals) × (slice_index (seats_of seals) index ≡ seat)

later_seat : (seat place position : ℕ) (seal : SealLines) (seals : List SealLines)
    → HasSeat seat (place + 1) seals position → HasSeat seat place (seal ∷ seals) position
later_seat seat place position seal seals has =
    (suc has.0, omega (arith, has.1), omega (arith, has.2), has.3)

seat_step : (seat place position : ℕ) (seal : SealLines) (seals : List SealLines)
    → (position_from seat (place + 1) seals ≡ Some position
    → HasSeat seat (place + 1) seals position)
    → (test : Bool) → (seal.seat == seat) ≡ test
    → (if test then Some place else position_from seat (place + 1) seals) ≡ Some position
    → HasSeat seat place (seal ∷ seals) position
seat_step seat place position seal seals later true test found = (
  zero,
  sym (same_Some place position found) ∙ omega arith,
  omega arith,
  eqb-true seal.seat seat test,
)
seat_step seat place position seal seals later false test found =
    later_seat seat place position seal seals (later found)

-- the place that is found is that of a seal with the seat
pub seat_shown : (seat place position : ℕ) (seals : List SealLines)
    → position_from seat place seals ≡ Some position → HasSeat seat place seals position
seat_shown seat place position [] found = cc
seat_shown seat place position (seal ∷ seals) found =
    seat_step seat place position seal seals (seat_shown seat (place + 1) position seals)
    (seal.seat == seat) refl found

in_middle : {X : Type 0} (P : X → Type 0) (front : List X) (x : X) (back : List X)
    → AllByRecursion P (front ++ x ∷ back) → P x
in_middle P [] x back all = all.0
in_middle P (y ∷ front) x back all = in_middle P front x back all.1

-- no seal has the seat of one before it
other_seat : (lanes : ℕ) (front : List SealLines) (x : SealLines) (back seals : List SealLines)
    (index : ℕ) → EachAfter (IsSealAfter lanes) (front ++ x ∷ back) seals
    → index < length seals → x.seat ≢ slice_index (seats_of seals) index
other_seat lanes front x back [] index each within = absurd (omega (arith, within))
other_seat lanes front x back (seal ∷ seals) zero each within =
    in_middle (λ earlier. earlier.seat ≢ seal.seat) front x back each.0.new_seat
other_seat lanes front x back (seal ∷ seals) (suc index) each within =
    let P : List SealLines → Type 0 = λ before. EachAfter (IsSealAfter lanes) before seals in
    other_seat lanes front x (back ++ seal ∷ []) seals index
    (subst P (append_assoc front (x ∷ back) (seal ∷ [])) each.1) (omega (arith, within))

-- where all seats differ, the seal with the seat is found
pub seat_found : (lanes seat place index : ℕ) (before seals : List SealLines)
    → EachAfter (IsSealAfter lanes) before seals → index < length seals
    → slice_index (seats_of seals) index ≡ seat
    → position_from seat place seals ≡ Some (place + index)
seat_found lanes seat place index before [] each within is = absurd (omega (arith, within))
seat_found lanes seat place zero before (seal ∷ seals) each within is =
    let here : place ≡ place + zero = omega arith in
    rw (eq-eqb seal.seat seat is) (ap Some here)
seat_found lanes seat place (suc index) before (seal ∷ seals) each within is =
    let other : seal.seat ≢ seat =
    rw is at (other_seat lanes before seal [] seals index each.1 (omega (arith, within))) in
    let next : place + 1 + index ≡ place + suc index = omega arith in
    rw (ne_eqb seal.seat seat other)
    (seat_found lanes seat (place + 1) index (before ++ seal ∷ []) seals each.1
    (omega (arith, within)) is ∙ ap Some next)

-- where the winner's seat is found, it is that of the seal there
place_shown : (seals : List SealLines) (seat : ℕ) (found place : Option ℕ)
    → position_of seat seals ≡ found → option_map Some found ≡ Some place
    → IsPlaced seals (Some seat) place
place_shown seals seat (Some position) (Some other) is same =
    let has = seat_shown seat 1 position seals is in
    let index : position - 1 ≡ has.0 = omega (arith, has.1) in
    let P : Option ℕ → Type 0 = λ p. IsPlaced seals (Some seat) p in
    subst P (same_Some (Some position) (Some other) same) (record {
      some = omega (arith, has.1);
      within = omega (arith, has.1, has.2);
      seat_there = ap (λ i. slice_index (seats_of seals) i) index ∙ has.3;
    })
place_shown seals seat (Some position) None is same = cc
place_shown seals seat None place is same = cc

pub winner_shown : (seals : List SealLines) (winner place : Option ℕ)
    → placed winner seals ≡ Some place → IsPlaced seals winner place
winner_shown seals (Some seat) place is =
    place_shown seals seat (position_of seat seals) place refl is
winner_shown seals None (Some position) is = cc
winner_shown seals None None is = tt

-- the place of the winner's seal is the one that is found
pub winner_found : (head : Head) (seals : List SealLines) (winner place : Option ℕ)
    → AreSeals head seals → IsPlaced seals winner place → placed winner seals ≡ Some place
winner_found head seals (Some seat) (Some position) are has =
    let count : 1 + (position - 1) ≡ position = omega (arith, has.some) in
    let found = seat_found head.lanes seat 1 (position - 1) [] seals are.each
    (omega (arith, has.some, has.within)) has.seat_there ∙ ap Some count in
    ap (option_map Some) found
winner_found head seals (Some seat) None are has = absurd has
winner_found head seals None (Some position) are has = absurd has
winner_found head seals None None are has = refl

-- no place is found exactly where a winner is named and no seal has that seat
missing_shown : (head : Head) (seals : List SealLines) (seat : ℕ) → AreSeals head seals
    → position_of seat seals ≡ None → ¬ Contains (seats_of seals) seat
missing_shown head seals seat are none has =
    let within : has.0 < length seals = omega (arith, has.1, length-map seals (λ seal. seal.seat))
    in
    let at : slice_index (seats_of seals) has.0 ≡ seat =
    get_or_default (seats_of seals) has.0 0 seat has.1 ∙ has.2 in
    let some = seat_found head.lanes seat 1 has.0 [] seals are.each within at in
    cc (none, some)

no_place : (found : Option ℕ) → ◌≡◌ {A = Option (Option ℕ)} (option_map Some found) None
    → found ≡ None
no_place None is = refl
no_place (Some position) is = cc

pub none_shown : (head : Head) (seals : List SealLines) (winner : Option ℕ) → AreSeals head seals
    → placed winner seals ≡ None
    → (seat : ℕ) × (winner ≡ Some seat) × (¬ Contains (seats_of seals) seat)
none_shown head seals (Some seat) are none =
    (seat, refl, missing_shown head seals seat are (no_place (position_of seat seals) none))
none_shown head seals None are none = cc

none_by : (seat : ℕ) (seals : List SealLines) (found : Option ℕ) → position_of seat seals ≡ found
    → ¬ Contains (seats_of seals) seat → found ≡ None
none_by seat seals None is other = refl
none_by seat seals (Some position) is other =
    let has = seat_shown seat 1 position seals is in
    let within : has.0 < length (seats_of seals) =
    omega (arith, has.2, length-map seals (λ seal. seal.seat)) in
    absurd (other (has.0, within, get_or_default (seats_of seals) has.0 seat 0 within ∙ has.3))

pub none_found : (winner : Option ℕ) (seat : ℕ) (seals : List SealLines) → winner ≡ Some seat
    → ¬ Contains (seats_of seals) seat → placed winner seals ≡ None
none_found winner seat seals named other =
    ap (λ w. placed w seals) named
    ∙ ap (option_map Some) (none_by seat seals (position_of seat seals) refl other)
