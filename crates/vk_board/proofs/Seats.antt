-- Seats that no earlier seal has.
use Rattle.std.proofs.Common.{◌≡◌, ◌≢◌, ℕ, ◌==◌, not, true, List, [], ◌∷◌, ◌++◌, refl, ap, arith}
use Rattle.std.specs.List.{AllByRecursion}
use Rattle.std.proofs.lemmas.Bool.{and_parts}
use Rattle.std.proofs.lemmas.Bool.Decides.{nat_tests}
use Rattle.vk_board.specs.declared.board.SealLines.{SealLines}
use Rattle.vk_board.specs.Reading.{is_new_seat, seats_of}

other_from_test : (m n : ℕ) → not (m == n) ≡ true → m ≢ n
other_from_test m n test = λ same. grind (arith, nat_tests)

other_to_test : (m n : ℕ) → m ≢ n → not (m == n) ≡ true
other_to_test m n other = grind (arith, nat_tests)

-- whether a seat is none of those before, as a test and as a fact
pub new_from_test : (seat : ℕ) (before : List SealLines) → is_new_seat (seats_of before) seat ≡ true
    → AllByRecursion (λ earlier. earlier.seat ≢ seat) before
new_from_test seat [] test = tt
new_from_test seat (earlier ∷ before) test =
    let parts = and_parts (not (earlier.seat == seat)) (is_new_seat (seats_of before) seat) test in
    (other_from_test earlier.seat seat parts.0, new_from_test seat before parts.1)

pub new_to_test : (seat : ℕ) (before : List SealLines)
    → AllByRecursion (λ earlier. earlier.seat ≢ seat) before
    → is_new_seat (seats_of before) seat ≡ true
new_to_test seat [] others = refl
new_to_test seat (earlier ∷ before) others =
    rw (other_to_test earlier.seat seat others.0, new_to_test seat before others.1) refl

-- the seats with one seal more
pub seats_more : (before : List SealLines) (seal : SealLines)
    → seats_of (before ++ seal ∷ []) ≡ seats_of before ++ seal.seat ∷ []
seats_more [] seal = refl
seats_more (earlier ∷ before) seal = ap (λ seats. earlier.seat ∷ seats) (seats_more before seal)
