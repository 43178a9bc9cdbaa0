-- The winner has a place among the seals where a seal has the winner's seat, and back.
use Rattle.std.proofs.Common.{◌≡◌, ℕ, zero, suc, ◌+◌, ◌-◌, ◌<◌, ◌==◌, Bool, true, false, if◌then◌else◌, List, [], ◌∷◌, length, Option, Some, None, option_map, refl, ap, ◌∙◌, arith}
use Rattle.std.specs.Prelude.{Contains}
use Rattle.std.proofs.lemmas.List.{length-map, get_or_default}
use Rattle.std.proofs.lemmas.Bool.Decides.{nat_tests}
use Rattle.vk_board.specs.declared.board.SealLines.{SealLines}
use Rattle.vk_board.specs.Reading.{seats_of}
use Rattle.vk_board.specs.Fronts.{IsPlaced}
use Rattle.vk_board.specs.Published.{position_from, placed}
use Rattle.vk_report.specs.Reports.{IsWinnerOf}

pub winner_is : (seals : List SealLines) (winner position : Option ℕ)
    → IsPlaced seals winner position → IsWinnerOf (seats_of seals) winner
winner_is seals (Some seat) (Some position) place =
    let within : position - 1 < length (seats_of seals) =
    omega (arith, place.some, place.within, length-map seals (λ seal. seal.seat)) in (
      position - 1,
      within,
      get_or_default (seats_of seals) (position - 1) seat 0 within
          ∙ place.seat_there,
    )
winner_is seals (Some seat) None place = absurd place
winner_is seals None position place = tt

found_by : (test : Bool) (seat first : ℕ) (seal : SealLines) (seals : List SealLines)
    → (seal.seat == seat) ≡ test
    → (Contains (seats_of seals) seat
    → (place : ℕ) × (position_from seat (first + 1) seals ≡ Some place))
    → Contains (seal.seat ∷ seats_of seals) seat
    → (place : ℕ) × ((if test then Some first else position_from seat (first + 1) seals)
    ≡ Some place)
found_by true seat first seal seals is later at = (first, refl)
found_by false seat first seal seals is later (zero, within, same) =
    absurd (grind (arith, nat_tests, is, same))
found_by false seat first seal seals is later (suc k, within, same) =
    later (k, omega (arith, within), same)

place_found : (seat first : ℕ) (seals : List SealLines) → Contains (seats_of seals) seat
    → (place : ℕ) × (position_from seat first seals ≡ Some place)
place_found seat first [] at = absurd (omega (arith, at.1))
place_found seat first (seal ∷ seals) at =
    found_by (seal.seat == seat) seat first seal seals refl (place_found seat (first + 1) seals) at

pub winner_placed : (seals : List SealLines) (winner : Option ℕ)
    → IsWinnerOf (seats_of seals) winner → (position : Option ℕ)
    × (placed winner seals ≡ Some position)
winner_placed seals (Some seat) at = let place = place_found seat 1 seals at in
    (Some place.0, ap (option_map Some) place.1)
winner_placed seals None at = (None, refl)
