-- What stands on a board before its first lane, where its price and its winner may stand.
use Rattle.std.proofs.Common.{◌≡◌, ℕ, Bool, true, false, if◌then◌else◌, List, Option, Some, None, Result, Ok, Err, refl, ap, ◌∙◌, subst}
use Rattle.vk_residue.specs.Steps.{◌>>=◌}
use Rattle.vk_lines.specs.Lines.{Rest}
use Rattle.vk_board.specs.declared.board.Head.{Head}
use Rattle.vk_board.specs.declared.board.SealLines.{SealLines}
use Rattle.vk_board.specs.declared.front.Front.{Front}
use Rattle.vk_board.specs.Values.{IsHead, AreSeals}
use Rattle.vk_board.specs.Reading.{head_at, seals_at}
use Rattle.vk_board.specs.Published.{price_stands, placed}
use Rattle.vk_board.specs.Fronts.{IsFront, FrontFault, Price, in_front, front_with, front_placed, front_of, front_at}
use Rattle.vk_board.proofs.Prices.{price_shown}
use Rattle.vk_board.proofs.Winners.{winner_shown}

pub front_right : (head : Head) (seals : List SealLines) (position : Option ℕ) → IsHead head
    → AreSeals head seals → price_stands head ≡ true → placed head.winner seals ≡ Some position
    → IsFront (front_with head seals position)
front_right head seals position is are price winner = record {
  head = is;
  seals = are;
  price = price_shown head price;
  winner = winner_shown seals head.winner position winner;
}

-- ---- one step after another

bind_ok : {A B F : Type 0} (r : Result A F) (f : A → Result B F) (y : B) → (r >>= f) ≡ Ok y
    → (x : A) × (r ≡ Ok x) × (f x ≡ Ok y)
bind_ok (Ok x) f y h = (x, refl, h)
bind_ok (Err e) f y h = cc

value_same : {A F : Type 0} (x y : A) → ◌≡◌ {A = Result A F} (Ok x) (Ok y) → x ≡ y
value_same x y same = cc

in_front_ok : {X : Type 0} (r : Result X ℕ) (x : X) → in_front r ≡ Ok x → r ≡ Ok x
in_front_ok (Ok y) x h = ap (λ z. Ok z) (value_same y x h)
in_front_ok (Err line) x h = cc

-- ---- the price and the winner

placed_shown : (head : Head) (seals : List SealLines) (found : Option (Option ℕ)) (front : Front)
    → front_placed head seals found ≡ Ok front
    → (position : Option ℕ) × (found ≡ Some position) × (front_with head seals position ≡ front)
placed_shown head seals None front ok = cc
placed_shown head seals (Some position) front ok =
    (position, refl, value_same (front_with head seals position) front ok)

tests_shown : (head : Head) (seals : List SealLines) (stands : Bool) (front : Front)
    → price_stands head ≡ stands
    → (if stands then front_placed head seals (placed head.winner seals) else Err Price) ≡ Ok front
    → (price_stands head ≡ true) × (position : Option ℕ)
    × (placed head.winner seals ≡ Some position) × (front_with head seals position ≡ front)
tests_shown head seals false front stands ok = cc
tests_shown head seals true front stands ok =
    let place = placed_shown head seals (placed head.winner seals) front ok in
    (stands, place.0, place.1, place.2)

front_of_shown : (head : Head) (seals : List SealLines) (front : Front)
    → front_of head seals ≡ Ok front
    → (price_stands head ≡ true) × (position : Option ℕ)
    × (placed head.winner seals ≡ Some position) × (front_with head seals position ≡ front)
unfolding front_of
front_of_shown head seals front ok = tests_shown head seals (price_stands head) front refl ok

-- ---- the lines before the first lane

-- how a front was read
pub record FrontRead (rest : Rest) (front : Front) (after : Rest) : Type 0 where
  pub middle : Rest
  pub head_read : head_at rest ≡ Ok (front.head, middle)
  pub seals_read : seals_at front.head middle ≡ Ok (front.seals, after)
  pub price : price_stands front.head ≡ true
  pub winner : placed front.head.winner front.seals ≡ Some front.position

abbrev seals_then : Head → List SealLines × Rest → Result (Front × Rest) FrontFault
seals_then head seals = front_of head seals.0 >>= λ front. Ok (front, seals.1)

abbrev head_then : Head × Rest → Result (Front × Rest) FrontFault
head_then head = in_front (seals_at head.0 head.1) >>= seals_then head.0

pub front_at_shown : (rest : Rest) (front : Front) (after : Rest)
    → front_at rest ≡ Ok (front, after) → FrontRead rest front after
unfolding front_at
front_at_shown rest front after ok =
    let head = bind_ok (in_front (head_at rest)) head_then (front, after) ok in
    let seals = bind_ok (in_front (seals_at head.0.0 head.0.1)) (seals_then head.0.0) (front, after)
    head.2 in
    let both = bind_ok (front_of head.0.0 seals.0.0) (λ f. Ok (f, seals.0.1)) (front, after) seals.2
    in
    let same = value_same (both.0, seals.0.1) (front, after) both.2 in
    let is = front_of_shown head.0.0 seals.0.0 both.0 both.1 in
    let P : Front → Type 0 = λ f. FrontRead rest f after in
    subst P (is.3 ∙ ap (λ p. p.0) same) (record {
      middle = head.0.1;
      head_read = in_front_ok (head_at rest) head.0 head.1;
      seals_read = in_front_ok (seals_at head.0.0 head.0.1) seals.0 seals.1
          ∙ ap (λ p. Ok (seals.0.0, p.1)) same;
      price = is.0;
      winner = is.2;
    })

pub front_at_found : (rest : Rest) (front : Front) (after : Rest) → FrontRead rest front after
    → front_at rest ≡ Ok (front, after)
unfolding front_at front_of
front_at_found rest front after read =
    rw (read.head_read, read.seals_read, read.price, read.winner) refl
