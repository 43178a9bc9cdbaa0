-- The bids that are opened, where the wire of each seal shows a half for both bits.
use Rattle.std.proofs.Common.{◌≡◌, ℕ, zero, suc, ◌<◌, ◌≤◌, List, [], ◌∷◌, ◌++◌, length, take, map, Some, refl, ap, ◌∙◌, arith}
use Rattle.std.specs.Prelude.{slice_get, slice_index, slice_index_or}
use Rattle.std.specs.Option.{option_to_list}
use Rattle.std.proofs.lemmas.Option.{same_Some}
use Rattle.vk_residue.specs.Residue.{sum}
use Rattle.vk_commit.specs.declared.place.Opening.{Opening}
use Rattle.vk_wire.specs.declared.wire.Shown.{Shown}
use Rattle.vk_wire.specs.declared.wire.Shown.TheVariants.{Half, Whole, Spent}
use Rattle.vk_row.specs.Lanes.{nothing_shown}
use Rattle.vk_row.specs.Rows.{sums}
use Rattle.vk_bids.specs.declared.bids.OpenedBid.{OpenedBid}
use Rattle.vk_bids.specs.Bids.{opened_bid, opened_bids}

-- what is shown for both bits is a half, and these are their values
pub record AreHalves (zero_shown one_shown : Shown) (first_half second_half : ℕ) : Type 0 where
  pub first : Opening
  pub second : Opening
  pub zero_is : zero_shown ≡ Half first
  pub one_is : one_shown ≡ Half second
  pub first_value : first.value ≡ first_half
  pub second_value : second.value ≡ second_half

-- the wire at the index shows a half for both bits, and their values are those halves
abbrev pub ShowsHalves : List Shown → List Shown → List ℕ → List ℕ → ℕ → Type 0
ShowsHalves zeros ones firsts seconds index =
    AreHalves (slice_index_or zeros index nothing_shown) (slice_index_or ones index nothing_shown)
    (slice_index firsts index) (slice_index seconds index)

-- each bid is that of the seal at its index
abbrev pub AreAtSeats : List ℕ → List Shown → List Shown → List OpenedBid → Type 0
AreAtSeats seats zeros ones bids =
    (index : ℕ) (found : OpenedBid) → slice_get bids index ≡ Some found
    → opened_bid (slice_index seats index) (slice_index_or zeros index nothing_shown)
    (slice_index_or ones index nothing_shown) ≡ Some found

-- there is one bid for each seat, and the bids are the sums of the halves
pub record AreOpened (seats : List ℕ) (zeros ones : List Shown) (firsts seconds : List ℕ)
    (bids : List OpenedBid) : Type 0 where
  pub one_each : map (λ bid. bid.seat) bids ≡ seats
  pub are_sums : map (λ bid. bid.bid) bids ≡ take (length seats) (sums firsts seconds)
  pub at_seats : AreAtSeats seats zeros ones bids

-- the bid from two halves
abbrev pub from_halves : ℕ → Opening → Opening → OpenedBid
from_halves seat first second =
    record { seat = seat; bid = sum first.value second.value; first = first; second = second }

pub opened_from_halves : (seat : ℕ) (zero_shown one_shown : Shown) (first second : Opening)
    → zero_shown ≡ Half first → one_shown ≡ Half second
    → opened_bid seat zero_shown one_shown ≡ Some (from_halves seat first second)
opened_from_halves seat zero_shown one_shown first second zero_is one_is =
    ap (λ shown. opened_bid seat shown one_shown) zero_is
    ∙ ap (λ shown. opened_bid seat (Half first) shown) one_is

-- a bid is of two halves that are shown
pub halves_shown : (seat : ℕ) (zero_shown one_shown : Shown) (bid : OpenedBid)
    → opened_bid seat zero_shown one_shown ≡ Some bid → (zero_shown ≡ Half bid.first)
    × (one_shown ≡ Half bid.second)
halves_shown seat (Half first) (Half second) bid opened =
    let same = same_Some (from_halves seat first second) bid opened in
    (ap (λ (b : OpenedBid). Half b.first) same, ap (λ (b : OpenedBid). Half b.second) same)
halves_shown seat (Half first) (Whole one other) bid opened = cc
halves_shown seat (Half first) (Spent one other) bid opened = cc
halves_shown seat (Whole one other) shown bid opened = cc
halves_shown seat (Spent one other) shown bid opened = cc

at_seats_next : (seat : ℕ) (seats : List ℕ) (z o : Shown) (zeros ones : List Shown)
    (bid : OpenedBid) (bids : List OpenedBid)
    → opened_bid seat z o ≡ Some bid → AreAtSeats seats zeros ones bids
    → (index : ℕ) (found : OpenedBid) → slice_get (bid ∷ bids) index ≡ Some found
    → opened_bid (slice_index (seat ∷ seats) index) (slice_index_or (z ∷ zeros) index nothing_shown)
    (slice_index_or (o ∷ ones) index nothing_shown) ≡ Some found
at_seats_next seat seats z o zeros ones bid bids here later zero found get = here ∙ get
at_seats_next seat seats z o zeros ones bid bids here later (suc index) found get =
    later index found get

-- one bid more
opened_next : (seat : ℕ) (seats : List ℕ) (z o : Shown) (zeros ones : List Shown) (u v : ℕ)
    (firsts seconds : List ℕ) (bids : List OpenedBid)
    → ShowsHalves (z ∷ zeros) (o ∷ ones) (u ∷ firsts) (v ∷ seconds) zero
    → AreOpened seats zeros ones firsts seconds bids
    → AreOpened (seat ∷ seats) (z ∷ zeros) (o ∷ ones) (u ∷ firsts) (v ∷ seconds)
    (option_to_list (opened_bid seat z o) ++ bids)
opened_next seat seats z o zeros ones u v firsts seconds bids here later =
    let bid = from_halves seat here.first here.second in
    let opened : opened_bid seat z o ≡ Some bid =
    opened_from_halves seat z o here.first here.second here.zero_is here.one_is in
    let list : option_to_list (opened_bid seat z o) ++ bids ≡ bid ∷ bids =
    ap (λ found. option_to_list found ++ bids) opened in
    let whole : AreOpened (seat ∷ seats) (z ∷ zeros) (o ∷ ones) (u ∷ firsts) (v ∷ seconds)
    (bid ∷ bids) = record {
      one_each = ap (λ others. seat ∷ others) later.one_each;
      are_sums = ap (λ n. sum n here.second.value ∷ map (λ bid. bid.bid) bids) here.first_value
          ∙ ap (λ n. sum u n ∷ map (λ bid. bid.bid) bids) here.second_value
          ∙ ap (λ others. sum u v ∷ others) later.are_sums;
      at_seats = at_seats_next seat seats z o zeros ones bid bids opened later.at_seats;
    } in
    rw list whole

pub opened_are : (seats : List ℕ) (zeros ones : List Shown) (firsts seconds : List ℕ)
    → length seats ≤ length zeros → length seats ≤ length ones → length seats ≤ length firsts
    → length seats ≤ length seconds
    → ((index : ℕ) → index < length seats → ShowsHalves zeros ones firsts seconds index)
    → AreOpened seats zeros ones firsts seconds (opened_bids seats zeros ones)
opened_are [] zeros ones firsts seconds zs os us vs halves =
    record { one_each = refl; are_sums = refl; at_seats = λ index found get. absurd (cc) }
opened_are (seat ∷ seats) [] ones firsts seconds zs os us vs halves = absurd (omega arith)
opened_are (seat ∷ seats) (z ∷ zeros) [] firsts seconds zs os us vs halves = absurd (omega arith)
opened_are (seat ∷ seats) (z ∷ zeros) (o ∷ ones) [] seconds zs os us vs halves =
    absurd (omega arith)
opened_are (seat ∷ seats) (z ∷ zeros) (o ∷ ones) (u ∷ firsts) [] zs os us vs halves =
    absurd (omega arith)
opened_are (seat ∷ seats) (z ∷ zeros) (o ∷ ones) (u ∷ firsts) (v ∷ seconds) zs os us vs halves =
    opened_next seat seats z o zeros ones u v firsts seconds (opened_bids seats zeros ones)
    (halves zero (omega arith))
    (opened_are seats zeros ones firsts seconds (omega arith) (omega arith) (omega arith)
    (omega arith)
    (λ index lt. halves (suc index) (omega arith)))
