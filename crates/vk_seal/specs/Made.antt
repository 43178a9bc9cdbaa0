-- A secret as it is drawn from words, and the seal of a secret.
use Rattle.std.specs.Prelude.{◌≡◌, ℕ, ◌+◌, ◌^◌, nat_lt, if◌then◌else◌, List, [], ◌∷◌, Option, Result, Ok, Err}
use Rattle.vk_commit.specs.declared.place.Place.{Place}
use Rattle.vk_dice.specs.Words.{later}
use Rattle.vk_dice.specs.Draws.{after_residue, drawn_key}
use Rattle.vk_dice.specs.Many.{Drawing, with_residue, drawn_onto, after_draws}
use Rattle.vk_plan.specs.declared.wire.WireKind.TheVariants.{Split}
use Rattle.vk_wire.specs.Made.{made_com}
use Rattle.vk_wire.specs.declared.wire.WireCom.{WireCom}
use Rattle.vk_seal.specs.declared.making.SealErr.{SealErr}
use Rattle.vk_seal.specs.declared.making.SealErr.TheVariants.{BidTooLarge, DrySeed, NoMemory}
use Rattle.vk_seal.specs.declared.secret.XTape.{XTape}
use Rattle.vk_seal.specs.declared.secret.Secret.{Secret}
use Rattle.vk_seal.specs.declared.secret.Seal.{Seal}
use Rattle.vk_seal.specs.Values.{wire_tape}

-- the tape of a lane with that mask: two keys are drawn
abbrev pub tape_with : ℕ → (ℕ → ℕ) → XTape
tape_with mask ahead = record {
  mask = mask;
  first_key = drawn_key ahead;
  second_key = drawn_key (later 4 ahead);
}

-- the tape of a lane: a residue is drawn, and the keys after it; none where no residue can be drawn
abbrev pub drawn_tape : (ℕ → ℕ) → Option XTape
drawn_tape ahead = with_residue tape_with ahead

-- the words ahead after that draw
abbrev pub after_tape : (ℕ → ℕ) → ℕ → ℕ
after_tape ahead = later 4 (later 4 (after_residue ahead))

-- the draw of a lane's tape; where no residue can be drawn, only the words looked at for it are
-- taken
abbrev pub tape_drawing : Drawing XTape
tape_drawing = record { drawn = drawn_tape; after = after_tape; dry = after_residue }

-- lanes count from 1
abbrev pub by_lane : Result (List XTape) ℕ → Result (List XTape) ℕ
by_lane (Ok tapes) = Ok tapes
by_lane (Err before) = Err (before + 1)

-- so many tapes, one lane after another; or the number of the first lane whose tape can't be drawn
abbrev pub tapes_of : ℕ → (ℕ → ℕ) → Result (List XTape) ℕ
tapes_of lanes ahead = by_lane (drawn_onto tape_drawing [] lanes ahead)

-- the secret of a bid with these tapes
abbrev pub secret_with : List ℕ → ℕ → ℕ → Result (List XTape) ℕ → Result Secret ℕ
secret_with auction seat bid (Ok tapes) =
    Ok (record { auction = auction; seat = seat; bid = bid; lanes = tapes })
secret_with auction seat bid (Err lane) = Err lane

-- the secret of a bid at a seat of an auction, drawn from the words ahead for so many lanes
abbrev pub secret_of : ℕ → ℕ → List ℕ → ℕ → (ℕ → ℕ) → Result Secret ℕ
secret_of bid seat auction lanes ahead = secret_with auction seat bid (tapes_of lanes ahead)

-- the commitments of a lane: those of a split wire at the bidder's seat
abbrev pub lane_com : List ℕ → ℕ → ℕ → ℕ → XTape → WireCom
lane_com auction seat bid lane tape =
    let place : Place = record { auction = auction; seat = seat; lane = lane; slot = 0 } in
    made_com Split place bid (wire_tape tape)

-- the commitments of each lane from that number on
abbrev pub lane_coms : List ℕ → ℕ → ℕ → ℕ → List XTape → List WireCom
lane_coms auction seat bid lane [] = []
lane_coms auction seat bid lane (tape ∷ tapes) =
    lane_com auction seat bid lane tape ∷ lane_coms auction seat bid (lane + 1) tapes

-- the seal of a secret
abbrev pub seal_of : Secret → Seal
seal_of secret = record {
  auction = secret.auction;
  seat = secret.seat;
  lanes = lane_coms secret.auction secret.seat secret.bid 1 secret.lanes;
}

-- the secret with these tapes, and its seal
abbrev pub sealed_tapes : List ℕ → ℕ → ℕ → List XTape → Secret × Seal
sealed_tapes auction seat bid tapes =
    let secret : Secret = record { auction = auction; seat = seat; bid = bid; lanes = tapes } in
    (secret, seal_of secret)

abbrev pub with_seal : Result Secret ℕ → Result (Secret × Seal) SealErr
with_seal (Ok secret) = Ok (secret, seal_of secret)
with_seal (Err lane) = Err (DrySeed lane)

-- what making a seal answers: a bid must be below 2^width
abbrev pub made_seal : ℕ → ℕ → List ℕ → ℕ → ℕ → (ℕ → ℕ) → Result (Secret × Seal) SealErr
made_seal bid seat auction width lanes ahead =
    if nat_lt bid (2 ^ width) then with_seal (secret_of bid seat auction lanes ahead)
    else Err BidTooLarge

-- the words ahead after that: for a bid that is too large none is taken
abbrev pub after_seal : ℕ → ℕ → ℕ → (ℕ → ℕ) → ℕ → ℕ
after_seal bid width lanes ahead = if nat_lt bid (2 ^ width)
    then after_draws tape_drawing lanes ahead else ahead

-- these words are left ahead, unless it is want of memory
abbrev pub Leaves : {T : Type 0} → Result T SealErr → (ℕ → ℕ) → (ℕ → ℕ) → Type 0
Leaves (Err NoMemory) expected left = Unit {0}
Leaves (Ok x) expected left = left ≡ expected
Leaves (Err BidTooLarge) expected left = left ≡ expected
Leaves (Err (DrySeed lane)) expected left = left ≡ expected

-- an answer is the expected one, unless it is want of memory
abbrev pub IsExpected : {T : Type 0} → Result T SealErr → Result T SealErr → Type 0
IsExpected (Err NoMemory) expected = Unit {0}
IsExpected (Ok x) expected = Ok x ≡ expected
IsExpected (Err BidTooLarge) expected = Err BidTooLarge ≡ expected
IsExpected (Err (DrySeed lane)) expected = Err (DrySeed lane) ≡ expected

-- the tapes that were drawn, or the first lane whose tape can't be
abbrev pub TapesAnswer : Result (List XTape) SealErr → Result (List XTape) ℕ → Type 0
TapesAnswer (Ok tapes) expected = expected ≡ Ok tapes
TapesAnswer (Err (DrySeed lane)) expected = expected ≡ Err lane
TapesAnswer (Err BidTooLarge) expected = ⊥
TapesAnswer (Err NoMemory) expected = ⊥
