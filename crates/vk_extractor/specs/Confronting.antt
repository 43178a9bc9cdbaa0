-- What a bidder's secret says of a lane, and what is shown of it against that.
use Rattle.std.specs.Prelude.{◌≡◌, ℕ, ◌-◌, Bool, true, false, ◌==◌, List, [], Option, Some, None, if◌then◌else◌, slice_index_or}
use Rattle.vk_commit.specs.Commitment.{TwoOpeningsSeen, AreTwoOpenings, Opens}
use Rattle.vk_commit.specs.declared.place.Place.{Place}
use Rattle.vk_commit.specs.declared.place.Opening.{Opening}
use Rattle.vk_plan.specs.declared.wire.WireKind.TheVariants.{Split}
use Rattle.vk_wire.specs.Made.{first_opening, second_opening}
use Rattle.vk_wire.specs.Places.{entry_place}
use Rattle.vk_wire.specs.Reads.{entry_digest}
use Rattle.vk_wire.specs.declared.wire.WireCom.{WireCom}
use Rattle.vk_seal.specs.Made.{lane_com}
use Rattle.vk_seal.specs.Values.{wire_tape}
use Rattle.vk_seal.specs.declared.secret.XTape.{XTape}
use Rattle.vk_seal.specs.declared.secret.Secret.{Secret}
use Rattle.vk_extractor.specs.Clash.{entry_opening, or_else}

-- ---- what the secret says of the lane of that number, from 1

-- what a secret has past its last lane
abbrev pub no_tape : XTape
no_tape = record { mask = 0; first_key = []; second_key = [] }

-- how the bid is split
abbrev pub tape_in : Secret → ℕ → XTape
tape_in secret lane = slice_index_or secret.lanes (lane - 1) no_tape

-- where the commitment to the first half, or to the second, stands
abbrev pub secret_place : Secret → ℕ → Bool → Place
secret_place secret lane second =
    let place : Place = record {
      auction = secret.auction;
      seat = secret.seat;
      lane = lane;
      slot = 0;
    } in entry_place place second

-- both commitments
abbrev pub secret_com : Secret → ℕ → WireCom
secret_com secret lane = lane_com secret.auction secret.seat secret.bid lane (tape_in secret lane)

-- the commitment to the first half, or to the second
abbrev pub secret_digest : Secret → ℕ → Bool → List ℕ
secret_digest secret lane second = entry_digest (secret_com secret lane) second

-- the opening of the first half, or of the second
abbrev pub secret_opening : Secret → ℕ → Bool → Opening
secret_opening secret lane second =
    let tape = wire_tape (tape_in secret lane) in
    entry_opening second (first_opening Split secret.bid tape)
    (second_opening Split secret.bid tape)

-- ---- what is shown of the lane

-- the opening opens the secret's commitment to the first half, or to the second
abbrev pub OpensSecret : Secret → ℕ → Bool → Opening → Type 0
OpensSecret secret lane second shown =
    Opens (secret_place secret lane second) (secret_digest secret lane second) shown

-- both values that are shown are the secret's
pub record AreItsHalves (secret : Secret) (lane : ℕ) (first second : Opening) : Type 0 where
  pub first_half : first.value ≡ (secret_opening secret lane false).value
  pub second_half : second.value ≡ (secret_opening secret lane true).value

-- the secret's opening of a half and the shown one, where their values differ
abbrev pub confronted_half : Secret → ℕ → Bool → Opening → Option TwoOpeningsSeen
confronted_half secret lane second shown =
    let own = secret_opening secret lane second in
    let two : TwoOpeningsSeen = record {
      place = secret_place secret lane second;
      digest = secret_digest secret lane second;
      first = own;
      second = shown;
    } in
    if own.value == shown.value then None else Some two

-- the same of the first half where their values differ there, else of the second half
abbrev pub confronted : Secret → ℕ → Opening → Opening → Option TwoOpeningsSeen
confronted secret lane first second =
    or_else (confronted_half secret lane false first) (confronted_half secret lane true second)

-- of one of the halves the secret's opening, and after it the shown one, both open the secret's
-- commitment, and their values differ
pub record IsConfronted (secret : Secret) (lane : ℕ) (first second : Opening)
    (two : TwoOpeningsSeen) : Type 0 where
  pub half : Bool
  pub place : two.place ≡ secret_place secret lane half
  pub digest : two.digest ≡ secret_digest secret lane half
  pub own : two.first ≡ secret_opening secret lane half
  pub shown : two.second ≡ entry_opening half first second
  pub openings : AreTwoOpenings two.place two.digest two.first two.second
