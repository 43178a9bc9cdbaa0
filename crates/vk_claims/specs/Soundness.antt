-- What is true of what `claim-extract` prints, whoever made the files: values that open seals of the
-- claim file, and of which its claim holds.
use Rattle.std.specs.Prelude.{◌≡◌, ℕ, All, List, ◌++◌, codes, map, slice_get, Some}
use Rattle.std.specs.List.{flat_map}
use Rattle.vk_lines.specs.Forms.{line}
use Rattle.vk_board.specs.Reading.{seats_of}
use Rattle.vk_bids.specs.declared.bids.LaneBids.{LaneBids}
use Rattle.vk_bids.specs.declared.bids.OpenedBid.{OpenedBid}
use Rattle.vk_bids.specs.Opening.{OpensSeal}
use Rattle.vk_bids.specs.Soundness.{AreSeatLines}
use Rattle.vk_claim.specs.declared.front.ClaimFront.{ClaimFront}
use Rattle.vk_claim.specs.Printing.{kind_text, values_text}
use Rattle.vk_claim.specs.Texts.{claim_front_text}
use Rattle.vk_claims.specs.Circuits.{claimed}

-- the file begins with the lines of a claim's head and of its seals
pub record BeginsWithClaim (file : List ℕ) (front : ClaimFront) : Type 0 where
  pub behind : List ℕ
  pub file_is : file ≡ claim_front_text front ++ behind

-- there is one value for each seal, it opens the seal in the lane of that number, and the claim of
-- the head's kind and numbers holds of them
pub record LaneIsClaimed (front : ClaimFront) (lane : LaneBids) : Type 0 where
  pub one_each : map (λ bid. bid.seat) lane.bids ≡ seats_of front.seals
  pub opened : (index : ℕ) (bid : OpenedBid) → slice_get lane.bids index ≡ Some bid
      → OpensSeal front.head.auction front.seals lane.number index bid
  pub holds : claimed front.head.kind front.head.inputs front.head.numbers
      (map (λ bid. bid.bid) lane.bids)

-- the text is the lines of the values of just the lanes with these numbers, of which the claim
-- holds; then the kind of the claim, a line for each seal, and the end
pub record TellsValues (front : ClaimFront) (numbers text : List ℕ) : Type 0 where
  pub lanes : List LaneBids
  pub numbered : map (λ lane. lane.number) lanes ≡ numbers
  pub each : All (LaneIsClaimed front) lanes
  pub seats : List ℕ
  pub of_seals : AreSeatLines front.seals seats
  pub text_is : text ≡ flat_map values_text lanes
      ++ (kind_text front.head.kind ++ (seats ++ line (codes "end")))
