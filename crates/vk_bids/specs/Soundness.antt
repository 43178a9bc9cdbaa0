-- What is true of what `extract` prints, whoever made the files: bids that open seals of the board
-- and make the sale that it publishes, or two openings of one of its commitments.
use Rattle.std.specs.Prelude.{◌≡◌, ◌≢◌, ℕ, Bool, All, List, [], ◌∷◌, ◌++◌, codes, length, map}
use Rattle.std.specs.List.{flat_map}
use Rattle.vk_commit.specs.Commitment.{AreTwoOpenings}
use Rattle.vk_commit.specs.declared.place.Opening.{Opening}
use Rattle.vk_commit.specs.declared.place.Place.{Place}
use Rattle.vk_lines.specs.Forms.{line}
use Rattle.vk_lines.specs.Tokens.{hex_text}
use Rattle.vk_board.specs.declared.board.SealLines.{SealLines}
use Rattle.vk_board.specs.declared.front.Front.{Front}
use Rattle.vk_board.specs.Fronts.{IsPlaced, front_text}
use Rattle.vk_bids.specs.declared.bids.LaneBids.{LaneBids}
use Rattle.vk_bids.specs.Outcome.{ShowsOutcome}
use Rattle.vk_bids.specs.Texts.{agreement_line, lane_bids_text, openings_text, sale_line}

-- the file begins with the lines of a board's head and of all seals that the head counts. With
-- version 1, which names no reserve, that is 0. The seal at the position has the seat that the head
-- names as the winner's, if it names one
pub record BeginsWithFront (file : List ℕ) (front : Front) : Type 0 where
  pub behind : List ℕ
  pub file_is : file ≡ front_text front ++ behind
  pub counted : length front.seals ≡ front.head.seals
  pub unnamed : front.head.version ≢ 2 → front.head.reserve ≡ 0
  pub winner : IsPlaced front.seals front.head.winner front.position

-- one line for each of the seals, with its seat and the word `same` or `differs`
abbrev pub AreSeatLines : List SealLines → List ℕ → Type 0
AreSeatLines [] text = text ≡ []
AreSeatLines (seal ∷ seals) text = (same : Bool) × (rest : List ℕ)
    × (text ≡ agreement_line seal same ++ rest) × AreSeatLines seals rest

-- the text is the lines of the bids of just the lanes with these numbers, which show the sale that
-- the board publishes; then that sale, a line for each seal, and the end
pub record TellsBids (front : Front) (numbers text : List ℕ) : Type 0 where
  pub lanes : List LaneBids
  pub numbered : map (λ lane. lane.number) lanes ≡ numbers
  pub each : All (λ lane. ShowsOutcome front lane.number lane.bids) lanes
  pub seats : List ℕ
  pub of_seals : AreSeatLines front.seals seats
  pub text_is : text ≡ flat_map lane_bids_text lanes
      ++ (sale_line front.head ++ (seats ++ line (codes "end")))

-- the part stands somewhere in the file
pub record StandsInFile (part file : List ℕ) : Type 0 where
  pub before : List ℕ
  pub after : List ℕ
  pub file_is : file ≡ before ++ (part ++ after)

-- the text is the line of two openings, with different values, of one commitment of the auction
-- with this id, whose digest stands in the file
pub record TellsTwoOpenings (file id text : List ℕ) : Type 0 where
  pub place : Place
  pub digest : List ℕ
  pub first : Opening
  pub second : Opening
  pub auction : place.auction ≡ id
  pub in_file : StandsInFile (hex_text digest) file
  pub openings : AreTwoOpenings place digest first second
  pub text_is : text ≡ openings_text place digest first second
