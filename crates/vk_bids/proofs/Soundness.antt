-- What is extracted of two accepted replies is true of their board.
use Rattle.std.proofs.Common.{◌≡◌, ℕ, ◌+◌, List, [], ◌∷◌, ◌++◌, refl, ap}
use Rattle.std.specs.Prelude.{codes}
use Rattle.std.specs.List.{flat_map}
use Rattle.vk_commit.specs.Commitment.{TwoOpeningsSeen}
use Rattle.vk_lines.specs.Forms.{line}
use Rattle.vk_board.specs.declared.board.SealLines.{SealLines}
use Rattle.vk_board.specs.declared.front.Front.{Front}
use Rattle.vk_board.specs.Texts.{head_text, lanes_text, seal_lines_text}
use Rattle.vk_verifier.specs.Acceptance.{Accepts}
use Rattle.vk_judge.specs.FileForms.{Fronts, bits_of, two_lane_in}
use Rattle.vk_judge.specs.Statement.{IsStatement}
use Rattle.vk_verifier.proofs.Plans.{statement_right}
use Rattle.vk_bids.specs.declared.bids.LaneBids.{LaneBids}
use Rattle.vk_bids.specs.declared.extraction.Extracted.{Extracted}
use Rattle.vk_bids.specs.FileHeadline.{IsClashOf, TwoAccepted}
use Rattle.vk_bids.specs.Headline.{IsExtraction, IsExtractionClash, differing_in}
use Rattle.vk_bids.specs.Headline as headline
use Rattle.vk_bids.specs.Soundness.{AreSeatLines, BeginsWithFront, TellsBids, TellsTwoOpenings}
use Rattle.vk_bids.specs.Texts.{agreements_text, clash_text, extraction_text, has_one_bid, lane_bids_text, sale_line}
use Rattle.vk_bids.proofs.Standing.{clash_stands}

pub seat_lines : (index : ℕ) (seals : List SealLines) (lanes : List LaneBids)
    → AreSeatLines seals (agreements_text index seals lanes)
seat_lines index [] lanes = refl
seat_lines index (seal ∷ seals) lanes = (
  has_one_bid index lanes,
  agreements_text (index + 1) seals lanes,
  refl,
  seat_lines (index + 1) seals lanes,
)

pub begins_with_front : {board challenge reply : List ℕ}
    (accepted : Accepts board challenge reply) → BeginsWithFront board accepted.front
begins_with_front accepted = record {
  behind = lanes_text 1 accepted.behind.lines ++ line (codes "end");
  file_is = accepted.behind.file_is.0;
  counted = accepted.right.seals.count;
  unnamed = accepted.right.head.reserve.unnamed;
  winner = accepted.right.winner;
}

-- the clash of two replies to a file whose front ends with its seals
pub clash_told : {F : Type 0} {fronts : Fronts F} {file challenge reply other second : List ℕ}
    (two : TwoAccepted fronts file challenge reply other second)
    → IsStatement (fronts.statement two.first.front) → (head : List ℕ)
    → fronts.text two.first.front
    ≡ head ++ flat_map seal_lines_text (fronts.statement two.first.front).seals
    → (clash : TwoOpeningsSeen) → IsClashOf two clash
    → TellsTwoOpenings file (fronts.statement two.first.front).auction (clash_text clash)
clash_told {F} {fronts} two right head text_is clash is = record {
  place = clash.place;
  digest = clash.digest;
  first = clash.first;
  second = clash.second;
  auction = is.auction;
  in_file = clash_stands two.first.behind right head text_is (two_lane_in two.first two.second)
      (λ number. refl) (bits_of two.second) (fronts.statement two.first.front).auction clash is;
  openings = is.openings;
  text_is = refl;
}

module _ {board challenge reply other second : List ℕ} (two : headline.TwoAccepted board challenge reply other second) where
  pub bids_are_told : (found : Extracted) → IsExtraction two found
      → TellsBids two.first.front (differing_in two) (extraction_text found)
  bids_are_told found is = record {
    lanes = found.lanes;
    numbered = is.numbers;
    each = is.outcomes;
    seats = agreements_text 0 two.first.front.seals found.lanes;
    of_seals = seat_lines 0 two.first.front.seals found.lanes;
    text_is = ap (λ (front : Front). flat_map lane_bids_text found.lanes
        ++ (sale_line front.head
        ++ (agreements_text 0 front.seals found.lanes ++ line (codes "end")))) is.front;
  }

  pub clash_is_told : (clash : TwoOpeningsSeen) → IsExtractionClash two clash
      → TellsTwoOpenings board two.first.front.head.auction (clash_text clash)
  clash_is_told = clash_told two (statement_right two.first.front two.first.right)
      (head_text two.first.front.head) refl
