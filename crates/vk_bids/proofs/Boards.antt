-- What two replies to a board come to, from what they come to of a file.
use Rattle.std.proofs.Common.{◌≡◌, ℕ, All, List, Option, Some, None, refl, sym, ap, subst, ◌∙◌}
use Rattle.std.proofs.lemmas.List.Elements.{All-weaker}
use Rattle.vk_board.specs.declared.front.Front.{Front}
use Rattle.vk_board.specs.Fronts.{IsFront}
use Rattle.vk_judge.specs.Opened.{FileBase}
use Rattle.vk_judge.specs.Statement.{StatementValue}
use Rattle.vk_verifier.specs.declared.answers.BoardRefusal.{BoardRefusal}
use Rattle.vk_verifier.specs.declared.boards.PlacedHead.{PlacedHead}
use Rattle.vk_verifier.specs.Refusals.{board_form}
use Rattle.vk_verifier.specs.TwoBoards.{IsOfBoard}
use Rattle.vk_verifier.specs.Verdicts.{IsBoard, board_front, board_front_at, placed_head, statement_of}
use Rattle.vk_verifier.proofs.Verdicts.{is_form}
use Rattle.vk_bids.specs.declared.bids.LaneBids.{LaneBids}
use Rattle.vk_bids.specs.declared.extraction.Extraction.TheVariants.{Refused, Same, Clash, Bids}
use Rattle.vk_bids.specs.Extraction.{AreOfBoard, Extraction, Shows, as_extraction}
use Rattle.vk_bids.specs.FileExtraction.{FileExtraction, OpensBase, file_extraction_in, file_of}
use Rattle.vk_bids.specs.FileHeadline.{IsOfFile}
use Rattle.vk_bids.specs.Headline.{AcceptedAreExtracted, IsFound, IsOf, OnlyAcceptedAreExtracted, SameIsFound, TwoAccepted}
use Rattle.vk_bids.specs.Opening.{LaneOpens}
use Rattle.vk_bids.specs.Outcome.{LaneShows}
use Rattle.vk_bids.proofs.FileHeadline.{accepted_open, only_accepted_open_file, same_is_found_of_file}
use Rattle.vk_bids.proofs.Showing.{opens_shows}

-- ---- whatever the files are

-- the lanes of a board show its sale
lanes_show : (front : Front) (s : StatementValue) (lanes : List LaneBids) → IsFront front
    → s ≡ statement_of front
    → All (LaneOpens s) lanes
    → All (LaneShows front) lanes
lanes_show front s lanes is same opens =
    let P : StatementValue → Type 0 = λ s. All (LaneOpens s) lanes in
    All-weaker (LaneOpens (statement_of front)) (LaneShows front)
    (λ lane. opens_shows front lane.number lane.bids is) lanes
    (subst P same opens)

are_of_board : (base : Option (FileBase PlacedHead))
    (found : FileExtraction PlacedHead BoardRefusal)
    → IsOfBoard base → OpensBase base found → AreOfBoard found
are_of_board base (Refused second refusal) right opens = tt
are_of_board base Same right opens = tt
are_of_board base (Clash two) right opens = tt
are_of_board None (Bids found) right opens = absurd opens.such
are_of_board (Some known) (Bids found) right opens = record {
  such = subst IsBoard opens.such right;
  statement = opens.statement;
  lanes = opens.lanes;
}

shown : (found : FileExtraction PlacedHead BoardRefusal) → AreOfBoard found
    → Shows (as_extraction found)
shown (Refused second refusal) are = tt
shown Same are = tt
shown (Clash two) are = tt
shown (Bids found) are = (
  are.such.front,
  lanes_show (board_front (file_of found)) found.opened.statement found.opened.lanes are.such.front
      are.such.is are.lanes,
)

pub board_shows : (base : Option (FileBase PlacedHead))
    (found : FileExtraction PlacedHead BoardRefusal) (extraction : Extraction) → IsOfBoard base
    → OpensBase base found → extraction ≡ as_extraction found → Shows extraction
board_shows base found extraction right opens is =
    subst Shows (sym is) (shown found (are_of_board base found right opens))

-- ---- accepted replies

module _ {board challenge reply other second : List ℕ} (two : TwoAccepted board challenge reply other second) where
  pub is_of : (found : FileExtraction PlacedHead BoardRefusal) → IsOfFile board_form two found
      → IsOf two (as_extraction found)
  is_of (Bids found) is =
      let front = two.first.front in
      let F : PlacedHead → StatementValue → Front =
      λ head s. board_front (record { head = head; statement = s }) in
      record {
        front = ap (λ head. F head found.opened.statement) is.head
            ∙ ap (F (placed_head front)) is.opened.statement;
        numbers = is.opened.numbers;
        shown = is.opened.shown;
        outcomes = lanes_show front (statement_of front) found.opened.lanes two.first.right refl
            is.opened.opens;
        agree = is.opened.agree;
      }
  is_of (Clash clash) is = is
  is_of Same is = absurd is
  is_of (Refused of_second refusal) is = absurd is

pub accepted_are_extracted : AcceptedAreExtracted
accepted_are_extracted board challenge reply other second two =
    is_of two (file_extraction_in board_front_at board challenge reply other second)
    (accepted_open board_form is_form board challenge reply other second two)

is_found : (found : FileExtraction PlacedHead BoardRefusal) → IsFound (as_extraction found)
    → IsFound found
is_found (Bids found) is = is
is_found (Clash clash) is = is
is_found Same is = is
is_found (Refused of_second refusal) is = is

pub only_accepted_are_extracted : OnlyAcceptedAreExtracted
only_accepted_are_extracted board challenge reply other second found =
    only_accepted_open_file board_form is_form board challenge reply other second
    (is_found (file_extraction_in board_front_at board challenge reply other second) found)

is_same : (found : FileExtraction PlacedHead BoardRefusal) → as_extraction found ≡ Same
    → found ≡ Same
is_same (Bids found) same = cc
is_same (Clash clash) same = cc
is_same Same same = refl
is_same (Refused of_second refusal) same = cc

pub same_is_found : SameIsFound
same_is_found board challenge reply other second =
    let found = file_extraction_in board_front_at board challenge reply other second in
    let exactly = same_is_found_of_file board_form is_form board challenge reply other second in
    (λ same. exactly.0 (is_same found same), λ both. ap as_extraction (exactly.1 both))
