-- What is extracted of two replies that are accepted with a claim file is true of the file.
use Rattle.std.proofs.Common.{ℕ, List, ◌++◌, refl, ap, ◌∙◌}
use Rattle.std.specs.Prelude.{codes}
use Rattle.std.specs.List.{flat_map}
use Rattle.vk_commit.specs.Commitment.{TwoOpeningsSeen}
use Rattle.vk_lines.specs.Forms.{line}
use Rattle.vk_board.specs.declared.board.SealLines.{SealLines}
use Rattle.vk_board.specs.Texts.{lanes_text}
use Rattle.vk_judge.specs.Statement.{StatementValue}
use Rattle.vk_judge.specs.FileForms.{bits_of, two_lane_in}
use Rattle.vk_bids.specs.FileHeadline.{IsClashOf, differing_in}
use Rattle.vk_bids.specs.Soundness.{TellsTwoOpenings}
use Rattle.vk_bids.specs.Texts.{agreements_text, clash_text}
use Rattle.vk_bids.proofs.Soundness.{seat_lines}
use Rattle.vk_bids.proofs.Standing.{clash_stands}
use Rattle.vk_claim.specs.declared.front.ClaimFront.{ClaimFront}
use Rattle.vk_claim.specs.declared.front.ClaimHead.{ClaimHead}
use Rattle.vk_words.specs.declared.claim.Kind.{Kind}
use Rattle.vk_claim.specs.Extraction.{IsClaimOpened, OpenedClaim, TwoClaimsAccepted}
use Rattle.vk_claim.specs.Printing.{claim_extraction_text, kind_text, values_text}
use Rattle.vk_claim.specs.Texts.{claim_head_text}
use Rattle.vk_claim.proofs.Fronts.{statement_right}
use Rattle.vk_claims.specs.Circuits.{admitted_plan, claimed, plans_are_right}
use Rattle.vk_claims.specs.Soundness.{BeginsWithClaim, TellsValues}

module _ {file challenge reply other second : List ℕ}
    (two : TwoClaimsAccepted admitted_plan file challenge reply other second) where
  abbrev front : ClaimFront
  front = two.first.front.front

  pub begins_with_claim : BeginsWithClaim file front
  begins_with_claim = record {
    behind = lanes_text 1 two.first.behind.lines ++ line (codes "end");
    file_is = two.first.behind.file_is.0;
  }

  pub values_are_told : (found : OpenedClaim) → IsClaimOpened admitted_plan claimed two found
      → TellsValues front (differing_in two) (claim_extraction_text found)
  values_are_told found is =
      let lanes = found.opened.lanes in
      let opened = is.is.opened in
      let told : Kind → List SealLines → List ℕ =
      λ kind seals. flat_map values_text lanes
      ++ (kind_text kind ++ (agreements_text 0 seals lanes ++ line (codes "end"))) in
      record {
        lanes = lanes;
        numbered = opened.numbers;
        each = λ k d within. record {
          one_each = (opened.opens k d within).one_each;
          opened = (opened.opens k d within).opened;
          holds = is.holds k d within;
        };
        seats = agreements_text 0 front.seals lanes;
        of_seals = seat_lines 0 front.seals lanes;
        text_is = ap (λ (head : ClaimHead). told head.kind found.opened.statement.seals) is.is.head
            ∙ ap (λ (s : StatementValue). told front.head.kind s.seals) opened.statement;
      }

  pub clash_is_told : (clash : TwoOpeningsSeen) → IsClashOf two clash
      → TellsTwoOpenings file front.head.auction (clash_text clash)
  clash_is_told clash is = record {
    place = clash.place;
    digest = clash.digest;
    first = clash.first;
    second = clash.second;
    auction = is.auction;
    in_file = clash_stands two.first.behind
        (statement_right admitted_plan plans_are_right two.first.front two.first.right)
        (claim_head_text front.head) refl (two_lane_in two.first two.second) (λ number. refl)
        (bits_of two.second) front.head.auction clash is;
    openings = is.openings;
    text_is = refl;
  }
