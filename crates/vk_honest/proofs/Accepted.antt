-- Every reply of an honest prover is accepted, behind any front, and so is every reply of an honest
-- auctioneer.
use Rattle.std.proofs.Common.{◌≡◌, ℕ, ◌+◌, ◌-◌, ◌<◌, ◌≤◌, false, List, [], length, refl, sym, ap, subst, ◌∙◌, arith}
use Rattle.std.specs.Prelude.{slice_index_or}
use Rattle.std.specs.List.{AllByRecursion}
use Rattle.vk_wire.specs.declared.wire.Shown.{Shown}
use Rattle.vk_row.specs.Lanes.{IsAccepted}
use Rattle.vk_board.specs.declared.board.LaneLines.{LaneLines}
use Rattle.vk_board.specs.Fronts.{front_text}
use Rattle.vk_board.specs.Values.{IsBoard, IsLaneLines}
use Rattle.vk_reply.specs.declared.challenge.Challenge.{Challenge}
use Rattle.vk_reply.specs.Texts.{challenge_text}
use Rattle.vk_reply.specs.Values.{IsChallenge, IsReply}
use Rattle.vk_range.specs.SetLaws.{at_listed, length_listed}
use Rattle.vk_judge.specs.Statement.{StatementValue}
use Rattle.vk_judge.specs.Behind.{case_of}
use Rattle.vk_verifier.specs.Verdicts.{statement_of}
use Rattle.vk_judge.specs.Acceptance.{AcceptsBehind, AreLanes, LaneIsAccepted, bit_of, file_text, no_lines}
use Rattle.vk_verifier.specs.Acceptance.{Accepts, shape_of}
use Rattle.vk_verifier.proofs.Plans.{rows_are, wires_are}
use Rattle.vk_keeper.specs.declared.auction.Auction.{Auction}
use Rattle.vk_job.specs.Proofs.{ProofValue, lane_in, lane_shown_in, lanes_in, lanes_shown_from, reply_in}
use Rattle.vk_job.specs.Jobs.{IsProvedAuction, proof_of}
use Rattle.vk_job.specs.Published.{IsChallengeTo, board_of, head_of, published, reply_of}
use Rattle.vk_job.proofs.Parts.{lanes_are, length_shown}
use Rattle.vk_job.proofs.Parts as parts
use Rattle.vk_honest.specs.Answers.{AnswersAreAccepted, IsSealedProof, ProofsAreAccepted, front_of, statement_in}
use Rattle.vk_honest.proofs.Fronts.{board_is_file, front_is, same_lanes, same_statement, sealed}
use Rattle.vk_honest.proofs.Cases.{lane_accepted}

module _ (width : ℕ) (proof : ProofValue) (is : IsSealedProof width proof) (challenge : Challenge) (right : IsChallenge challenge)
    (count : length challenge.bits ≡ proof.lanes) where
  abbrev shown : List (List Shown)
  shown = lanes_shown_from proof 1 challenge.bits

  -- what is shown of a lane is for its bit
  pub shown_at : (index : ℕ) → index < length challenge.bits
      → slice_index_or shown index []
      ≡ lane_shown_in proof (index + 1) (bit_of challenge (index + 1))
  shown_at index within =
      let number : 1 + index ≡ index + 1 = omega arith in
      let place : index ≡ index + 1 - 1 = omega arith in
      parts.shown_at proof 1 challenge.bits index [] within
      ∙ (ap (λ n. lane_shown_in proof n (slice_index_or challenge.bits index false)) number
      ∙ ap (λ i. lane_shown_in proof (index + 1) (slice_index_or challenge.bits i false)) place)

  pub lane_is : (lane : ℕ) → 1 ≤ lane → lane ≤ proof.lanes
      → LaneIsAccepted (statement_in proof) (lanes_in proof) challenge shown lane
  lane_is lane some last =
      let number : lane - 1 + 1 ≡ lane = omega arith in
      let bit = bit_of challenge lane in
      let lines : slice_index_or (lanes_in proof) (lane - 1) no_lines ≡ lane_in proof lane =
      at_listed (λ index. lane_in proof (index + 1)) proof.lanes (lane - 1) no_lines (omega arith)
      ∙ ap (lane_in proof) number in
      let one : slice_index_or shown (lane - 1) [] ≡ lane_shown_in proof lane bit =
      shown_at (lane - 1) (omega (arith, count))
      ∙ ap (λ n. lane_shown_in proof n (bit_of challenge n)) number in
      let P : LaneLines → Type 0 =
      λ lines. IsAccepted proof.plan (case_of (statement_in proof) lane lines) bit
      (slice_index_or shown (lane - 1) []) in
      let Q : List Shown → Type 0 =
      λ one. IsAccepted proof.plan (case_of (statement_in proof) lane (lane_in proof lane)) bit
      one in
      subst P (sym lines) (subst Q (sym one) (lane_accepted width proof is lane some last bit))

  -- the lanes, the challenge and the reply that are accepted behind a front with this text
  abbrev pub accepts_proof : (front : List ℕ)
      → AcceptsBehind (statement_in proof) front (file_text front (lanes_in proof))
      (challenge_text challenge) (reply_in proof challenge.bits)
  accepts_proof front = record {
    lines = lanes_in proof;
    challenge = challenge;
    reply = shown;
    file_is = (refl, lanes_are proof is.right);
    challenge_is = (refl, right);
    reply_is = (refl, parts.reply_is proof challenge is.right right count);
    one_each = length_listed (λ index. lane_in proof (index + 1)) proof.lanes;
    one_bit_each = count;
    one_reply_each = length_shown proof 1 challenge.bits ∙ count;
    lanes = lane_is;
  }

pub proofs_are_accepted : ProofsAreAccepted
proofs_are_accepted width proof front challenge is right count =
    accepts_proof width proof is challenge right count front

-- ---- auctions

-- what is said of the auction's proof is said of what its board is to show
pub of_board : (auction : Auction) (P : StatementValue → Type 0)
    → P (statement_in (proof_of auction)) → P (statement_of (front_of auction))
of_board auction P said = subst P (sym (same_statement auction)) said

pub board_is : (auction : Auction) → IsProvedAuction auction → IsBoard shape_of (published auction)
board_is auction proved =
    let front = front_is auction proved in
    let lanes = lanes_in (proof_of auction) in
    let plan = (statement_of (front_of auction)).plan in
    let right : AreLanes (statement_of (front_of auction)) lanes =
    of_board auction (λ s. AreLanes s lanes)
    (lanes_are (proof_of auction) (sealed auction proved).right) in
    let W : ℕ → Type 0 = λ wires. AllByRecursion (IsLaneLines wires (length plan.rows)) lanes in
    let R : ℕ → Type 0 = λ rows.
    AllByRecursion (IsLaneLines (shape_of (head_of auction)).wires rows) lanes in
    record {
      head = front.head;
      seals = front.seals;
      count = length_listed (λ index. lane_in (proof_of auction) (index + 1)) auction.lanes
          ∙ sym (same_lanes auction);
      lanes = subst R (rows_are (front_of auction) front)
          (subst W (wires_are (front_of auction) front) right);
    }

-- the board's front, and behind it what the auction's proof shows
module _ (auction : Auction) (proved : IsProvedAuction auction) (challenge : Challenge) (is : IsChallengeTo auction challenge) where
  abbrev shows : (front : List ℕ)
      → AcceptsBehind (statement_in (proof_of auction)) front
      (file_text front (lanes_in (proof_of auction))) (challenge_text challenge)
      (reply_of auction challenge)
  shows = accepts_proof auction.width (proof_of auction) (sealed auction proved) challenge is.right
      is.one_bit_each

  abbrev pub accepts : Accepts (board_of auction) (challenge_text challenge)
      (reply_of auction challenge)
  accepts =
      let proof = proof_of auction in
      let reply = lanes_shown_from proof 1 challenge.bits in
      let behind = shows (front_text (front_of auction)) in
      record {
        front = front_of auction;
        right = front_is auction proved;
        behind = record {
          lines = lanes_in proof;
          challenge = challenge;
          reply = reply;
          file_is = (
            board_is_file auction,
            of_board auction (λ s. AreLanes s (lanes_in proof)) behind.file_is.1,
          );
          challenge_is = (refl, is.right);
          reply_is = (
            refl,
            of_board auction (λ s. IsReply s.plan.kinds (bit_of challenge) reply)
                behind.reply_is.1,
          );
          one_each = behind.one_each ∙ sym (same_lanes auction);
          one_bit_each = is.one_bit_each ∙ sym (same_lanes auction);
          one_reply_each = behind.one_reply_each ∙ sym (same_lanes auction);
          lanes = of_board auction
              (λ s. (lane : ℕ) → 1 ≤ lane → lane ≤ s.lanes
              → LaneIsAccepted s (lanes_in proof) challenge reply lane) behind.lanes;
        };
      }

pub answers_are_accepted : AnswersAreAccepted
answers_are_accepted auction challenge proved is = accepts auction proved challenge is
