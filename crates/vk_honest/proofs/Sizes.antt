-- How many lines boards, challenges and replies have, and so at most how many bytes.
use Rattle.std.proofs.Common.{◌≡◌, ℕ, ◌+◌, ◌-◌, ◌*◌, ◌^◌, ◌<◌, ◌≤◌, ◌==◌, Bool, true, false, if◌then◌else◌, nat_lt, List, [], ◌∷◌, length, map, codes, decimal, refl, sym, ap, subst, ◌∙◌, arith}
use Rattle.std.specs.Prelude.{slice_index_or}
use Rattle.std.specs.List.{AllByRecursion, flat_map, slice_split}
use Rattle.std.proofs.lemmas.Bool.Decides.{nat_tests}
use Rattle.std.proofs.lemmas.List.Splits.{length-slice_split}
use Rattle.std.proofs.lemmas.Nat.{mul-le}
use Rattle.vk_lines.specs.Forms.{is_word, line, spaced}
use Rattle.vk_lines.proofs.Each.{each_from_at}
use Rattle.vk_lines.proofs.Parts.{each_from_all}
use Rattle.vk_lines.proofs.Words.{fixed_line, id_line_is, number_line_is, to_test}
use Rattle.vk_residue.specs.Residue.{IsResidue, modulus}
use Rattle.vk_plan.specs.declared.wire.WireKind.{WireKind}
use Rattle.vk_plan.specs.declared.wire.WireKind.TheVariants.{Split}
use Rattle.vk_wire.specs.declared.wire.Shown.{Shown}
use Rattle.vk_wire.specs.declared.wire.WireCom.{WireCom}
use Rattle.vk_wire.specs.Values.{IsCom}
use Rattle.vk_board.specs.declared.board.Head.{Head}
use Rattle.vk_board.specs.declared.board.LaneLines.{LaneLines}
use Rattle.vk_board.specs.declared.board.SealLines.{SealLines}
use Rattle.vk_board.specs.Texts.{board_text, com_text, head_text, lane_text, posted_text, seal_lines_text}
use Rattle.vk_board.specs.Values.{AreSealsOf, Board, IsBoard, IsHead, IsLaneLines, IsSealAfter, IsSealLines, Shape}
use Rattle.vk_board.proofs.Lines.{com_line_is, from_residues, posted_line_is, winner_line_is}
use Rattle.vk_reply.specs.declared.challenge.Challenge.{Challenge}
use Rattle.vk_reply.specs.Texts.{challenge_text, reply_head_text, reply_lane_text, reply_text, shown_text}
use Rattle.vk_reply.specs.Values.{AreShown, IsChallenge, IsReply}
use Rattle.vk_reply.proofs.Lines.{bits_line_is, shown_line_is}
use Rattle.vk_reply.proofs.Wires.{IsWire, from_shown}
use Rattle.vk_vickrey.specs.declared.sales.Sale.{Sale}
use Rattle.vk_vickrey.specs.declared.sales.Sale.TheVariants.{Sold, Unsold}
use Rattle.vk_vickrey.specs.VickreyPlans.{row_count, wire_count}
use Rattle.vk_vickrey.specs.ReservePlans.{sale_row_count, sale_wire_count}
use Rattle.vk_vickrey.specs.BoardPlans.{BoardNumbers, board_row_count, board_wire_count}
use Rattle.vk_judge.specs.Behind.{later_wires}
use Rattle.vk_verifier.specs.Acceptance.{shape_of}
use Rattle.vk_verifier.proofs.Plans as verifier
use Rattle.vk_keeper.specs.declared.auction.Auction.{Auction}
use Rattle.vk_job.specs.Jobs.{IsProvedAuction, numbers_in, plan_of, proof_of}
use Rattle.vk_job.specs.Laws.{WhereProved}
use Rattle.vk_job.specs.Published.{IsChallengeTo, board_of, head_of, published, reply_of, shown_from}
use Rattle.vk_job.proofs.Held.{has_seal, inputs_are, proof_is, rows_are, wires_are}
use Rattle.vk_job.proofs.Parts.{lanes_are, length_shown, reply_is}
use Rattle.vk_job.specs.Proofs.{IsProof, ProofValue, file_of, lane_in, lanes_in, seal_lines_of}
use Rattle.vk_range.specs.SetLaws.{length_listed}
use Rattle.std.proofs.lemmas.List.{length-map}
use Rattle.vk_honest.specs.Answers.{WhereChallenged, front_of}
use Rattle.vk_honest.specs.Sizes.{IsShort, board_lines, head_lines, line_count, reply_lines}
use Rattle.vk_honest.proofs.Accepted.{board_is, of_board}
use Rattle.vk_honest.proofs.Fronts.{front_is}
use Rattle.vk_honest.proofs.Counted.{HasLines, both_have, flat_have, line_has, lines_as, none_have, numbered_have}

-- ---- the lines of a number, and the last

pub number_has : (word : List ℕ) (least most number : ℕ) → is_word word ≡ true → length word ≤ 200
    → most < 2 ^ 64 → least ≤ number → number ≤ most
    → HasLines 1 (line (spaced (word ∷ decimal number ∷ [])))
number_has word least most number is_a_word short fits from until =
    line_has (number_line_is word least most is_a_word short fits) number
    (until, to_test least number from)

end_has : HasLines 1 (line (codes "end"))
end_has = line_has (fixed_line (codes "end") refl (omega arith)) tt tt

-- ---- a board

-- a line names the reserve where there is one
reserve_has : (named : Bool) (reserve : ℕ) → reserve < 2 ^ 64
    → HasLines (if named then 1 else 0)
    (if named then line (spaced (codes "reserve" ∷ decimal reserve ∷ [])) else [])
reserve_has true reserve small =
    number_has (codes "reserve") 0 (2 ^ 64 - 1) reserve refl (omega arith) (omega arith)
    (omega arith) (omega arith)
reserve_has false reserve small = none_have

one_more : (named : Bool) → 5 + (if named then 1 else 0) + 2 ≡ (if named then 8 else 7)
one_more true = refl
one_more false = refl

head_has : (head : Head) → IsHead head → HasLines (head_lines head.version) (head_text head)
unfolding head_text
head_has head is =
    let named : Bool = head.version == 2 in
    let reserve : ℕ = if named then 1 else 0 in
    lines_as (1 + (1 + (1 + (1 + (1 + (reserve + (1 + 1))))))) (head_lines head.version) _
    (both_have (number_has (codes "vickrey-board") 1 2 head.version refl (omega arith) (omega arith)
    is.version.least is.version.most)
    (both_have (line_has (id_line_is (codes "auction") refl (omega arith)) head.auction is.id)
    (both_have (number_has (codes "width") 1 40 head.width refl (omega arith) (omega arith)
    is.size.width.least is.size.width.most)
    (both_have (number_has (codes "lanes") 1 64 head.lanes refl (omega arith) (omega arith)
    is.size.lanes.least is.size.lanes.most)
    (both_have (number_has (codes "seals") 1 64 head.seals refl (omega arith) (omega arith)
    is.some_seal is.few_seals)
    (both_have (reserve_has named head.reserve is.reserve.small)
    (both_have (line_has (winner_line_is head.version) head.winner is.winner)
    (number_has (codes "price") 0 (2 ^ 64 - 1) head.price refl (omega arith) (omega arith)
    (omega arith) (omega (arith, is.price))))))))))
    (omega (arith, one_more named))

coms_have : (word : List ℕ) → is_word word ≡ true → length word ≤ 100 → (coms : List WireCom)
    → AllByRecursion IsCom coms
    → HasLines (length coms * 1) (flat_map (λ digests. line (com_text word digests)) coms)
coms_have word is_a_word short coms are =
    flat_have {IsValue = λ before. IsCom} {text = λ digests. line (com_text word digests)} 1
    (λ before. line_has (com_line_is word is_a_word short)) [] coms
    (each_from_all IsCom [] coms are)

seal_has : (lanes : ℕ) (seal : SealLines) → IsSealLines lanes seal
    → HasLines (1 + lanes) (seal_lines_text seal)
unfolding seal_lines_text
seal_has lanes seal is =
    let seat = number_has (codes "seal") 1 65535 seal.seat refl (omega arith) (omega arith)
    is.some_seat is.last_seat in
    let coms = coms_have (codes "x") refl (omega arith) seal.coms is.coms in
    lines_as (1 + length seal.coms * 1) (1 + lanes) _ (both_have seat coms)
    (omega (arith, is.count))

posted_have : (posted : List ℕ) → AllByRecursion IsResidue posted
    → HasLines (length posted * 1) (flat_map (λ number. line (posted_text number)) posted)
posted_have posted are =
    let IsPosted : ℕ → Type 0 = λ number. number ≤ modulus - 1 in
    flat_have {IsValue = λ before. IsPosted} {text = λ number. line (posted_text number)} 1
    (λ before. line_has posted_line_is) [] posted
    (each_from_all IsPosted [] posted (from_residues posted are))

lane_has : (wires rows lane : ℕ) (lines : LaneLines) → lane ≤ 64 → IsLaneLines wires rows lines
    → HasLines (1 + wires + rows) (lane_text lane lines)
unfolding lane_text
lane_has wires rows lane lines few is =
    let number = number_has (codes "lane") 0 64 lane refl (omega arith) (omega arith) (omega arith)
    few in
    let coms = coms_have (codes "w") refl (omega arith) lines.coms is.coms in
    let posted = posted_have lines.posted is.posted in
    lines_as (1 + (length lines.coms * 1 + length lines.posted * 1)) (1 + wires + rows) _
    (both_have number (both_have coms posted)) (omega (arith, is.wire_count, is.row_count))

pub board_has : (shape : Head → Shape) (board : Board) → IsBoard shape board
    → HasLines (head_lines board.head.version + board.head.seals * (1 + board.head.lanes)
    + board.head.lanes * (1 + (shape board.head).wires + (shape board.head).rows) + 1)
    (board_text board)
unfolding board_text
board_has shape board is =
    let head = board.head in
    let lane : ℕ = 1 + (shape head).wires + (shape head).rows in
    let IsLane : LaneLines → Type 0 = IsLaneLines (shape head).wires (shape head).rows in
    let seals = flat_have {IsValue = IsSealAfter head.lanes} {text = seal_lines_text}
    (1 + head.lanes)
    (λ before seal after. seal_has head.lanes seal after.right) [] board.seals is.seals.each in
    let lanes = numbered_have {IsValue = λ before. IsLane} lane_text lane 64
    (λ before. lane_has (shape head).wires (shape head).rows (length before + 1)) [] board.lanes
    (omega (arith, is.count, is.head.size.lanes.most))
    (each_from_all IsLane [] board.lanes is.lanes) in
    let seal_lines : length board.seals * (1 + head.lanes) ≡ head.seals * (1 + head.lanes) =
    ap (λ n. n * (1 + head.lanes)) is.seals.count in
    let lane_lines : length board.lanes * lane ≡ head.lanes * lane = ap (λ n. n * lane) is.count in
    lines_as (head_lines head.version
    + (length board.seals * (1 + head.lanes) + (length board.lanes * lane + 1)))
    (head_lines head.version + head.seals * (1 + head.lanes) + head.lanes * lane + 1) _
    (both_have (head_has head is.head) (both_have seals (both_have lanes end_has)))
    (omega (arith, seal_lines, lane_lines))

-- ---- the file of a proof

-- behind a head's text of so many lines
pub file_has : (proof : ProofValue) → IsProof proof
    → AreSealsOf (length proof.rows) proof.lanes (map seal_lines_of proof.rows)
    → (count : ℕ) (head : List ℕ) → HasLines count head
    → HasLines (count + (length proof.rows * (1 + proof.lanes)
    + (proof.lanes * (1 + (length proof.plan.kinds - proof.plan.inputs) + length proof.plan.rows)
    + 1))) (file_of head proof)
file_has proof is are count head has =
    let wires = length proof.plan.kinds - proof.plan.inputs in
    let rows = length proof.plan.rows in
    let lane : ℕ = 1 + wires + rows in
    let lines = lanes_in proof in
    let IsLane : LaneLines → Type 0 = IsLaneLines wires rows in
    let long : length lines ≡ proof.lanes =
    length_listed (λ index. lane_in proof (index + 1)) proof.lanes in
    let seals = flat_have {IsValue = IsSealAfter proof.lanes} {text = seal_lines_text}
    (1 + proof.lanes)
    (λ before seal after. seal_has proof.lanes seal after.right) [] (map seal_lines_of proof.rows)
    are.each in
    let lanes = numbered_have {IsValue = λ before. IsLane} lane_text lane 64
    (λ before. lane_has wires rows (length before + 1)) [] lines
    (omega (arith, long, is.count.most)) (each_from_all IsLane [] lines (lanes_are proof is)) in
    let seal_lines : length (map seal_lines_of proof.rows) * (1 + proof.lanes)
    ≡ length proof.rows * (1 + proof.lanes) =
    ap (λ n. n * (1 + proof.lanes)) (length-map proof.rows seal_lines_of) in
    let lane_lines : length lines * lane ≡ proof.lanes * lane = ap (λ n. n * lane) long in
    lines_as (count + (length (map seal_lines_of proof.rows) * (1 + proof.lanes)
    + (length lines * lane + 1))) _ _
    (both_have has (both_have seals (both_have lanes end_has)))
    (omega (arith, seal_lines, lane_lines))

-- ---- a challenge

pub challenge_has : (challenge : Challenge) → IsChallenge challenge
    → HasLines 3 (challenge_text challenge)
unfolding challenge_text
challenge_has challenge is =
    both_have (line_has (fixed_line (codes "vickrey-challenge 1") refl (omega arith)) tt tt)
    (both_have (line_has bits_line_is challenge.bits (is.some_bit, is.few_bits)) end_has)

-- ---- a reply

reply_head_has : (lanes : ℕ) → 1 ≤ lanes → lanes ≤ 64 → HasLines 2 (reply_head_text lanes)
unfolding reply_head_text
reply_head_has lanes some few =
    both_have (line_has (fixed_line (codes "vickrey-reply 1") refl (omega arith)) tt tt)
    (number_has (codes "lanes") 1 64 lanes refl (omega arith) (omega arith) some few)

shown_has : (kinds : List WireKind) (bit : Bool) (lane : ℕ) (shown : List Shown) → lane ≤ 64
    → AreShown kinds bit shown → HasLines (1 + length kinds) (reply_lane_text lane shown)
unfolding reply_lane_text
shown_has kinds bit lane shown few are =
    let number = number_has (codes "lane") 0 64 lane refl (omega arith) (omega arith) (omega arith)
    few in
    let wires = flat_have {IsValue = λ before. IsWire kinds bit (length before)}
    {text = λ one. line (shown_text one)} 1
    (λ before. line_has (shown_line_is (slice_index_or kinds (length before) Split) bit)) [] shown
    (from_shown kinds bit shown are) in
    lines_as (1 + length shown * 1) (1 + length kinds) _ (both_have number wires)
    (omega (arith, are.one_each))

pub reply_has : (kinds : List WireKind) (bit_of : ℕ → Bool) (lanes : List (List Shown))
    → IsReply kinds bit_of lanes
    → HasLines (2 + length lanes * (1 + length kinds) + 1) (reply_text lanes)
unfolding reply_text
reply_has kinds bit_of lanes is =
    let IsLane : ℕ → List Shown → Type 0 = λ index. AreShown kinds (bit_of (index + 1)) in
    let each = each_from_at IsLane [] lanes (λ index shown at.
    let same : index ≡ 0 + index = omega arith in
    let P : ℕ → Type 0 = λ n. IsLane n shown in
    subst P same (is.each index shown at)) in
    let shown = numbered_have {IsValue = λ before. IsLane (length before)} reply_lane_text
    (1 + length kinds) 64
    (λ before. shown_has kinds (bit_of (length before + 1)) (length before + 1)) [] lanes
    (omega (arith, is.count.most)) each in
    lines_as (2 + (length lanes * (1 + length kinds) + 1))
    (2 + length lanes * (1 + length kinds) + 1) _
    (both_have (reply_head_has (length lanes) is.count.least is.count.most)
    (both_have shown end_has)) (omega arith)

-- ---- those of an auction

module _ (auction : Auction) (proved : IsProvedAuction auction) where
  abbrev numbers : BoardNumbers
  numbers = numbers_in auction

  all_wires : length (plan_of auction).kinds ≡ board_wire_count numbers
  all_wires = wires_are auction proved.right (has_seal auction proved)

  -- what the head tells of a lane is what the plan has
  shape_is : shape_of (head_of auction)
      ≡ record {
        wires = board_wire_count numbers - length auction.seals;
        rows = board_row_count numbers;
      }
  shape_is =
      let sealed = has_seal auction proved in
      let front = front_is auction proved in
      let shape : ℕ → ℕ → Shape = λ wires rows. record { wires = wires; rows = rows } in
      let wires : (shape_of (head_of auction)).wires
      ≡ board_wire_count numbers - length auction.seals =
      sym (verifier.wires_are (front_of auction) front)
      ∙ of_board auction (λ s. later_wires s.plan ≡ board_wire_count numbers - length auction.seals)
      (rw (all_wires, ← inputs_are auction proved.right sealed) refl) in
      let rows : (shape_of (head_of auction)).rows ≡ board_row_count numbers =
      sym (verifier.rows_are (front_of auction) front)
      ∙ of_board auction (λ s. length s.plan.rows ≡ board_row_count numbers)
      (rows_are auction proved.right sealed) in
      ap (λ n. shape n (shape_of (head_of auction)).rows) wires
      ∙ ap (shape (board_wire_count numbers - length auction.seals)) rows

  board_lines_are : HasLines (board_lines numbers auction.lanes) (board_of auction)
  unfolding head_of
  board_lines_are =
      let of : Shape → ℕ = λ shape. head_lines auction.version
      + length auction.seals * (1 + auction.lanes)
      + auction.lanes * (1 + shape.wires + shape.rows) + 1 in
      lines_as (of (shape_of (head_of auction))) (board_lines numbers auction.lanes) _
      (board_has shape_of (published auction) (board_is auction proved)) (ap of shape_is)

  reply_lines_are : (challenge : Challenge) → IsChallengeTo auction challenge
      → HasLines (reply_lines numbers auction.lanes) (reply_of auction challenge)
  reply_lines_are challenge is =
      let shown = shown_from auction 1 challenge.bits in
      let count : length shown ≡ auction.lanes = length_shown (proof_of auction) 1 challenge.bits
      ∙ is.one_bit_each in
      let of : ℕ → ℕ → ℕ = λ lanes wires. 2 + lanes * (1 + wires) + 1 in
      lines_as (of (length shown) (length (plan_of auction).kinds))
      (reply_lines numbers auction.lanes) _
      (reply_has (plan_of auction).kinds _ shown
      (reply_is (proof_of auction) challenge (proof_is auction proved) is.right
      is.one_bit_each))
      (ap (λ lanes. of lanes (length (plan_of auction).kinds)) count
      ∙ ap (of auction.lanes) all_wires)

pub boards_have_lines : WhereProved
    (λ auction. line_count (board_of auction) ≡ board_lines (numbers_in auction) auction.lanes)
boards_have_lines auction proved = (board_lines_are auction proved).lines

pub replies_have_lines : WhereChallenged
    (λ auction challenge. line_count (reply_of auction challenge)
    ≡ reply_lines (numbers_in auction) auction.lanes)
replies_have_lines auction challenge proved is = (reply_lines_are auction proved challenge is).lines

pub lines_are_pieces : (text : List ℕ)
    → length (slice_split (λ byte. byte == 10) text) ≡ line_count text + 1
lines_are_pieces text = length-slice_split (λ byte. byte == 10) text

-- ---- and at most so many bytes

few_either : (test : Bool) (one other most : ℕ) → one ≤ most → other ≤ most
    → (if test then one else other) ≤ most
few_either true one other most few others = few
few_either false one other most few others = others

few_wires : (seals width : ℕ) → seals ≤ 64 → width ≤ 40 → wire_count seals width ≤ 10311
few_wires seals width few narrow =
    omega (arith, mul-le width (4 * seals - 3) 40 253 narrow (omega arith))

few_sale_wires : (seals width reserve : ℕ) (sale : Sale) → seals ≤ 64 → width ≤ 40
    → sale_wire_count seals width reserve sale ≤ 10311
few_sale_wires seals width reserve (Sold position price) few narrow =
    few_either (nat_lt reserve price) (wire_count seals width) (2 * seals + (3 * seals - 1) * width)
    10311
    (few_wires seals width few narrow)
    (omega (arith, mul-le (3 * seals - 1) width 191 40 (omega arith) narrow))
few_sale_wires seals width reserve Unsold few narrow =
    omega (arith, mul-le (2 * seals) width 128 40 (omega arith) narrow)

few_board_wires : (n : BoardNumbers) → n.seals ≤ 64 → n.width ≤ 40 → board_wire_count n ≤ 10311
few_board_wires n few narrow =
    few_either (n.version == 1) (wire_count n.seals n.width)
    (sale_wire_count n.seals n.width n.reserve n.sale) 10311
    (few_wires n.seals n.width few narrow)
    (few_sale_wires n.seals n.width n.reserve n.sale few narrow)

few_rows : (seals : ℕ) → seals ≤ 64 → row_count seals ≤ 318
few_rows seals few = grind (arith, nat_tests)

few_sale_rows : (seals reserve : ℕ) (sale : Sale) → seals ≤ 64
    → sale_row_count seals reserve sale ≤ 318
few_sale_rows seals reserve (Sold position price) few =
    few_either (nat_lt reserve price) (row_count seals) (4 * seals - 1) 318 (few_rows seals few)
    (omega arith)
few_sale_rows seals reserve Unsold few = omega arith

few_board_rows : (n : BoardNumbers) → n.seals ≤ 64 → board_row_count n ≤ 318
few_board_rows n few =
    few_either (n.version == 1) (row_count n.seals) (sale_row_count n.seals n.reserve n.sale) 318
    (few_rows n.seals few) (few_sale_rows n.seals n.reserve n.sale few)

few_board_lines : (n : BoardNumbers) (lanes : ℕ) → n.seals ≤ 64 → n.width ≤ 40 → lanes ≤ 64
    → board_lines n lanes ≤ 2 ^ 22
few_board_lines n lanes few narrow short =
    let wires = few_board_wires n few narrow in
    let rows = few_board_rows n few in
    let head = few_either (n.version == 2) 8 7 8 (omega arith) (omega arith) in
    let of_seals = mul-le n.seals (1 + lanes) 64 65 few (omega arith) in
    let of_lanes = mul-le lanes (1 + (board_wire_count n - n.seals) + board_row_count n) 64 10630
    short (omega arith) in
    omega (arith, head, of_seals, of_lanes)

few_reply_lines : (n : BoardNumbers) (lanes : ℕ) → n.seals ≤ 64 → n.width ≤ 40 → lanes ≤ 64
    → reply_lines n lanes ≤ 2 ^ 22
few_reply_lines n lanes few narrow short =
    let wires = few_board_wires n few narrow in
    let of_lanes = mul-le lanes (1 + board_wire_count n) 64 10312 short (omega arith) in
    omega (arith, of_lanes)

pub short_text : (count : ℕ) (text : List ℕ) → HasLines count text → count ≤ 2 ^ 22 → IsShort text
short_text count text has few = omega (arith, has.short)

pub boards_are_short : WhereProved (λ auction. IsShort (board_of auction))
boards_are_short auction proved =
    let right = proved.right.held in
    short_text _ _ (board_lines_are auction proved)
    (few_board_lines (numbers_in auction) auction.lanes right.few_seals right.size.width.most
    right.size.lanes.most)

pub challenges_are_short : (challenge : Challenge) → IsChallenge challenge
    → IsShort (challenge_text challenge)
challenges_are_short challenge is = short_text _ _ (challenge_has challenge is) (omega arith)

pub replies_are_short : WhereChallenged (λ auction challenge. IsShort (reply_of auction challenge))
replies_are_short auction challenge proved is =
    let right = proved.right.held in
    short_text _ _ (reply_lines_are auction proved challenge is)
    (few_reply_lines (numbers_in auction) auction.lanes right.few_seals right.size.width.most
    right.size.lanes.most)
