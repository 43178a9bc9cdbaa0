-- The pieces of a proof's file and of its reply, one after another, are their texts.
use Rattle.std.proofs.Common.{◌≡◌, ℕ, zero, suc, ◌+◌, ◌-◌, ◌<◌, ◌≤◌, arith, length-append, Bool, false, List, [], ◌∷◌, ◌++◌, length, map, refl, sym, ap, ◌∙◌, append_assoc}
use Rattle.std.specs.Prelude.{codes, slice_index_or}
use Rattle.std.specs.List.{concat, flat_map, range_with_len}
use Rattle.std.proofs.lemmas.List.{append-nil, length-map, get_or_append_left, get_or-append_right, get_or_at}
use Rattle.std.proofs.lemmas.List.FromFn.{get_or-map-range_with_len}
use Rattle.vk_lines.specs.Forms.{line, numbered_text}
use Rattle.vk_board.specs.Texts.{board_text, head_text, seal_lines_text, lane_text}
use Rattle.vk_range.specs.Sets.{listed}
use Rattle.vk_range.specs.SetLaws.{length_listed}
use Rattle.vk_reply.specs.declared.challenge.Challenge.{Challenge}
use Rattle.vk_reply.specs.Texts.{reply_text, reply_head_text, reply_lane_text}
use Rattle.vk_keeper.specs.declared.auction.SealRow.{SealRow}
use Rattle.vk_keeper.specs.declared.auction.Auction.{Auction}
use Rattle.vk_job.specs.Proofs.{ProofValue, seal_lines_of, lane_in, lanes_in, lane_shown_in, lanes_shown_from, file_of, file_pieces, reply_in, reply_lanes_in, reply_pieces_in}
use Rattle.vk_job.specs.Jobs.{proof_of}
use Rattle.vk_job.specs.Published.{head_of, board_of, reply_of, board_pieces, reply_pieces}
use Rattle.vk_job.proofs.Parts.{length_shown}

concat-append : (front back : List (List ℕ)) → concat (front ++ back) ≡ concat front ++ concat back
concat-append [] back = refl
concat-append (piece ∷ front) back = ap (λ rest. piece ++ rest) (concat-append front back)
    ∙ sym (append_assoc piece (concat front) (concat back))

seals_are_joined : (rows : List SealRow)
    → concat (map (λ row. seal_lines_text (seal_lines_of row)) rows)
    ≡ flat_map seal_lines_text (map seal_lines_of rows)
seals_are_joined [] = refl
seals_are_joined (row ∷ rows) =
    ap (λ rest. seal_lines_text (seal_lines_of row) ++ rest) (seals_are_joined rows)

lanes_are_joined : (proof : ProofValue) (first count : ℕ)
    → concat (map (λ index. lane_text (index + 1) (lane_in proof (index + 1)))
    (range_with_len first count))
    ≡ numbered_text lane_text (first + 1)
    (map (λ index. lane_in proof (index + 1)) (range_with_len first count))
lanes_are_joined proof first zero = refl
lanes_are_joined proof first (suc count) =
    ap (λ rest. lane_text (first + 1) (lane_in proof (first + 1)) ++ rest)
    (lanes_are_joined proof (first + 1) count)

pub file_is_joined : (head : List ℕ) (proof : ProofValue)
    → concat (file_pieces head proof) ≡ file_of head proof
file_is_joined head proof =
    let seals = map (λ row. seal_lines_text (seal_lines_of row)) proof.rows in
    let lanes = listed (λ index. lane_text (index + 1) (lane_in proof (index + 1))) proof.lanes in
    let end = line (codes "end") in
    ap (λ rest. head ++ rest)
    (concat-append seals (lanes ++ end ∷ [])
    ∙ ap (λ front. front ++ concat (lanes ++ end ∷ [])) (seals_are_joined proof.rows)
    ∙ ap (λ rest. flat_map seal_lines_text (map seal_lines_of proof.rows) ++ rest)
    (concat-append lanes (end ∷ [])
    ∙ ap (λ front. front ++ concat (end ∷ [])) (lanes_are_joined proof 0 proof.lanes)
    ∙ ap (λ rest. numbered_text lane_text 1 (lanes_in proof) ++ rest) (append-nil end)))

pub board_is_joined : (auction : Auction) → concat (board_pieces auction) ≡ board_of auction
unfolding board_text
board_is_joined auction = file_is_joined (head_text (head_of auction)) (proof_of auction)

replies_are_joined : (proof : ProofValue) (lane : ℕ) (bits : List Bool)
    → concat (reply_lanes_in proof lane bits)
    ≡ numbered_text reply_lane_text lane (lanes_shown_from proof lane bits)
replies_are_joined proof lane [] = refl
replies_are_joined proof lane (bit ∷ bits) =
    ap (λ rest. reply_lane_text lane (lane_shown_in proof lane bit) ++ rest)
    (replies_are_joined proof (lane + 1) bits)

pub shown_is_joined : (proof : ProofValue) (bits : List Bool)
    → concat (reply_pieces_in proof bits) ≡ reply_in proof bits
unfolding reply_text
shown_is_joined proof bits =
    let end = line (codes "end") in
    let lanes = numbered_text reply_lane_text 1 (lanes_shown_from proof 1 bits) in
    ap (λ count. reply_head_text count ++ concat (reply_lanes_in proof 1 bits ++ end ∷ []))
    (sym (length_shown proof 1 bits))
    ∙ ap (λ rest. reply_head_text (length (lanes_shown_from proof 1 bits)) ++ rest)
    (concat-append (reply_lanes_in proof 1 bits) (end ∷ [])
    ∙ ap (λ front. front ++ concat (end ∷ [])) (replies_are_joined proof 1 bits)
    ∙ ap (λ rest. lanes ++ rest) (append-nil end))

pub reply_is_joined : (auction : Auction) (challenge : Challenge)
    → concat (reply_pieces auction challenge) ≡ reply_of auction challenge
reply_is_joined auction challenge = shown_is_joined (proof_of auction) challenge.bits

-- ---- each piece by its index

pub length_file_pieces : (head : List ℕ) (proof : ProofValue)
    → length (file_pieces head proof) ≡ length proof.rows + proof.lanes + 2
length_file_pieces head proof =
    let seals = map (λ row. seal_lines_text (seal_lines_of row)) proof.rows in
    let lanes = listed (λ index. lane_text (index + 1) (lane_in proof (index + 1))) proof.lanes in
    let rest = lanes ++ line (codes "end") ∷ [] in
    omega (
      arith,
      length-append seals rest,
      length-append lanes (line (codes "end") ∷ []),
      length-map proof.rows (λ row. seal_lines_text (seal_lines_of row)),
      length_listed (λ index. lane_text (index + 1) (lane_in proof (index + 1))) proof.lanes,
    )

-- behind the head and the seals
behind_seals : (head : List ℕ) (proof : ProofValue) (index : ℕ) → length proof.rows < index
    → slice_index_or (file_pieces head proof) index []
    ≡ slice_index_or (listed (λ index. lane_text (index + 1) (lane_in proof (index + 1)))
    proof.lanes ++ line (codes "end") ∷ []) (index - 1 - length proof.rows) []
behind_seals head proof zero after = absurd (omega arith)
behind_seals head proof (suc k) after =
    let text : SealRow → List ℕ = λ row. seal_lines_text (seal_lines_of row) in
    let rest = listed (λ index. lane_text (index + 1) (lane_in proof (index + 1))) proof.lanes
    ++ line (codes "end") ∷ [] in
    let back : k ≡ suc k - 1 = omega arith in
    get_or-append_right (map text proof.rows) rest (length proof.rows) k []
    (length-map proof.rows text) (omega arith)
    ∙ ap (λ place. slice_index_or rest (place - length proof.rows) []) back

pub lane_piece_is : (head : List ℕ) (proof : ProofValue) (index : ℕ) → length proof.rows < index
    → index ≤ length proof.rows + proof.lanes
    → slice_index_or (file_pieces head proof) index []
    ≡ lane_text (index - length proof.rows) (lane_in proof (index - length proof.rows))
lane_piece_is head proof index after within =
    let text : ℕ → List ℕ = λ index. lane_text (index + 1) (lane_in proof (index + 1)) in
    let k = index - 1 - length proof.rows in
    let number : k + 1 ≡ index - length proof.rows = omega arith in
    behind_seals head proof index after
    ∙ get_or_append_left (listed text proof.lanes) (line (codes "end") ∷ []) [] k
    (omega (arith, length_listed text proof.lanes))
    ∙ get_or-map-range_with_len text 0 proof.lanes k k [] (omega arith) (omega arith)
    ∙ ap (λ lane. lane_text lane (lane_in proof lane)) number

pub file_end_is : (head : List ℕ) (proof : ProofValue) (index : ℕ)
    → length proof.rows + proof.lanes < index → index < length (file_pieces head proof)
    → slice_index_or (file_pieces head proof) index [] ≡ line (codes "end")
file_end_is head proof index after within =
    let text : ℕ → List ℕ = λ index. lane_text (index + 1) (lane_in proof (index + 1)) in
    let k = index - 1 - length proof.rows in
    let here : proof.lanes ≡ k = omega (arith, length_file_pieces head proof) in
    behind_seals head proof index (omega arith)
    ∙ get_or_at (listed text proof.lanes) (line (codes "end")) [] [] k
    (length_listed text proof.lanes ∙ here)

pub length_reply_lanes : (proof : ProofValue) (lane : ℕ) (bits : List Bool)
    → length (reply_lanes_in proof lane bits) ≡ length bits
length_reply_lanes proof lane [] = refl
length_reply_lanes proof lane (bit ∷ bits) = ap suc (length_reply_lanes proof (lane + 1) bits)

pub length_reply_pieces : (proof : ProofValue) (bits : List Bool)
    → length (reply_pieces_in proof bits) ≡ length bits + 2
length_reply_pieces proof bits =
    omega (
      arith,
      length-append (reply_lanes_in proof 1 bits) (line (codes "end") ∷ []),
      length_reply_lanes proof 1 bits,
    )

reply_lane_at : (proof : ProofValue) (lane : ℕ) (bits : List Bool) (k : ℕ) → k < length bits
    → slice_index_or (reply_lanes_in proof lane bits) k []
    ≡ reply_lane_text (lane + k) (lane_shown_in proof (lane + k) (slice_index_or bits k false))
reply_lane_at proof lane [] k within = absurd (omega arith)
reply_lane_at proof lane (bit ∷ bits) zero within = let here : lane ≡ lane + 0 = omega arith in
    ap (λ l. reply_lane_text l (lane_shown_in proof l bit)) here
reply_lane_at proof lane (bit ∷ bits) (suc k) within =
    let number : lane + 1 + k ≡ lane + suc k = omega arith in
    reply_lane_at proof (lane + 1) bits k (omega arith)
    ∙ ap (λ l. reply_lane_text l (lane_shown_in proof l (slice_index_or bits k false))) number

pub reply_piece_is : (proof : ProofValue) (bits : List Bool) (index : ℕ) → 1 ≤ index
    → index ≤ length bits
    → slice_index_or (reply_pieces_in proof bits) index []
    ≡ reply_lane_text index (lane_shown_in proof index (slice_index_or bits (index - 1) false))
reply_piece_is proof bits zero some last = absurd (omega arith)
reply_piece_is proof bits (suc k) some last =
    let number : 1 + k ≡ suc k = omega arith in
    let back : k ≡ suc k - 1 = omega arith in
    get_or_append_left (reply_lanes_in proof 1 bits) (line (codes "end") ∷ []) [] k
    (omega (arith, length_reply_lanes proof 1 bits))
    ∙ reply_lane_at proof 1 bits k (omega arith)
    ∙ ap (λ l. reply_lane_text l (lane_shown_in proof l (slice_index_or bits k false))) number
    ∙ ap (λ place. reply_lane_text (suc k)
    (lane_shown_in proof (suc k) (slice_index_or bits place false))) back

pub reply_end_is : (proof : ProofValue) (bits : List Bool) (index : ℕ) → length bits < index
    → index < length (reply_pieces_in proof bits)
    → slice_index_or (reply_pieces_in proof bits) index [] ≡ line (codes "end")
reply_end_is proof bits zero after within = absurd (omega arith)
reply_end_is proof bits (suc k) after within =
    let here : length bits ≡ k = omega (arith, length_reply_pieces proof bits) in
    get_or_at (reply_lanes_in proof 1 bits) (line (codes "end")) [] [] k
    (length_reply_lanes proof 1 bits ∙ here)
