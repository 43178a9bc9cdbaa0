-- All that is public of a lane of a proof is what an honest prover publishes of it, and its replies
-- are accepted.
use Rattle.std.proofs.Common.{◌≡◌, ℕ, ◌-◌, ◌<◌, ◌≤◌, Bool, false, List, [], ◌∷◌, ◌++◌, length, map, take, get_or, refl, sym, ap, subst, ◌∙◌, arith, get_or-take}
use Rattle.std.specs.Prelude.{slice_index, slice_index_or}
use Rattle.std.proofs.lemmas.List.{ext_get_or, get_or-map, length-map, length-take-le, take-append-drop}
use Rattle.vk_commit.specs.declared.place.Place.{Place}
use Rattle.vk_plan.specs.declared.wire.WireKind.TheVariants.{Split}
use Rattle.vk_wire.specs.Made.{made_com}
use Rattle.vk_wire.specs.declared.wire.WireCom.{WireCom}
use Rattle.vk_wire.specs.declared.wire.WireTape.{WireTape}
use Rattle.vk_row.specs.Lanes.{IsAccepted, no_digests}
use Rattle.vk_row.specs.declared.case.LaneCase.{LaneCase}
use Rattle.vk_seal.specs.Values.{wire_tape}
use Rattle.vk_board.specs.declared.board.SealLines.{SealLines}
use Rattle.vk_board.specs.Reading.{seats_of}
use Rattle.vk_extractor.specs.Confronting.{secret_com, tape_in}
use Rattle.vk_prover.specs.Honest.{honest_case, honest_halves, no_tape}
use Rattle.vk_prover.proofs.Accepted.{IsHonest, coms_published, honest_accepted, honest_lane_of, input_at, inputs_sealed}
use Rattle.vk_prover.proofs.Wires.{inputs_within}
use Rattle.vk_judge.specs.Behind.{case_of, input_coms}
use Rattle.vk_keeper.specs.Auctions.{IsSealRow}
use Rattle.vk_keeper.specs.declared.auction.SealRow.{SealRow}
use Rattle.vk_job.specs.Proofs.{ProofValue, lane_in, lane_shown_in, lane_tape_in, no_row, seal_lines_of}
use Rattle.vk_job.proofs.Drawing.{lane_tape_is}
use Rattle.vk_honest.specs.Answers.{IsSealedProof, statement_in}
use Rattle.vk_honest.proofs.Tapes.{tape_begins}
use Rattle.vk_honest.proofs.Seals.{same_auction, same_seat, seal_commits}

no_seal : SealLines
no_seal = record { seat = 0; coms = [] }

-- the commitments of an input of a lane
abbrev sealed : ℕ → List ℕ → ℕ → ℕ → WireTape → WireCom
sealed lane auction seat bid tape =
    let place : Place = record { auction = auction; seat = seat; lane = lane; slot = 0 } in
    made_com Split place bid tape

same_sealed : (lane : ℕ) (auction auction' : List ℕ) (seat seat' bid bid' : ℕ)
    (tape tape' : WireTape) → auction ≡ auction' → seat ≡ seat' → bid ≡ bid' → tape ≡ tape'
    → sealed lane auction seat bid tape ≡ sealed lane auction' seat' bid' tape'
same_sealed lane auction auction' seat seat' bid bid' tape tape' auctions seats bids tapes =
    ap (λ a. sealed lane a seat bid tape) auctions
    ∙ (ap (λ s. sealed lane auction' s bid tape) seats
    ∙ (ap (λ b. sealed lane auction' seat' b tape) bids
    ∙ ap (λ t. sealed lane auction' seat' bid' t) tapes))

-- the seats of a proof's seals, and their numbers
abbrev pub seats_in : ProofValue → List ℕ
seats_in proof = map (λ row. row.seal.seat) proof.rows

abbrev bids_in : ProofValue → List ℕ
bids_in proof = map (λ row. row.secret.bid) proof.rows

-- the seats on the board are those of the seals
pub seats_are : (rows : List SealRow)
    → seats_of (map seal_lines_of rows) ≡ map (λ row. row.seal.seat) rows
seats_are [] = refl
seats_are (row ∷ rows) = ap (λ seats. row.seal.seat ∷ seats) (seats_are rows)

module _ (width : ℕ) (proof : ProofValue) (is : IsSealedProof width proof) (lane : ℕ) (some : 1 ≤ lane) (within : lane ≤ proof.lanes) where
  -- the lane of an honest prover
  abbrev honest : LaneCase
  honest = honest_case proof.plan proof.id lane (seats_in proof) proof.values
      (lane_tape_in proof lane)

  pub is_honest : IsHonest proof.plan (seats_in proof) proof.values (lane_tape_in proof lane)
  is_honest =
      honest_lane_of proof.plan (seats_in proof) proof.values (lane_tape_in proof lane)
      is.right.plan is.right.values
      (length-map proof.rows (λ row. row.seal.seat) ∙ is.right.one_input_each)
      (lane_tape_is proof lane is.right some within)

  -- a secret's bid and tape are those of its input
  pub bid_at : (input : ℕ) → input < length proof.rows
      → slice_index proof.values input ≡ (get_or proof.rows input no_row).secret.bid
  bid_at input lt =
      input_at (bids_in proof) proof.values (length proof.rows) input is.inputs lt
      ∙ get_or-map (λ (row : SealRow). row.secret.bid) proof.rows input no_row 0 lt

  pub tape_at : (input : ℕ) → input < length proof.rows
      → slice_index_or (lane_tape_in proof lane) input no_tape
      ≡ wire_tape (tape_in (get_or proof.rows input no_row).secret lane)
  tape_at input lt =
      sym (get_or-take (length proof.rows) (lane_tape_in proof lane) input no_tape lt)
      ∙ (ap (λ tapes. get_or tapes input no_tape) (tape_begins proof is.right lane some within)
      ∙ get_or-map (λ (row : SealRow). wire_tape (tape_in row.secret lane)) proof.rows input no_row
      no_tape lt)

  -- the commitments of an input are those of its secret, and so are those of its seal on the board
  honest_at : (input : ℕ) → input < length proof.rows
      → get_or honest.coms input no_digests
      ≡ secret_com (get_or proof.rows input no_row).secret lane
  honest_at input lt =
      let row = get_or proof.rows input no_row in
      let right : IsSealRow proof.id width proof.lanes row = is.rows input no_row lt in
      inputs_sealed proof.plan proof.id lane (seats_in proof) proof.values (lane_tape_in proof lane)
      input is_honest (omega (arith, is.right.one_input_each))
      ∙ same_sealed lane proof.id row.secret.auction (slice_index (seats_in proof) input)
      row.secret.seat (slice_index proof.values input) row.secret.bid
      (slice_index_or (lane_tape_in proof lane) input no_tape) (wire_tape (tape_in row.secret lane))
      (sym (same_auction proof.id width proof.lanes row right))
      (get_or-map (λ (row : SealRow). row.seal.seat) proof.rows input no_row 0 lt
      ∙ sym (same_seat proof.id width proof.lanes row right))
      (bid_at input lt) (tape_at input lt)

  board_at : (input : ℕ) → input < length proof.rows
      → get_or (input_coms (lane - 1) (map seal_lines_of proof.rows)) input no_digests
      ≡ secret_com (get_or proof.rows input no_row).secret lane
  board_at input lt =
      let row = get_or proof.rows input no_row in
      let right : IsSealRow proof.id width proof.lanes row = is.rows input no_row lt in
      let seals = map seal_lines_of proof.rows in
      let count : length seals ≡ length proof.rows = length-map proof.rows seal_lines_of in
      get_or-map (λ (seal : SealLines). slice_index_or seal.coms (lane - 1) no_digests) seals input
      no_seal no_digests (omega arith)
      ∙ (ap (λ (seal : SealLines). slice_index_or seal.coms (lane - 1) no_digests)
      (get_or-map seal_lines_of proof.rows input no_row no_seal lt)
      ∙ seal_commits proof.id width proof.lanes row right lane some within)

  -- so the commitments of the seals are the first of the lane
  inputs_same : input_coms (lane - 1) (map seal_lines_of proof.rows)
      ≡ take proof.plan.inputs honest.coms
  inputs_same =
      let seals = map seal_lines_of proof.rows in
      let count : length (input_coms (lane - 1) seals) ≡ length proof.rows =
      length-map seals (λ seal. slice_index_or seal.coms (lane - 1) no_digests)
      ∙ length-map proof.rows seal_lines_of in
      let inputs : proof.plan.inputs ≡ length proof.rows = sym is.right.one_input_each in
      let few : proof.plan.inputs ≤ length proof.plan.kinds = inputs_within proof.plan is.right.plan
      in
      let coms : length honest.coms ≡ length proof.plan.kinds =
      (honest_accepted proof.plan proof.id lane (seats_in proof) proof.values
      (lane_tape_in proof lane) false is_honest).counts.coms in
      let front : length (take proof.plan.inputs honest.coms) ≡ proof.plan.inputs =
      length-take-le proof.plan.inputs honest.coms (omega arith) in
      ext_get_or no_digests (input_coms (lane - 1) seals) (take proof.plan.inputs honest.coms)
      (omega arith)
      (λ input lt.
      let inside : input < length proof.rows = omega arith in
      board_at input inside ∙ (sym (honest_at input inside)
      ∙ sym (get_or-take proof.plan.inputs honest.coms input no_digests (omega arith))))

  -- and what is public of the lane is that of the honest prover
  coms_are : input_coms (lane - 1) (map seal_lines_of proof.rows) ++ (lane_in proof lane).coms
      ≡ honest.coms
  unfolding lane_in
  coms_are =
      ap (λ front. front ++ (lane_in proof lane).coms) inputs_same
      ∙ (ap (λ back. take proof.plan.inputs honest.coms ++ back)
      (coms_published proof.plan proof.id lane (seats_in proof) proof.values
      (lane_tape_in proof lane) is_honest)
      ∙ take-append-drop proof.plan.inputs honest.coms)

  same_case : case_of (statement_in proof) lane (lane_in proof lane) ≡ honest
  unfolding lane_in
  same_case =
      let of : List ℕ → List WireCom
      → LaneCase = λ seats coms.
      record {
        auction = proof.id;
        lane = lane;
        seats = seats;
        coms = coms;
        posted = honest.posted;
      } in
      ap (λ seats. of seats (input_coms (lane - 1) (map seal_lines_of proof.rows)
      ++ (lane_in proof lane).coms)) (seats_are proof.rows)
      ∙ ap (of (seats_in proof)) coms_are

  -- what is shown of the lane is accepted
  pub lane_accepted : (bit : Bool)
      → IsAccepted proof.plan (case_of (statement_in proof) lane (lane_in proof lane)) bit
      (lane_shown_in proof lane bit)
  unfolding lane_shown_in
  lane_accepted bit =
      let Q : LaneCase → Type 0 =
      λ case. IsAccepted proof.plan case bit (lane_shown_in proof lane bit) in
      subst Q (sym same_case) (
        honest_halves proof.values (lane_tape_in proof lane) bit,
        honest_accepted proof.plan proof.id lane (seats_in proof) proof.values
            (lane_tape_in proof lane) bit is_honest,
      )
