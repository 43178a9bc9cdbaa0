-- What is published of an auction that is proved may stand on a board, and what is shown of any
-- proof in a reply.
use Rattle.std.proofs.Common.{◌≡◌, ◌≢◌, ℕ, zero, suc, ◌+◌, ◌-◌, ◌<◌, ◌≤◌, ◌^◌, Bool, false, All, List, [], ◌∷◌, ◌++◌, length, map, get_or, refl, sym, ap, ◌∙◌, subst, arith, inl, inr}
use Rattle.std.specs.Prelude.{option_map, slice_index, slice_index_or}
use Rattle.std.specs.List.{AllByRecursion, AllPairs}
use Rattle.std.proofs.Math.Pow.{pow_mono}
use Rattle.std.proofs.lemmas.List.{length-map, get_or-map}
use Rattle.std.proofs.lemmas.List.Elements.{All-head, All-tail, All-push, All-nil, recursion_from_All}
use Rattle.std.proofs.lemmas.Option.{slice_get_within, get_or_from_slice_get}
use Rattle.vk_wire.specs.declared.wire.Shown.{Shown}
use Rattle.vk_board.specs.declared.board.SealLines.{SealLines}
use Rattle.vk_board.specs.Values.{IsHead, IsSeat, IsWinner, IsSealLines, IsSealAfter, AreSeals, IsLaneLines}
use Rattle.vk_lines.specs.Forms.{EachAfter}
use Rattle.vk_range.specs.SetLaws.{All-listed}
use Rattle.vk_reply.specs.declared.challenge.Challenge.{Challenge}
use Rattle.vk_reply.specs.Values.{IsChallenge, AreShown, IsReply}
use Rattle.vk_prover.proofs.Forms.{lines_are, shown_are}
use Rattle.vk_vickrey.specs.declared.sales.Sale.{Sale}
use Rattle.vk_vickrey.specs.declared.sales.Sale.TheVariants.{Sold, Unsold}
use Rattle.vk_vickrey.specs.BoardPlans.{IsBoardCase, board_numbers}
use Rattle.vk_keeper.specs.declared.auction.SealRow.{SealRow}
use Rattle.vk_keeper.specs.declared.auction.Auction.{Auction}
use Rattle.vk_keeper.specs.Auctions.{IsAuction, IsSealRow}
use Rattle.vk_job.specs.Proofs.{ProofValue, IsProof, no_row, seal_lines_of, lane_tape_in, lane_in, lanes_in, lane_shown_in, lanes_shown_from}
use Rattle.vk_job.specs.Outcome.{position_in, price_in}
use Rattle.vk_job.specs.Jobs.{sale_in, seats_of}
use Rattle.vk_job.specs.Published.{head_of}
use Rattle.vk_job.proofs.Held.{case_is, winner_within}
use Rattle.vk_job.proofs.Drawing.{lane_tape_is}

-- ---- the head

-- the winner's seat is that of a seal
seat_is : (auction : Auction) (position price : ℕ) → IsAuction auction → 1 ≤ length auction.seals
    → Sold position price ≡ sale_in auction
    → IsSeat (slice_index (seats_of auction) (position - 1))
seat_is auction position price right sealed sold =
    let place = position - 1 in
    let within : place < length auction.seals = (winner_within auction position price sealed sold).1
    in
    let seat = get_or-map (λ row. row.seal.seat) auction.seals place no_row 0 within in
    let seal = (right.held.rows place no_row within).seal in
    record { least = omega (arith, seal.some_seat); most = omega (arith, seal.last_seat) }

-- only version 2 has none
winner_is : (auction : Auction) (sale : Sale) → IsAuction auction → 1 ≤ length auction.seals
    → sale ≡ sale_in auction
    → IsBoardCase (board_numbers auction.version (length auction.seals) auction.width
    auction.reserve sale)
    → IsWinner auction.version
    (option_map (λ position. slice_index (seats_of auction) (position - 1)) (position_in sale))
winner_is auction (Sold position price) right sealed is case =
    seat_is auction position price right sealed is
winner_is auction Unsold right sealed is (inl first) = absurd first.1
winner_is auction Unsold right sealed is (inr second) = second.0

price_is : (version seals width reserve : ℕ) (sale : Sale) → width ≤ 40
    → IsBoardCase (board_numbers version seals width reserve sale) → price_in sale < 2 ^ 64
price_is version seals width reserve (Sold position price) narrow (inl first) =
    omega (arith, first.1.1.within_width, pow_mono {i = width} {j = 64} (omega arith))
price_is version seals width reserve (Sold position price) narrow (inr second) =
    omega (arith, second.1.sale_case.within_width, pow_mono {i = width} {j = 64} (omega arith))
price_is version seals width reserve Unsold narrow case = omega arith

pub head_is : (auction : Auction) → IsAuction auction → 1 ≤ length auction.seals
    → IsHead (head_of auction)
unfolding head_of
head_is auction right sealed =
    let narrow : auction.width ≤ 40 = right.held.size.width.most in
    let case = case_is auction right sealed in
    record {
      id = right.held.id;
      version = record { least = right.terms.least; most = right.terms.most };
      size = right.held.size;
      some_seal = sealed;
      few_seals = right.held.few_seals;
      reserve = record {
        small = omega (
          arith,
          right.terms.small,
          pow_mono {i = auction.width} {j = 64} (omega arith),
        );
        unnamed = right.terms.unnamed;
      };
      winner = winner_is auction (sale_in auction) right sealed refl case;
      price = price_is auction.version (length auction.seals) auction.width auction.reserve
          (sale_in auction) narrow case;
    }

-- ---- the seals

lines_of_row : (id : List ℕ) (width lanes : ℕ) (row : SealRow) → IsSealRow id width lanes row
    → IsSealLines lanes (seal_lines_of row)
lines_of_row id width lanes row is = record {
  some_seat = is.seal.some_seat;
  last_seat = is.seal.last_seat;
  count = is.count;
  coms = is.seal.coms;
}

-- no seal before has the seat of one of these
abbrev AreApart : List SealLines → List SealRow → Type 0
AreApart before rows = All (λ row. All (λ earlier. earlier.seat ≢ row.seal.seat) before) rows

rows_after : (id : List ℕ) (width lanes : ℕ) (before : List SealLines) (rows : List SealRow)
    → All (IsSealRow id width lanes) rows
    → AllPairs (λ earlier later. earlier.seal.seat ≢ later.seal.seat) rows
    → AreApart before rows → EachAfter (IsSealAfter lanes) before (map seal_lines_of rows)
rows_after id width lanes before [] are differ apart = tt
rows_after id width lanes before (row ∷ rows) are differ apart = (
  record {
    right = lines_of_row id width lanes row (All-head (IsSealRow id width lanes) row rows are);
    new_seat = recursion_from_All (λ earlier. earlier.seat ≢ row.seal.seat) before
        (apart 0 row (omega arith));
  },
  rows_after id width lanes (before ++ seal_lines_of row ∷ []) rows
      (All-tail (IsSealRow id width lanes) row rows are)
      (λ i j d less within. differ (suc i) (suc j) d (omega arith) (omega arith))
      (λ k d within. All-push (λ earlier. earlier.seat ≢ (slice_index_or rows k d).seal.seat) before
      (seal_lines_of row) (apart (suc k) d (omega arith))
      (differ 0 (suc k) d (omega arith) (omega arith))),
)

pub seals_are : (auction : Auction) → IsAuction auction
    → AreSeals (head_of auction) (map seal_lines_of auction.seals)
unfolding head_of
seals_are auction right = record {
  count = length-map auction.seals seal_lines_of;
  each = rows_after auction.id auction.width auction.lanes [] auction.seals right.held.rows
      right.held.seats (λ k d within.
      All-nil (λ earlier. earlier.seat ≢ (slice_index_or auction.seals k d).seal.seat));
}

-- ---- the lanes of any proof

pub lane_is : (proof : ProofValue) (lane : ℕ) → IsProof proof → 1 ≤ lane → lane ≤ proof.lanes
    → IsLaneLines (length proof.plan.kinds - proof.plan.inputs) (length proof.plan.rows)
    (lane_in proof lane)
unfolding lane_in
lane_is proof lane right some last =
    lines_are proof.plan proof.id lane proof.values (lane_tape_in proof lane) right.values
    (lane_tape_is proof lane right some last)

pub lanes_are : (proof : ProofValue) → IsProof proof
    → AllByRecursion (IsLaneLines (length proof.plan.kinds - proof.plan.inputs)
    (length proof.plan.rows)) (lanes_in proof)
lanes_are proof right =
    let IsLane = IsLaneLines (length proof.plan.kinds - proof.plan.inputs) (length proof.plan.rows)
    in
    recursion_from_All IsLane (lanes_in proof)
    (All-listed IsLane (λ index. lane_in proof (index + 1)) proof.lanes
    (λ index within. lane_is proof (index + 1) right (omega arith) (omega arith)))

pub shown_is : (proof : ProofValue) (lane : ℕ) (bit : Bool) → IsProof proof → 1 ≤ lane
    → lane ≤ proof.lanes → AreShown proof.plan.kinds bit (lane_shown_in proof lane bit)
unfolding lane_shown_in
shown_is proof lane bit right some last =
    shown_are proof.plan proof.values (lane_tape_in proof lane) bit right.values
    (lane_tape_is proof lane right some last)

-- ---- the reply

pub length_shown : (proof : ProofValue) (lane : ℕ) (bits : List Bool)
    → length (lanes_shown_from proof lane bits) ≡ length bits
length_shown proof lane [] = refl
length_shown proof lane (bit ∷ bits) = ap suc (length_shown proof (lane + 1) bits)

pub shown_at : (proof : ProofValue) (lane : ℕ) (bits : List Bool) (index : ℕ) (d : List Shown)
    → index < length bits
    → get_or (lanes_shown_from proof lane bits) index d
    ≡ lane_shown_in proof (lane + index) (slice_index_or bits index false)
shown_at proof lane [] index d within = absurd (omega arith)
shown_at proof lane (bit ∷ bits) zero d within = let here : lane ≡ lane + 0 = omega arith in
    ap (λ l. lane_shown_in proof l bit) here
shown_at proof lane (bit ∷ bits) (suc index) d within =
    let number : lane + 1 + index ≡ lane + suc index = omega arith in
    shown_at proof (lane + 1) bits index d (omega arith)
    ∙ ap (λ l. lane_shown_in proof l (slice_index_or bits index false)) number

pub reply_is : (proof : ProofValue) (challenge : Challenge) → IsProof proof → IsChallenge challenge
    → length challenge.bits ≡ proof.lanes
    → IsReply proof.plan.kinds (λ lane. slice_index_or challenge.bits (lane - 1) false)
    (lanes_shown_from proof 1 challenge.bits)
reply_is proof challenge is right count =
    let long = length_shown proof 1 challenge.bits in
    record {
      count = record {
        least = omega (arith, right.some_bit);
        most = omega (arith, right.few_bits);
      };
      each = λ index shown found.
          let within : index < length challenge.bits =
          omega (
            arith,
            slice_get_within (lanes_shown_from proof 1 challenge.bits) index shown
                found,
          ) in
          let same : lane_shown_in proof (1 + index) (slice_index_or challenge.bits index false)
          ≡ shown =
          sym (shown_at proof 1 challenge.bits index [] within)
          ∙ get_or_from_slice_get (lanes_shown_from proof 1 challenge.bits) index shown [] found
          in
          let back : index ≡ index + 1 - 1 = omega arith in
          let right_here = shown_is proof (1 + index) (slice_index_or challenge.bits index false) is
          (omega arith) (omega arith) in
          subst (λ n. AreShown proof.plan.kinds (slice_index_or challenge.bits n false) shown) back
          (subst (AreShown proof.plan.kinds (slice_index_or challenge.bits index false)) same
          right_here);
    }
