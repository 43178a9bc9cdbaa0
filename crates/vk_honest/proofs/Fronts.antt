-- What stands on the board of a proved auction before its first lane: the price and the winner may
-- stand. Its statement is that of the auction's proof, whose rows are sealed.
use Rattle.std.proofs.Common.{◌≡◌, ℕ, ◌-◌, ◌++◌, codes, length, map, take, refl, ap, append_assoc, sym, ◌∙◌, arith}
use Rattle.std.specs.Prelude.{option_map, slice_index}
use Rattle.std.specs.List.{flat_map}
use Rattle.std.proofs.lemmas.List.{length-map}
use Rattle.vk_lines.specs.Forms.{line}
use Rattle.vk_board.specs.declared.board.Head.{Head}
use Rattle.vk_board.specs.Fronts.{IsFront, IsPlaced, PriceStands, PriceStandsFor, front_text}
use Rattle.vk_board.specs.Reading as board
use Rattle.vk_board.specs.Texts.{board_text, head_text, lanes_text, seal_lines_text}
use Rattle.vk_vickrey.specs.declared.sales.Sale.{Sale}
use Rattle.vk_vickrey.specs.declared.sales.Sale.TheVariants.{Sold, Unsold}
use Rattle.vk_vickrey.specs.Sales.{sale_at}
use Rattle.vk_vickrey.specs.ReservePlans.{IsSaleCase}
use Rattle.vk_vickrey.specs.BoardPlans.{BoardClaim, board_numbers, board_plan, board_values}
use Rattle.vk_vickrey.specs.BoardLaws.{board_begins, of_plans}
use Rattle.vk_judge.specs.Acceptance.{file_text}
use Rattle.vk_judge.specs.Statement.{StatementValue}
use Rattle.vk_verifier.specs.Verdicts.{statement_of}
use Rattle.vk_keeper.specs.declared.auction.Auction.{Auction}
use Rattle.vk_job.specs.Outcome.{position_in, price_in}
use Rattle.vk_job.specs.Jobs.{IsProvedAuction, bids_of, numbers_in, plan_of, proof_of, sale_in, seats_of, values_of}
use Rattle.vk_job.specs.Proofs.{lanes_in, seal_lines_of}
use Rattle.vk_job.specs.Published.{board_of, head_of}
use Rattle.vk_job.proofs.Held.{case_is, claim_is, has_seal, inputs_are, proof_is, reserve_case}
use Rattle.vk_job.proofs.Parts.{head_is, seals_are}
use Rattle.vk_honest.specs.Answers.{IsSealedProof, front_of, statement_in}
use Rattle.vk_honest.proofs.Cases.{seats_are}

pub seats_on_board : (auction : Auction)
    → board.seats_of (map seal_lines_of auction.seals) ≡ seats_of auction
seats_on_board auction = seats_are auction.seals

-- its position and its price tell the sale
sale_told : (sale : Sale) → sale_at (position_in sale) (price_in sale) ≡ sale
sale_told (Sold position price) = refl
sale_told Unsold = refl

-- what the board is to show is what the proof does
pub same_statement : (auction : Auction)
    → statement_of (front_of auction) ≡ statement_in (proof_of auction)
unfolding plan_of head_of
same_statement auction =
    let showing : Sale → StatementValue = λ sale. record {
      auction = auction.id;
      lanes = auction.lanes;
      seals = map seal_lines_of auction.seals;
      plan = board_plan (board_numbers auction.version (length auction.seals) auction.width
          auction.reserve sale);
    } in
    ap showing (sale_told (sale_in auction))

pub same_lanes : (auction : Auction) → (head_of auction).lanes ≡ auction.lanes
unfolding head_of
same_lanes auction = refl

-- the board is its front, the lanes and the end
pub board_is_file : (auction : Auction)
    → board_of auction ≡ file_text (front_text (front_of auction)) (lanes_in (proof_of auction))
unfolding board_text
board_is_file auction =
    sym (append_assoc (head_text (head_of auction))
    (flat_map seal_lines_text (map seal_lines_of auction.seals))
    (lanes_text 1 (lanes_in (proof_of auction)) ++ line (codes "end")))

-- the price of a sale may stand beside its winner, whatever the seats
price_for : (head : Head) (seat_of : ℕ → ℕ) (sale : Sale) → head.price ≡ price_in sale
    → IsSaleCase head.seals head.width head.reserve sale
    → PriceStandsFor head (option_map seat_of (position_in sale))
price_for head seat_of (Sold position price) paid is = record {
  within_width = omega (arith, paid, is.within_width);
  reserve_within_price = omega (arith, paid, is.reserve_within_price);
  alone = λ one. paid ∙ is.alone one;
}
price_for head seat_of Unsold paid is =
    record { some_reserve = λ none. omega (arith, is, none); no_price = paid }

-- its position is that of the winner's seal
placed_for : (auction : Auction) (sale : Sale)
    → IsSaleCase (length auction.seals) auction.width auction.reserve sale
    → IsPlaced (map seal_lines_of auction.seals)
    (option_map (λ position. slice_index (seats_of auction) (position - 1)) (position_in sale))
    (position_in sale)
placed_for auction (Sold position price) is = record {
  some = is.some_position;
  within = omega (arith, is.within_seals, length-map auction.seals seal_lines_of);
  seat_there = ap (λ seats. slice_index seats (position - 1)) (seats_on_board auction);
}
placed_for auction Unsold is = tt

module _ (auction : Auction) (proved : IsProvedAuction auction) where
  price_stands : PriceStands (head_of auction)
  unfolding head_of
  price_stands = record {
    reserve_within_width = proved.right.terms.small;
    price = price_for (head_of auction) (λ position. slice_index (seats_of auction) (position - 1))
        (sale_in auction) refl
        (reserve_case auction proved.right (has_seal auction proved)).sale_case;
  }

  is_placed : IsPlaced (front_of auction).seals (head_of auction).winner (front_of auction).position
  unfolding head_of
  is_placed = placed_for auction (sale_in auction)
      (reserve_case auction proved.right (has_seal auction proved)).sale_case

  pub front_is : IsFront (front_of auction)
  front_is = record {
    head = head_is auction proved.right (has_seal auction proved);
    seals = seals_are auction proved.right;
    price = price_stands;
    winner = is_placed;
  }

  -- the first values are the bids
  begins_with_bids : take (length auction.seals) (values_of auction) ≡ bids_of auction
  unfolding plan_of values_of
  begins_with_bids =
      let sealed = has_seal auction proved in
      let n = numbers_in auction in
      ap (λ count. take count (values_of auction)) (inputs_are auction proved.right sealed)
      ∙ of_plans (λ n. BoardClaim n (bids_of auction)
      → take (board_plan n).inputs (board_values n (bids_of auction)) ≡ bids_of auction)
      (λ plan. board_begins plan (bids_of auction)) n (case_is auction proved.right sealed)
      (claim_is auction proved.right sealed)

  pub sealed : IsSealedProof auction.width (proof_of auction)
  sealed = record {
    right = proof_is auction proved;
    rows = proved.right.held.rows;
    inputs = begins_with_bids;
  }
