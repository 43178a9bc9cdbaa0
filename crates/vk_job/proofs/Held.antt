-- The values of an auction hold for its plan, and an auction that is proved gives a proof.
use Rattle.std.proofs.Common.{◌≡◌, ℕ, ◌-◌, ◌^◌, ◌<◌, ◌≤◌, All, List, length, Option, Some, None, IsSome, IfSome, refl, sym, ap, ◌∙◌, subst, arith}
use Rattle.std.proofs.Math.Pow.{pow_mono}
use Rattle.std.proofs.lemmas.List.{length-map}
use Rattle.std.proofs.lemmas.List.Elements.{All-map, All-weaker}
use Rattle.vk_residue.specs.Residue.{IsResidue}
use Rattle.vk_plan.specs.Plans.{IsPlan, Holds}
use Rattle.vk_vickrey.specs.declared.sales.Sale.{Sale}
use Rattle.vk_vickrey.specs.declared.sales.Sale.TheVariants.{Sold}
use Rattle.vk_vickrey.specs.Sales.{IsSold, IsSale}
use Rattle.vk_vickrey.specs.VickreyPlans.{vickrey_plan, honest_values}
use Rattle.vk_vickrey.specs.ReservePlans.{IsReserveCase}
use Rattle.vk_vickrey.specs.BoardPlans.{BoardNumbers, BoardClaim, IsBoardCase, board_numbers, board_plan, board_values, board_wire_count, board_row_count}
use Rattle.vk_vickrey.specs.BoardCases.{AreBoardTerms, claimed_case, claimed_reserve_case}
use Rattle.vk_vickrey.specs.BoardLaws.{board_complete, board_inputs, board_is_plan, board_rows, board_wires, of_plans}
use Rattle.vk_keeper.specs.declared.auction.Auction.{Auction}
use Rattle.vk_keeper.specs.declared.auction.SealRow.{SealRow}
use Rattle.vk_keeper.specs.Auctions.{IsAuction, IsSealRow, seed_of}
use Rattle.vk_job.specs.Outcome.{outcome_of, sale_of}
use Rattle.vk_job.specs.declared.proof.Prepared.{Prepared}
use Rattle.vk_job.specs.JobValues.{IsJob}
use Rattle.vk_job.specs.Proofs as parts
use Rattle.vk_job.specs.Proofs.{HasTapesFor, IsPrepared, IsProof, ProofValue, first_dry_in, prepared_proof, source_of, tapes_in}
use Rattle.vk_job.specs.Jobs.{bids_of, numbers_in, plan_of, sale_in, values_of, proof_of, proof_with, seed_in, IsProvedAuction}
use Rattle.vk_job.proofs.Drawing.{lanes_of}
use Rattle.vk_job.proofs.Sales as sales

-- an auction that is proved has a seal
some_where : {X : Type 0} (P : Type 0) (o : Option X) → IsSome o → IfSome o (λ _. P) → P
some_where P None is holds = cc is
some_where P (Some x) is holds = holds

pub has_seal : (auction : Auction) → IsProvedAuction auction → 1 ≤ length auction.seals
has_seal auction proved = some_where (1 ≤ length auction.seals) (seed_of auction.phase)
    proved.seeded proved.right.held.some_seal

-- the bids of an auction, and their sale
pub length_bids : (auction : Auction) → length (bids_of auction) ≡ length auction.seals
length_bids auction = length-map auction.seals (λ row. row.secret.bid)

pub bids_within : (auction : Auction) → IsAuction auction
    → All (λ bid. bid < 2 ^ auction.width) (bids_of auction)
bids_within auction right =
    All-map (λ bid. bid < 2 ^ auction.width) (λ row. row.secret.bid) auction.seals
    (All-weaker (IsSealRow auction.id auction.width auction.lanes)
    (λ row. row.secret.bid < 2 ^ auction.width) (λ row is. is.small_bid) auction.seals
    right.held.rows)

pub sale_is : (auction : Auction) → 1 ≤ length auction.seals
    → IsSale (bids_of auction) auction.reserve (sale_in auction)
sale_is auction sealed = sales.sale_is (bids_of auction) auction.reserve
    (omega (arith, length_bids auction))

pub claim_is : (auction : Auction) → IsAuction auction → 1 ≤ length auction.seals
    → BoardClaim (numbers_in auction) (bids_of auction)
claim_is auction right sealed =
    record {
      one_each = length_bids auction;
      within_width = bids_within auction right;
      is_sale = sale_is auction sealed;
    }

-- so what its board publishes is within the limits, in either version
terms_are : (auction : Auction) → IsAuction auction → 1 ≤ length auction.seals
    → AreBoardTerms (numbers_in auction)
terms_are auction right sealed = record {
  least_version = right.terms.least;
  most_version = right.terms.most;
  some_seals = sealed;
  most_seals = right.held.few_seals;
  wide = right.held.size.width;
  reserve_within_width = right.terms.small;
  unnamed = λ one. right.terms.unnamed (omega (arith, one));
}

pub reserve_case : (auction : Auction) → IsAuction auction → 1 ≤ length auction.seals
    → IsReserveCase (length auction.seals) auction.width auction.reserve (sale_in auction)
reserve_case auction right sealed =
    claimed_reserve_case (numbers_in auction) (bids_of auction) (terms_are auction right sealed)
    (claim_is auction right sealed)

pub case_is : (auction : Auction) → IsAuction auction → 1 ≤ length auction.seals
    → IsBoardCase (numbers_in auction)
case_is auction right sealed =
    claimed_case (numbers_in auction) (bids_of auction) (terms_are auction right sealed)
    (claim_is auction right sealed)

-- the same of numbers that are the auction's
pub case_of : (auction : Auction) (seals : ℕ) (sale : Sale) → IsAuction auction
    → 1 ≤ length auction.seals → seals ≡ length auction.seals → sale ≡ sale_in auction
    → IsBoardCase (board_numbers auction.version seals auction.width auction.reserve sale)
case_of auction seals sale right sealed count is = rw (count, is) (case_is auction right sealed)

-- bids are residues
pub bids_are_residues : (auction : Auction) → IsAuction auction
    → All (λ row. IsResidue row.secret.bid) auction.seals
bids_are_residues auction right =
    let most : 2 ^ auction.width ≤ 2 ^ 40 =
    pow_mono {i = auction.width} {j = 40} right.held.size.width.most in
    All-weaker (IsSealRow auction.id auction.width auction.lanes) (λ row. IsResidue row.secret.bid)
    (λ row is. omega (arith, is.small_bid)) auction.seals right.held.rows

-- of any numbers within the limits: the plan is one, and the values for bids of which they are
-- claimed hold for it
pub board_plan_is : (n : BoardNumbers) → IsBoardCase n → IsPlan (board_plan n)
board_plan_is = of_plans (λ n. IsPlan (board_plan n)) board_is_plan

pub board_values_hold : (n : BoardNumbers) → IsBoardCase n → (bids : List ℕ) → BoardClaim n bids
    → Holds (board_plan n) (board_values n bids)
board_values_hold = of_plans (λ n. (bids : List ℕ) → BoardClaim n bids
    → Holds (board_plan n) (board_values n bids)) board_complete

pub plan_is : (auction : Auction) → IsAuction auction → 1 ≤ length auction.seals
    → IsPlan (plan_of auction)
unfolding plan_of
plan_is auction right sealed = board_plan_is (numbers_in auction) (case_is auction right sealed)

pub values_hold : (auction : Auction) → IsAuction auction → 1 ≤ length auction.seals
    → Holds (plan_of auction) (values_of auction)
unfolding plan_of values_of
values_hold auction right sealed =
    board_values_hold (numbers_in auction) (case_is auction right sealed) (bids_of auction)
    (claim_is auction right sealed)

-- the position of a winner is that of a seal
pub winner_within : (auction : Auction) (position price : ℕ) → 1 ≤ length auction.seals
    → Sold position price ≡ sale_in auction → (1 ≤ position) × (position - 1 < length auction.seals)
winner_within auction position price sealed is =
    let sold : IsSold (bids_of auction) auction.reserve position price =
    subst (IsSale (bids_of auction) auction.reserve) (sym is) (sale_is auction sealed) in
    let at = sold.wins.is_position in
    (at.some, omega (arith, at.some, at.within, length_bids auction))

-- ---- its circuit

pub inputs_are : (auction : Auction) → IsAuction auction → 1 ≤ length auction.seals
    → length auction.seals ≡ (plan_of auction).inputs
unfolding plan_of
inputs_are auction right sealed =
    sym (of_plans (λ n. (board_plan n).inputs ≡ n.seals) board_inputs (numbers_in auction)
    (case_is auction right sealed))

pub wires_are : (auction : Auction) → IsAuction auction → 1 ≤ length auction.seals
    → length (plan_of auction).kinds ≡ board_wire_count (numbers_in auction)
unfolding plan_of
wires_are auction right sealed =
    of_plans (λ n. length (board_plan n).kinds ≡ board_wire_count n) board_wires
    (numbers_in auction) (case_is auction right sealed)

pub rows_are : (auction : Auction) → IsAuction auction → 1 ≤ length auction.seals
    → length (plan_of auction).rows ≡ board_row_count (numbers_in auction)
unfolding plan_of
rows_are auction right sealed =
    of_plans (λ n. length (board_plan n).rows ≡ board_row_count n) board_rows (numbers_in auction)
    (case_is auction right sealed)

-- how many wires a lane has after the inputs
pub further_wires_are : (auction : Auction) (seals count : ℕ) (sale : Sale) → IsAuction auction
    → 1 ≤ length auction.seals → seals ≡ length auction.seals → sale ≡ sale_in auction
    → count ≡ board_wire_count
    (board_numbers auction.version seals auction.width auction.reserve sale)
    → count - seals ≡ length (plan_of auction).kinds - (plan_of auction).inputs
further_wires_are auction seals count sale right sealed few is wires =
    rw (← inputs_are auction right sealed, wires_are auction right sealed, wires, is, few) refl

-- without a reserve, in version 1, it is that of the outcome
module _ (auction : Auction) (one : auction.version ≡ 1) (none : auction.reserve ≡ 0) where
  numbers_first : numbers_in auction
      ≡ board_numbers 1 (length auction.seals) auction.width 0
      (Sold (outcome_of (bids_of auction)).position (outcome_of (bids_of auction)).price)
  numbers_first =
      let seals : ℕ = length auction.seals in
      ap (λ version. board_numbers version seals auction.width auction.reserve (sale_in auction))
      one
      ∙ ap (λ reserve. board_numbers 1 seals auction.width reserve
      (sale_of (bids_of auction) reserve)) none
      ∙ ap (board_numbers 1 seals auction.width 0) (sales.sale_without (bids_of auction))

  pub first_plan_is : plan_of auction
      ≡ vickrey_plan (length auction.seals) auction.width (outcome_of (bids_of auction)).position
      (outcome_of (bids_of auction)).price
  unfolding plan_of
  first_plan_is = ap board_plan numbers_first

  pub first_values_are : values_of auction
      ≡ honest_values (length auction.seals) auction.width (outcome_of (bids_of auction)).position
      (outcome_of (bids_of auction)).price (bids_of auction)
  unfolding values_of
  first_values_are = ap (λ n. board_values n (bids_of auction)) numbers_first

-- ---- its proof

-- a secret has a tape for each lane of its seal
pub have_tapes : (id : List ℕ) (width lanes : ℕ) (rows : List SealRow)
    → All (IsSealRow id width lanes) rows → All (HasTapesFor lanes) rows
have_tapes id width lanes rows right =
    All-weaker (IsSealRow id width lanes) (HasTapesFor lanes)
    (λ row is. record { count = lanes_of id width lanes row is; each = is.secret.tapes }) rows right

-- with any seed that leaves no wire dry
pub proof_where : (auction : Auction) (seed : List ℕ) → IsAuction auction → 1 ≤ length auction.seals
    → first_dry_in (source_of (proof_with auction seed)) ≡ None
    → IsProof (proof_with auction seed)
proof_where auction seed right sealed none =
    record {
      plan = plan_is auction right sealed;
      one_input_each = inputs_are auction right sealed;
      values = values_hold auction right sealed;
      count = right.held.size.lanes;
      secrets = have_tapes auction.id auction.width auction.lanes auction.seals right.held.rows;
      none_dry = none;
    }

pub proof_is : (auction : Auction) → IsProvedAuction auction → IsProof (proof_of auction)
proof_is auction proved = proof_where auction (seed_in auction) proved.right
    (has_seal auction proved) proved.tapes

-- what a job keeps was prepared for it
module _ (auction : Auction) (sale : Sale) (made : Prepared) (is : IsJob auction sale made) where
  abbrev pub of_job : ProofValue
  of_job = prepared_proof auction.id auction.seals auction.lanes (seed_in auction) made

  same_proof : proof_of auction ≡ of_job
  same_proof =
      let of = parts.proof_with auction.id auction.seals auction.lanes (seed_in auction) in
      sym (ap (λ plan. of plan made.values) is.plan_is ∙ ap (of (plan_of auction)) is.values_are)

  pub job_proof_is : IsProof of_job
  job_proof_is = subst IsProof same_proof (proof_is auction is.proved)

  pub job_is_prepared : IsPrepared of_job made
  job_is_prepared = record {
    table = is.table_is;
    tapes = is.tapes_are ∙ ap (λ proof. tapes_in (source_of proof)) same_proof;
  }
