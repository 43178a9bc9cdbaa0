-- The laws of proofs, and of auctions that are proved.
use Rattle.std.specs.Prelude.{◌≡◌, ℕ, ◌-◌, ◌≤◌, Bool, false, length, slice_index_or}
use Rattle.std.specs.List.{AllByRecursion}
use Rattle.vk_board.specs.Values.{IsLaneLines}
use Rattle.vk_reply.specs.declared.challenge.Challenge.{Challenge}
use Rattle.vk_reply.specs.Values.{IsChallenge, AreShown, IsReply}
use Rattle.vk_prover.specs.Laws.{IsTapeOf}
use Rattle.vk_keeper.specs.declared.auction.Auction.{Auction}
use Rattle.vk_job.specs.Proofs.{ProofValue, TapeSource, IsProof, IsDrawnIn, lane_tape_in, lanes_in, lane_shown_in, lanes_shown_from}
use Rattle.vk_job.specs.Jobs.{IsProvedAuction}

-- a law of every proof
abbrev pub OfProofs : (ProofValue → Type 0) → Type 0
OfProofs Law = (proof : ProofValue) → IsProof proof → Law proof

-- a law of every auction that is proved
abbrev pub WhereProved : (Auction → Type 0) → Type 0
WhereProved Law = (auction : Auction) → IsProvedAuction auction → Law auction

-- a law of every auction of version 1, which names no reserve
abbrev pub OfFirst : (Auction → Type 0) → Type 0
OfFirst Law = (auction : Auction) → auction.version ≡ 1 → auction.reserve ≡ 0 → Law auction

-- what holds of each of so many lanes, counted from 1
abbrev pub EachLane : ℕ → (ℕ → Type 0) → Type 0
EachLane lanes Holds = (lane : ℕ) → 1 ≤ lane → lane ≤ lanes → Holds lane

-- each lane has a tape that the seed's words give
abbrev pub HasTapes : TapeSource → Type 0
HasTapes source = EachLane source.lanes (IsDrawnIn source)

-- the tape of each lane is one for the plan
abbrev pub HasTapesOfPlan : ProofValue → Type 0
HasTapesOfPlan proof = EachLane proof.lanes (λ lane. IsTapeOf proof.plan (lane_tape_in proof lane))

-- what is published of each lane has two digests for each wire after the inputs, and a number for
-- each row
abbrev pub HasLaneLines : ProofValue → Type 0
HasLaneLines proof =
    AllByRecursion (IsLaneLines (length proof.plan.kinds - proof.plan.inputs)
    (length proof.plan.rows)) (lanes_in proof)

-- what is shown of each lane for a bit has what each wire's kind and the bit ask for
abbrev pub HasShown : ProofValue → Type 0
HasShown proof = (bit : Bool) → EachLane proof.lanes
    (λ lane. AreShown proof.plan.kinds bit (lane_shown_in proof lane bit))

-- what is shown for a challenge that has a bit for each lane is a reply
abbrev pub HasReplies : ProofValue → Type 0
HasReplies proof = (challenge : Challenge) → IsChallenge challenge
    → length challenge.bits ≡ proof.lanes
    → IsReply proof.plan.kinds (λ lane. slice_index_or challenge.bits (lane - 1) false)
    (lanes_shown_from proof 1 challenge.bits)
