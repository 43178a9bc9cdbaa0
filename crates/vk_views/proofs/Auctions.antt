-- What an honest auctioneer hands out is the views of its lanes.
use Rattle.std.proofs.Common.{◌≡◌, ℕ, ◌+◌, Bool, List, [], ◌∷◌, length, map, refl, ap, arith}
use Rattle.std.specs.List.{AllByRecursion, range_with_len}
use Rattle.std.proofs.lemmas.List.Elements.{recursion_from_All}
use Rattle.vk_plan.specs.Plans.{Holds}
use Rattle.vk_range.specs.SetLaws.{All-listed}
use Rattle.vk_prover.specs.Laws.{IsTapeOf}
use Rattle.vk_reply.specs.Texts.{reply_text}
use Rattle.vk_vickrey.specs.BoardPlans.{BoardClaim}
use Rattle.vk_keeper.specs.declared.auction.Auction.{Auction}
use Rattle.vk_job.specs.Proofs.{lane_in, lane_shown_in}
use Rattle.vk_job.specs.Jobs.{IsProvedAuction, numbers_in, plan_of, values_of, proof_of, lane_tape}
use Rattle.vk_job.specs.Published.{lane_of, shown_in, shown_from}
use Rattle.vk_job.proofs.Drawing.{lane_tape_is}
use Rattle.vk_job.proofs.Held.{board_values_hold, has_seal, case_is, plan_is, proof_is, values_hold}
use Rattle.vk_views.specs.declared.views.LaneView.{LaneView}
use Rattle.vk_views.specs.Views.{views_of}
use Rattle.vk_views.specs.Auctions.{RepliesAreTextsOfViews, PostedAreThoseOfViews, OtherBidsGiveTheViews, tapes_of, values_for}
use Rattle.vk_views.proofs.Counts.{views_of_lanes}

-- the views of the lanes behind so many, one for each bit
abbrev views_behind : Auction → ℕ → List Bool → List LaneView
views_behind auction before bits = views_of (plan_of auction) (values_of auction)
    (map (λ index. lane_tape auction (index + 1)) (range_with_len before (length bits))) bits

-- what is shown from a lane on
shown_of_views : (auction : Auction) (before : ℕ) (bits : List Bool)
    → shown_from auction (before + 1) bits
    ≡ map (λ view. view.shown) (views_behind auction before bits)
unfolding lane_shown_in
shown_of_views auction before [] = refl
shown_of_views auction before (bit ∷ bits) =
    ap (λ rest. shown_in auction (before + 1) bit ∷ rest) (shown_of_views auction (before + 1) bits)

-- what is posted
posted_of_views : (auction : Auction) (before : ℕ) (bits : List Bool)
    → map (λ lane. lane.posted)
    (map (λ index. lane_of auction (index + 1)) (range_with_len before (length bits)))
    ≡ map (λ view. view.posted) (views_behind auction before bits)
unfolding lane_in
posted_of_views auction before [] = refl
posted_of_views auction before (bit ∷ bits) =
    ap (λ rest. (lane_of auction (before + 1)).posted ∷ rest)
    (posted_of_views auction (before + 1) bits)

pub replies_are_texts : RepliesAreTextsOfViews
replies_are_texts auction challenge proved same =
    ap reply_text (rw same at (shown_of_views auction 0 challenge.bits))

pub posted_are_theirs : PostedAreThoseOfViews
posted_are_theirs auction challenge proved same =
    rw same at (posted_of_views auction 0 challenge.bits)

-- the tapes of an auction that is proved are tapes for its plan
tapes_are : (auction : Auction) → IsProvedAuction auction
    → AllByRecursion (IsTapeOf (plan_of auction)) (tapes_of auction)
tapes_are auction proved =
    let P = IsTapeOf (plan_of auction) in
    recursion_from_All P (tapes_of auction)
    (All-listed P (λ index. lane_tape auction (index + 1)) auction.lanes
    (λ index lt. lane_tape_is (proof_of auction) (index + 1) (proof_is auction proved)
    (omega arith) (omega arith)))

-- the values for other bids hold for the plan
others_hold : (auction : Auction) (others : List ℕ) → IsProvedAuction auction
    → BoardClaim (numbers_in auction) others
    → Holds (plan_of auction) (values_for auction others)
unfolding plan_of
others_hold auction others proved claim =
    board_values_hold (numbers_in auction) (case_is auction proved.right (has_seal auction proved))
    others claim

pub others_give_the_views : OtherBidsGiveTheViews
others_give_the_views auction challenge proved same others claim =
    let sealed = has_seal auction proved in
    views_of_lanes (plan_of auction) (values_of auction) (values_for auction others)
    (plan_is auction proved.right sealed) (values_hold auction proved.right sealed)
    (others_hold auction others proved claim) challenge.bits (tapes_of auction)
    (tapes_are auction proved)
