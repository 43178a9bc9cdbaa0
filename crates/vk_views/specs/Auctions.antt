-- What an honest auctioneer hands out, as texts of views.
use Rattle.std.specs.Prelude.{◌≡◌, ℕ, ◌+◌, Bool, List, length, map}
use Rattle.vk_range.specs.Sets.{listed}
use Rattle.vk_wire.specs.declared.wire.WireTape.{WireTape}
use Rattle.vk_reply.specs.declared.challenge.Challenge.{Challenge}
use Rattle.vk_reply.specs.Texts.{reply_text}
use Rattle.vk_vickrey.specs.BoardPlans.{BoardClaim, board_values}
use Rattle.vk_keeper.specs.declared.auction.Auction.{Auction}
use Rattle.vk_job.specs.Jobs.{IsProvedAuction, numbers_in, plan_of, values_of, lane_tape}
use Rattle.vk_job.specs.Published.{published, reply_of}
use Rattle.vk_views.specs.declared.views.LaneView.{LaneView}
use Rattle.vk_views.specs.Views.{views_of}
use Rattle.vk_views.specs.Moved.{moved_tapes}

-- the tapes of all lanes of the auction
abbrev pub tapes_of : Auction → List (List WireTape)
tapes_of auction = listed (λ index. lane_tape auction (index + 1)) auction.lanes

-- the views of all lanes for the bits of a challenge
abbrev pub views_in : Auction → List Bool → List LaneView
views_in auction bits = views_of (plan_of auction) (values_of auction) (tapes_of auction) bits

-- a law of every auction that is proved and every challenge with a bit for each lane
abbrev pub WhereAnswered : (Auction → Challenge → Type 0) → Type 0
WhereAnswered Law = (auction : Auction) (challenge : Challenge) → IsProvedAuction auction
    → length challenge.bits ≡ auction.lanes → Law auction challenge

-- the reply's file is the text of what the views show
abbrev pub RepliesAreTextsOfViews : Type 0
RepliesAreTextsOfViews =
    WhereAnswered (λ auction challenge. reply_of auction challenge
    ≡ reply_text (map (λ view. view.shown) (views_in auction challenge.bits)))

-- the posted numbers of the board's lanes are those of the views
abbrev pub PostedAreThoseOfViews : Type 0
PostedAreThoseOfViews =
    WhereAnswered (λ auction challenge. map (λ lane. lane.posted) (published auction).lanes
    ≡ map (λ view. view.posted) (views_in auction challenge.bits))

-- the values of the wires, had these been the bids
abbrev pub values_for : Auction → List ℕ → List ℕ
values_for auction bids = board_values (numbers_in auction) bids

-- other bids of which the board would publish the same: with the moved tapes of all lanes they give
-- these very views
abbrev pub OtherBidsGiveTheViews : Type 0
OtherBidsGiveTheViews =
    WhereAnswered (λ auction challenge. (others : List ℕ) → BoardClaim (numbers_in auction) others
    → views_of (plan_of auction) (values_for auction others)
    (moved_tapes (plan_of auction).kinds (values_of auction) (values_for auction others)
    challenge.bits (tapes_of auction)) challenge.bits
    ≡ views_in auction challenge.bits)
