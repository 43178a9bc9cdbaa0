-- What is printed of the bids that two replies give, and of two openings of one commitment.
use Rattle.std.specs.Prelude.{ℕ, ◌+◌, ◌==◌, Bool, if◌then◌else◌, List, [], ◌∷◌, ◌++◌, Option, Some, None, codes, decimal, slice_get}
use Rattle.std.specs.List.{flat_map, list_all}
use Rattle.vk_commit.specs.Commitment.{TwoOpeningsSeen}
use Rattle.vk_commit.specs.declared.place.Place.{Place}
use Rattle.vk_commit.specs.declared.place.Opening.{Opening}
use Rattle.vk_lines.specs.Forms.{line, spaced}
use Rattle.vk_lines.specs.Tokens.{hex_text}
use Rattle.vk_board.specs.declared.board.Head.{Head}
use Rattle.vk_board.specs.declared.board.SealLines.{SealLines}
use Rattle.vk_bids.specs.declared.bids.OpenedBid.{OpenedBid}
use Rattle.vk_bids.specs.declared.bids.LaneBids.{LaneBids}
use Rattle.vk_bids.specs.declared.extraction.Extracted.{Extracted}

-- the key and the value
unfoldable pub opening_text : Opening → List ℕ
opening_text opening = spaced (hex_text opening.key ∷ decimal opening.value ∷ [])

-- a value of the lane of that number, behind this word
abbrev pub opened_line : List ℕ → ℕ → OpenedBid → List ℕ
opened_line word number opened =
    line (spaced (codes "lane" ∷ decimal number ∷ codes "seat" ∷ decimal opened.seat ∷ word
    ∷ decimal opened.bid
    ∷ codes "u" ∷ opening_text opened.first ∷ codes "v" ∷ opening_text opened.second ∷ []))

-- the bids of a lane, one line for each seal in order
abbrev pub lane_bids_text : LaneBids → List ℕ
lane_bids_text lane = flat_map (opened_line (codes "bid") lane.number) lane.bids

-- where a commitment stands in its auction
unfoldable pub place_text : Place → List ℕ
place_text place =
    spaced (codes "lane" ∷ decimal place.lane ∷ codes "seat" ∷ decimal place.seat ∷ codes "slot"
    ∷ decimal place.slot ∷ [])

-- two openings of a digest at a place
abbrev pub openings_text : Place → List ℕ → Opening → Opening → List ℕ
openings_text place digest first second =
    line (spaced (codes "clash" ∷ place_text place ∷ codes "digest" ∷ hex_text digest
    ∷ codes "first" ∷ opening_text first ∷ codes "second" ∷ opening_text second ∷ []))

abbrev pub clash_text : TwoOpeningsSeen → List ℕ
clash_text two = openings_text two.place two.digest two.first two.second

-- ---- an extraction

-- the bid of the seal at that index, from 0, in the lane; 0 where there is none
abbrev pub bid_or_zero : Option OpenedBid → ℕ
bid_or_zero (Some bid) = bid.bid
bid_or_zero None = 0

abbrev pub bid_in : ℕ → LaneBids → ℕ
bid_in index lane = bid_or_zero (slice_get lane.bids index)

-- the same in the first of the lanes
abbrev pub first_bid : ℕ → List LaneBids → ℕ
first_bid index [] = 0
first_bid index (lane ∷ lanes) = bid_in index lane

-- whether the bids of the seal at that index are equal in all lanes
abbrev pub has_one_bid : ℕ → List LaneBids → Bool
has_one_bid index lanes = list_all (λ lane. bid_in index lane == first_bid index lanes) lanes

abbrev pub agreement : Bool → List ℕ
agreement one_bid = if one_bid then codes "same" else codes "differs"

abbrev pub agreement_line : SealLines → Bool → List ℕ
agreement_line seal one_bid = line
    (spaced (codes "seat" ∷ decimal seal.seat ∷ agreement one_bid ∷ []))

-- a line for each seal, the first of them at that index
abbrev pub agreements_text : ℕ → List SealLines → List LaneBids → List ℕ
agreements_text index [] lanes = []
agreements_text index (seal ∷ seals) lanes =
    agreement_line seal (has_one_bid index lanes) ++ agreements_text (index + 1) seals lanes

-- what is sold: the seat that won and the price, and the reserve, which version 2 names
abbrev pub sold_line : Head → ℕ → List ℕ
sold_line head seat =
    if head.version == 2
    then line (spaced (codes "winner" ∷ decimal seat ∷ codes "price" ∷ decimal head.price
    ∷ codes "reserve" ∷ decimal head.reserve ∷ []))
    else line (spaced (codes "winner" ∷ decimal seat ∷ codes "price" ∷ decimal head.price ∷ []))

-- what is not: the reserve that no bid met
abbrev pub unsold_line : Head → List ℕ
unsold_line head = line (spaced (codes "unsold" ∷ codes "reserve" ∷ decimal head.reserve ∷ []))

abbrev pub sale_line_for : Head → Option ℕ → List ℕ
sale_line_for head (Some seat) = sold_line head seat
sale_line_for head None = unsold_line head

-- the sale that the board publishes
abbrev pub sale_line : Head → List ℕ
sale_line head = sale_line_for head head.winner

-- the bids of each lane, the published sale, and of each seal whether its bids are equal
abbrev pub extraction_text : Extracted → List ℕ
extraction_text found =
    flat_map lane_bids_text found.lanes
    ++ (sale_line found.front.head
    ++ (agreements_text 0 found.front.seals found.lanes ++ line (codes "end")))
