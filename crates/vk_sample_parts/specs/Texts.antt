-- What is said of a sample whose seed is dry, and of one that both replies are accepted of.
use Rattle.std.specs.Prelude.{ℕ, List, ◌++◌, codes, decimal}
use Rattle.std.specs.List.{count_by, range_with_len}
use Rattle.vk_bids.specs.declared.bids.LaneBids.{LaneBids}
use Rattle.vk_bids.specs.Texts.{has_one_bid}
use Rattle.vk_effect.specs.Dry.{bidder_dry_line, house_dry_line}
use Rattle.vk_effect.specs.Effects.{SaidValue}
use Rattle.vk_effect.specs.Texts.{◌+++◌, line_feed}
use Rattle.vk_sample_parts.specs.Auctions.{DrySeed, OfBidder, OfHouse}

abbrev pub dry_line : DrySeed → List ℕ
dry_line (OfBidder lane) = bidder_dry_line lane
dry_line (OfHouse dry) = house_dry_line dry.lane dry.wire

abbrev pub dry_said : DrySeed → SaidValue
dry_said dry = record { status = 8; text = dry_line dry }

-- both replies are accepted
abbrev pub accepted_text : List ℕ
accepted_text = (codes "verify 1 accepted" +++ line_feed)
    ++ (codes "verify 2 accepted" +++ line_feed)

-- in how many lanes bids were opened, and of how many seals they are equal in all of these
abbrev pub opened_text : ℕ → ℕ → List ℕ
opened_text lanes same = (codes "extract lanes " +++ decimal lanes +++ codes " same " +++ decimal
    same +++ line_feed) ++ (codes "end" +++ line_feed)

abbrev pub found_text : ℕ → ℕ → List ℕ
found_text lanes same = accepted_text ++ opened_text lanes same

-- how many of so many seals have one bid in all lanes
abbrev pub same_count : ℕ → List LaneBids → ℕ
same_count seals lanes = count_by (λ index. has_one_bid index lanes) (range_with_len 0 seals)
