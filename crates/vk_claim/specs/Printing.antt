-- What is printed of the values that two replies to a claim file give.
use Rattle.std.specs.Prelude.{ℕ, List, [], ◌∷◌, ◌++◌, codes}
use Rattle.std.specs.List.{flat_map}
use Rattle.vk_lines.specs.Forms.{line, spaced}
use Rattle.vk_bids.specs.declared.bids.LaneBids.{LaneBids}
use Rattle.vk_bids.specs.declared.bids.OpenedBid.{OpenedBid}
use Rattle.vk_bids.specs.Texts.{agreements_text, opened_line}
use Rattle.vk_claim.specs.Extraction.{OpenedClaim}
use Rattle.vk_words.specs.declared.claim.Kind.{Kind}
use Rattle.vk_words.specs.Claims.{kind_word}

-- a value of the lane of that number
abbrev pub value_line : ℕ → OpenedBid → List ℕ
value_line = opened_line (codes "value")

abbrev pub kind_text : Kind → List ℕ
kind_text kind = line (spaced (codes "kind" ∷ kind_word kind ∷ []))

-- the values of a lane, one line for each seal in order
abbrev pub values_text : LaneBids → List ℕ
values_text lane = flat_map (value_line lane.number) lane.bids

-- the values of each lane, the kind of the public part, and of each seal whether its values are
-- equal
abbrev pub claim_extraction_text : OpenedClaim → List ℕ
claim_extraction_text found =
    flat_map values_text found.opened.lanes
    ++ (kind_text found.head.kind
    ++ (agreements_text 0 found.opened.statement.seals found.opened.lanes
    ++ line (codes "end")))
