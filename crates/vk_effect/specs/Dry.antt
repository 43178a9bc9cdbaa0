-- What is said of a seed that gives no tape.
use Rattle.std.specs.Prelude.{ℕ, List, codes, decimal}
use Rattle.vk_effect.specs.Texts.{◌+++◌, line_feed}

-- the line of a bidder's seed: the first lane for which no residue can be drawn
abbrev pub bidder_dry_line : ℕ → List ℕ
bidder_dry_line lane = codes "seal dry seed lane " +++ decimal lane +++ line_feed

-- the line of the house's seed: the first lane and wire without a tape
abbrev pub house_dry_line : ℕ → ℕ → List ℕ
house_dry_line lane wire = codes "house dry seed lane " +++ decimal lane +++ codes " wire " +++
    decimal wire +++ line_feed
