use Rattle.std.proofs.Common.{◌≡◌, ◌++◌, drop, map}
use denote.Shadow.{shadow}
use denote.Text.{Utf8}
use Rattle.vk_words.specs.Table.{row_seen}
use Rattle.vk_words.proofs.Listing.{all_listed, listed}
use Rattle.vk_words.proofs.usage.usage_line.Given as goal

-- the text, with the names that are left behind it, is the whole line but its end
abbrev pub invariant-loop-row : goal.invariant-loop-row
invariant-loop-row l = shadow (Utf8 l.before)
    × (l.text ++ listed l.before (map row_seen (drop l.row-index l.row-items)) ≡ all_listed)
