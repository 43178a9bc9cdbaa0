-- What `coin-part` does: it draws an auditor's share.
use Rattle.std.specs.Prelude.{ℕ, ◌+◌, List, codes, decimal}
use Rattle.vk_lines.specs.Tokens.{hex_text}
use Rattle.vk_dice.specs.Stream.{word_at}
use Rattle.vk_words.specs.Coins.{PartWords}
use Rattle.vk_effect.specs.Effects.{DeedValue, SaidValue, writes_one}
use Rattle.vk_effect.specs.Texts.{◌+++◌, line_feed}
use Rattle.vk_coin.specs.declared.share.Share.{Share}
use Rattle.vk_coin.specs.Shares.{drawn_share, share_digest, share_text}

-- the stream of that auditor
abbrev pub auditor_stream : ℕ → ℕ
auditor_stream auditor = 131072 + auditor

-- the share: it is drawn from the seed's words in the stream of the auditor
unfoldable pub share_of : PartWords → Share
share_of order = drawn_share order.auction order.auditor order.lanes
    (word_at order.seed order.auction (auditor_stream order.auditor))

-- what is said of a share: the auditor's part of a coin, which is its commitment
abbrev pub committed_said : Share → SaidValue
committed_said share = record {
  status = 0;
  text = codes "part " +++ decimal share.auditor +++ codes " commit " +++ hex_text
      (share_digest share) +++ line_feed;
}

-- the file of a share is written
abbrev pub share_deed : List ℕ → Share → DeedValue
share_deed name share = writes_one name (share_text share) (committed_said share)

abbrev pub part_deed : PartWords → DeedValue
part_deed order = share_deed order.share (share_of order)
