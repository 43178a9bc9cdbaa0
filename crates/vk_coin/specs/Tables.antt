-- What may stand next in a share and in a coin, place by place.
use Rattle.std.specs.Prelude.{ℕ, zero, suc, ◌+◌, Bool, true, false, List, codes, Option, None, option_map}
use Rattle.vk_lines.specs.Forms.{Table}
use Rattle.vk_lines.specs.Tokens.{word_of, id_line, number_line}
use Rattle.vk_coin.specs.Reading.{part_line, show_line, shown_line}

-- the places of both forms. In a coin, once there are so many bits: the number of auditors; the
-- part of an auditor, where there are so many, and so many parts after it; the share of an auditor,
-- and so many after it. At `Last` the line `end` stands next
pub data CoinPlace : Type 0 where
  Heading : CoinPlace
  Auction : CoinPlace
  Auditor : CoinPlace
  Show : CoinPlace
  Bits : CoinPlace
  Auditors : ℕ → CoinPlace
  Part : ℕ → ℕ → ℕ → ℕ → CoinPlace
  Shown : ℕ → ℕ → ℕ → CoinPlace
  Last : CoinPlace
  Over : CoinPlace

abbrev pub share_next : CoinPlace → List ℕ → Option CoinPlace
share_next Heading text = option_map (λ _. Auction) (word_of (codes "vickrey-share 1") text)
share_next Auction text = option_map (λ _. Auditor) (id_line (codes "auction") text)
share_next Auditor text = option_map (λ _. Show) (number_line (codes "auditor") 1 16 text)
share_next Show text = option_map (λ _. Last) (show_line text)
share_next Last text = option_map (λ _. Over) (word_of (codes "end") text)
share_next _ text = None

abbrev pub is_over : CoinPlace → Bool
is_over Over = true
is_over _ = false

abbrev pub share_table : Table CoinPlace
share_table = record { first = Heading; next = share_next; over = is_over }

-- before the shares of so many auditors, from that one on
abbrev pub before_shares : ℕ → ℕ → ℕ → CoinPlace
before_shares bits auditor zero = Last
before_shares bits auditor (suc more) = Shown bits auditor more

-- before the parts of so many auditors, from that one on
abbrev pub before_parts : ℕ → ℕ → ℕ → ℕ → CoinPlace
before_parts bits auditors auditor zero = before_shares bits 1 auditors
before_parts bits auditors auditor (suc more) = Part bits auditors auditor more

abbrev pub coin_next : CoinPlace → List ℕ → Option CoinPlace
coin_next Heading text = option_map (λ _. Auction) (word_of (codes "vickrey-coin 1") text)
coin_next Auction text = option_map (λ _. Bits) (id_line (codes "auction") text)
coin_next Bits text = option_map Auditors (number_line (codes "bits") 1 64 text)
coin_next (Auditors bits) text =
    option_map (λ auditors. before_parts bits auditors 1 auditors)
    (number_line (codes "auditors") 1 16 text)
coin_next (Part bits auditors auditor more) text =
    option_map (λ _. before_parts bits auditors (auditor + 1) more) (part_line auditor text)
coin_next (Shown bits auditor more) text =
    option_map (λ _. before_shares bits (auditor + 1) more) (shown_line bits auditor text)
coin_next Last text = option_map (λ _. Over) (word_of (codes "end") text)
coin_next _ text = None

abbrev pub coin_table : Table CoinPlace
coin_table = record { first = Heading; next = coin_next; over = is_over }
