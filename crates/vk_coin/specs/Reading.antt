-- How a share and a coin are read, line by line. The laws say that this is exactly their texts, and
-- stops at the fault line.
use Rattle.std.specs.Prelude.{ℕ, ◌+◌, ◌==◌, Bool, if◌then◌else◌, List, length, codes, Option, None, option_map, Result, Ok}
use Rattle.vk_residue.specs.Steps.{◌>>=◌}
use Rattle.vk_lines.specs.Lines.{Rest, line_by, end_at}
use Rattle.vk_lines.specs.Forms.{many_at}
use Rattle.vk_lines.specs.Tokens.{hex_of, word_of, id_line, number_line, number_token, two_fields, three_fields}
use Rattle.vk_reply.specs.Tokens.{bits_of}
use Rattle.vk_coin.specs.declared.coin.Coin.{Coin}
use Rattle.vk_coin.specs.declared.share.Share.{Share}
use Rattle.vk_coin.specs.declared.tokens.Show.{Show}

-- ---- fields and lines

-- the number of an auditor, which is known
abbrev pub auditor_of : ℕ → List ℕ → Option Unit
auditor_of auditor text = option_map (λ _. tt) (number_token auditor auditor text)

-- so many bits
abbrev pub bits_within : ℕ → List ℕ → Option (List Bool)
bits_within count text = if length text == count then bits_of text else None

-- what shows a share: its key and its bits
abbrev pub show_by : List ℕ → List Bool → Show
show_by key bits = record { key = key; bits = bits }

-- the line of a share
abbrev pub show_line : List ℕ → Option Show
show_line text = two_fields (codes "show") (hex_of 32) bits_of show_by text

-- the line of an auditor's part
abbrev pub part_line : ℕ → List ℕ → Option (List ℕ)
part_line auditor text = two_fields (codes "part") (auditor_of auditor) (hex_of 32) (λ _ part. part)
    text

-- the line of an auditor's share in a coin
abbrev pub shown_line : ℕ → ℕ → List ℕ → Option Show
shown_line bits auditor text =
    three_fields (codes "show") (auditor_of auditor) (hex_of 32) (bits_within bits) (λ _. show_by)
    text

abbrev pub share_with : List ℕ → ℕ → Show → Share
share_with auction auditor show =
    record { auction = auction; auditor = auditor; bits = show.bits; key = show.key }

-- ---- a share

unfoldable pub share_at : Rest → Result (Share × Rest) ℕ
share_at rest =
    line_by (word_of (codes "vickrey-share 1")) rest >>= λ heading.
    line_by (id_line (codes "auction")) heading.1 >>= λ auction.
    line_by (number_line (codes "auditor") 1 16) auction.1 >>= λ auditor.
    line_by show_line auditor.1 >>= λ show.
    end_at show.1 >>= λ over.
    Ok (share_with auction.0 auditor.0 show.0, over.1)

-- ---- a coin

abbrev pub coin_with : List ℕ → ℕ → List (List ℕ) → List Share → Coin
coin_with auction bits parts shares =
    record { auction = auction; bits = bits; parts = parts; shares = shares }

-- the parts of so many auditors
abbrev pub parts_at : ℕ → Rest → Result (List (List ℕ) × Rest) ℕ
parts_at auditors rest = many_at auditors (λ before. line_by (part_line (length before + 1))) rest

-- the share of an auditor
unfoldable pub shown_at : List ℕ → ℕ → ℕ → Rest → Result (Share × Rest) ℕ
shown_at auction bits auditor rest =
    line_by (shown_line bits auditor) rest >>= λ show.
    Ok (share_with auction auditor show.0, show.1)

-- those of so many auditors
abbrev pub shares_at : List ℕ → ℕ → ℕ → Rest → Result (List Share × Rest) ℕ
shares_at auction bits auditors rest =
    many_at auditors (λ before. shown_at auction bits (length before + 1)) rest

unfoldable pub coin_at : Rest → Result (Coin × Rest) ℕ
coin_at rest =
    line_by (word_of (codes "vickrey-coin 1")) rest >>= λ heading.
    line_by (id_line (codes "auction")) heading.1 >>= λ auction.
    line_by (number_line (codes "bits") 1 64) auction.1 >>= λ bits.
    line_by (number_line (codes "auditors") 1 16) bits.1 >>= λ auditors.
    parts_at auditors.0 auditors.1 >>= λ parts.
    shares_at auction.0 bits.0 auditors.0 parts.1 >>= λ shares.
    end_at shares.1 >>= λ over.
    Ok (coin_with auction.0 bits.0 parts.0 shares.0, over.1)
