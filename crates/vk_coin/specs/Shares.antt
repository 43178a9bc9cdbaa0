-- What an auditor brings to a joint challenge: a share, how it is drawn, its commitment and its
-- text.
use Rattle.std.specs.Prelude.{ℕ, ◌+◌, ◌/◌, ◌^◌, ◌≤◌, Bool, if◌then◌else◌, List, [], ◌∷◌, ◌++◌, length, map, codes, decimal}
use Rattle.std.specs.Int.{w16, w64, to_be_bytes}
use Rattle.std.specs.List.{range_with_len}
use Rattle.sha2.specs.Sha256.{sha256}
use Rattle.vk_residue.specs.Limits.{IsLaneCount}
use Rattle.vk_commit.specs.Values.{AreBytes}
use Rattle.vk_dice.specs.Words.{later}
use Rattle.vk_dice.specs.Draws.{drawn_bit, drawn_key}
use Rattle.vk_lines.specs.Forms.{line, spaced}
use Rattle.vk_lines.specs.Tokens.{hex_text}
use Rattle.vk_reply.specs.Texts.{bits_text}
use Rattle.vk_coin.specs.declared.share.Share.{Share}

-- an auditor of a coin: there are at most 16
pub record IsAuditor (auditor : ℕ) : Type 0 where
  pub least : 1 ≤ auditor
  pub most : auditor ≤ 16

-- a share: the id of an auction, an auditor, the bit of each of up to 64 lanes, and a key
pub record IsShare (share : Share) : Type 0 where
  pub id : AreBytes 16 share.auction
  pub auditor : IsAuditor share.auditor
  pub count : IsLaneCount (length share.bits)
  pub key : AreBytes 32 share.key

-- ---- the commitment

-- a number of binary digits, of which the first counts so much, and each half of the one before
abbrev pub weighed : ℕ → List Bool → ℕ
weighed weight [] = 0
weighed weight (bit ∷ bits) = (if bit then weight else 0) + weighed (weight / 2) bits

-- the bits as a number of 64 binary digits: that of lane 1 first, and zeros after the last
abbrev pub bits_number : List Bool → ℕ
bits_number bits = weighed (2 ^ 63) bits

-- the 64 bytes that the commitment to a share hashes, numbers big-endian
abbrev pub share_message : Share → List ℕ
share_message share =
    codes "VKJ1" ++ share.auction ++ to_be_bytes w16 share.auditor
    ++ to_be_bytes w16 (length share.bits)
    ++ share.key ++ to_be_bytes w64 (bits_number share.bits)

-- the commitment: SHA-256 of the message (FIPS 180-4, 6.2)
abbrev pub share_digest : Share → List ℕ
share_digest share = sha256 (share_message share)

-- ---- how a share is drawn

-- a bit for each lane, from one word each
abbrev pub drawn_bits : ℕ → (ℕ → ℕ) → List Bool
drawn_bits lanes ahead = map (λ lane. drawn_bit (later lane ahead)) (range_with_len 0 lanes)

-- a key, and then the bits
abbrev pub drawn_share : List ℕ → ℕ → ℕ → (ℕ → ℕ) → Share
drawn_share auction auditor lanes ahead =
    record {
      auction = auction;
      auditor = auditor;
      bits = drawn_bits lanes (later 4 ahead);
      key = drawn_key ahead;
    }

-- ---- the file

-- the file that an auditor keeps until all have committed, and then shows
unfoldable pub share_text : Share → List ℕ
share_text share =
    line (codes "vickrey-share 1")
    ++ (line (spaced (codes "auction" ∷ hex_text share.auction ∷ []))
    ++ (line (spaced (codes "auditor" ∷ decimal share.auditor ∷ []))
    ++ (line (spaced (codes "show" ∷ hex_text share.key ∷ bits_text share.bits ∷ []))
    ++ line (codes "end"))))
