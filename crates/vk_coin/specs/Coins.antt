-- A coin: the parts by which auditors commit to their shares, then the shares, and the challenge
-- that these are together.
use Rattle.std.specs.Prelude.{◌≡◌, ℕ, ◌+◌, ◌<◌, Bool, if◌then◌else◌, List, [], ◌∷◌, ◌++◌, length, map, codes, decimal, slice_get, Option, Some, None}
use Rattle.std.specs.List.{AllByRecursion}
use Rattle.std.specs.Str.{bytes_eq}
use Rattle.vk_residue.specs.Limits.{IsLaneCount}
use Rattle.vk_commit.specs.Values.{AreBytes}
use Rattle.vk_lines.specs.Forms.{line, spaced, numbered_text}
use Rattle.vk_lines.specs.Tokens.{hex_text}
use Rattle.vk_reply.specs.Texts.{bits_text}
use Rattle.vk_reply.specs.declared.challenge.Challenge.{Challenge}
use Rattle.vk_coin.specs.Bits.{joint_of}
use Rattle.vk_coin.specs.Shares.{IsAuditor, share_digest}
use Rattle.vk_coin.specs.declared.coin.Coin.{Coin}
use Rattle.vk_coin.specs.declared.share.Share.{Share}

-- the share of that auditor, for the auction of that id, with so many bits
pub record IsShareOf (id : List ℕ) (count number : ℕ) (share : Share) : Type 0 where
  pub auction : share.auction ≡ id
  pub auditor : share.auditor ≡ number
  pub bits : length share.bits ≡ count
  pub key : AreBytes 32 share.key

-- a coin: the id of an auction, how many bits there are, and the part and the share of each of up
-- to 16 auditors, of whom the first is auditor 1
pub record IsCoin (coin : Coin) : Type 0 where
  pub id : AreBytes 16 coin.auction
  pub bits : IsLaneCount coin.bits
  pub auditors : IsAuditor (length coin.parts)
  pub parts : AllByRecursion (AreBytes 32) coin.parts
  pub one_each : length coin.shares ≡ length coin.parts
  pub shares : (index : ℕ) (share : Share) → slice_get coin.shares index ≡ Some share
      → IsShareOf coin.auction coin.bits (index + 1) share

-- ---- the file

-- the line of an auditor's part
abbrev pub part_text : ℕ → List ℕ → List ℕ
part_text auditor part = line (spaced (codes "part" ∷ decimal auditor ∷ hex_text part ∷ []))

-- the line of an auditor's share, shown
abbrev pub shown_text : ℕ → Share → List ℕ
shown_text auditor share = line
    (spaced (codes "show" ∷ decimal auditor ∷ hex_text share.key ∷ bits_text share.bits ∷ []))

-- the auditors are numbered from 1 on
unfoldable pub coin_text : Coin → List ℕ
coin_text coin =
    line (codes "vickrey-coin 1")
    ++ (line (spaced (codes "auction" ∷ hex_text coin.auction ∷ []))
    ++ (line (spaced (codes "bits" ∷ decimal coin.bits ∷ []))
    ++ (line (spaced (codes "auditors" ∷ decimal (length coin.parts) ∷ []))
    ++ (numbered_text part_text 1 coin.parts
    ++ (numbered_text shown_text 1 coin.shares
    ++ line (codes "end"))))))

-- ---- the joint challenge

-- what the auditors show: the bits of each
abbrev pub shown_bits : Coin → List (List Bool)
shown_bits coin = map (λ share. share.bits) coin.shares

-- the challenge that the shown bits are together
abbrev pub joint_challenge : Coin → Challenge
joint_challenge coin = record { bits = joint_of (shown_bits coin) }

-- the share of that index, counted from 0, opens its part: it has that commitment
abbrev pub OpensPart : Coin → ℕ → Type 0
OpensPart coin index =
    (part : List ℕ) (share : Share) → slice_get coin.parts index ≡ Some part
    → slice_get coin.shares index ≡ Some share
    → share_digest share ≡ part

-- each share opens its part
abbrev pub OpensParts : Coin → Type 0
OpensParts coin = (index : ℕ) → index < length coin.parts → OpensPart coin index

-- the first auditor whose share doesn't open its part
pub record IsFirstUnmet (coin : Coin) (auditor : ℕ) : Type 0 where
  pub index : ℕ
  pub number : auditor ≡ index + 1
  pub within : index < length coin.parts
  pub unmet : OpensPart coin index → ⊥
  pub before : (earlier : ℕ) → earlier < index → OpensPart coin earlier

-- the same found, auditor by auditor from that number on
abbrev pub unmet_from : ℕ → List (List ℕ) → List Share → Option ℕ
unmet_from auditor (part ∷ parts) (share ∷ shares) =
    if bytes_eq (share_digest share) part then unmet_from (auditor + 1) parts shares
    else Some auditor
unmet_from auditor parts shares = None

unfoldable pub unmet_part : Coin → Option ℕ
unmet_part coin = unmet_from 1 coin.parts coin.shares
