-- What the commands are to do that make a challenge without the auctioneer.
use Rattle.std.specs.Prelude.{ℕ, ◌≤◌, List, Option, Some, None, option_map}
use Rattle.vk_residue.specs.Limits.{IsLaneCount}
use Rattle.vk_residue.specs.Steps.{◌>>?◌}
use Rattle.vk_lines.specs.Tokens.{number_token}
use Rattle.vk_words.specs.declared.coins.ChallengeNames.{ChallengeNames}
use Rattle.vk_words.specs.declared.coins.CoinOrder.{CoinOrder}
use Rattle.vk_words.specs.declared.coins.CoinOrder.TheVariants as orders
use Rattle.vk_words.specs.declared.coins.PartOrder.{PartOrder}
use Rattle.vk_words.specs.declared.table.Verb.{Verb}
use Rattle.vk_words.specs.declared.table.Verb.TheVariants as verbs
use Rattle.vk_words.specs.Names.{name_at, nth_word}
use Rattle.vk_words.specs.Orders.{id_at, if_other, seed_at}

-- what `coin-part` is to draw: the id of an auction, an auditor, the lanes and the seed, and the
-- name of its file
pub record PartWords : Type 0 where
  pub auction : List ℕ
  pub auditor : ℕ
  pub lanes : ℕ
  pub seed : List ℕ
  pub share : List ℕ

-- the name of the file that is read, and that of the challenge's file
pub record ChallengeWords : Type 0 where
  pub from : List ℕ
  pub challenge : List ℕ

-- one auditor's share is drawn; a coin is joined; or a board gives the challenge
pub data CoinWords : Type 0 where
  Part : PartWords → CoinWords
  Join : ChallengeWords → CoinWords
  Board : ChallengeWords → CoinWords

abbrev part_words : List ℕ → (auditor lanes : ℕ) → (seed share : List ℕ) → PartWords
part_words auction auditor lanes seed share =
    record { auction = auction; auditor = auditor; lanes = lanes; seed = seed; share = share }

abbrev pub part_seen : PartOrder → PartWords
part_seen order = part_words order.auction order.auditor order.lanes order.seed order.share.now

abbrev pub challenge_seen : ChallengeNames → ChallengeWords
challenge_seen names = record { from = names.from.now; challenge = names.challenge.now }

abbrev pub coin_seen : CoinOrder → CoinWords
coin_seen (orders.Part order) = Part (part_seen order)
coin_seen (orders.Join names) = Join (challenge_seen names)
coin_seen (orders.Board names) = Board (challenge_seen names)

-- ---- limits

-- what drawing a share asks of its numbers
pub record IsPartOrder (order : PartWords) : Type 0 where
  pub least : 1 ≤ order.auditor
  pub most : order.auditor ≤ 16
  pub lanes : IsLaneCount order.lanes

abbrev pub IsCoinOrder : CoinOrder → Type 0
IsCoinOrder (orders.Part order) = IsPartOrder (part_seen order)
IsCoinOrder order = Unit {0}

-- ---- where they stand

-- ID AUDITOR LANES SEED SHARE behind the first word
unfoldable pub part_in : List (List ℕ) → Option PartWords
part_in words =
    id_at words 1 >>? λ auction.
    number_token 1 16 (nth_word words 2) >>? λ auditor.
    number_token 1 64 (nth_word words 3) >>? λ lanes.
    seed_at words 4 >>? λ seed.
    name_at words 5 >>? λ share.
    Some (part_words auction auditor lanes seed share)

-- a file's name and CHALLENGE behind the first word, where the two files have different names
unfoldable pub challenge_in : List (List ℕ) → Option ChallengeWords
challenge_in words =
    name_at words 1 >>? λ from.
    name_at words 2 >>? λ challenge.
    if_other from challenge (record { from = from; challenge = challenge })

-- the command of that first word
abbrev pub coin_by : Verb → List (List ℕ) → Option CoinWords
coin_by verbs.CoinPart words = option_map Part (part_in words)
coin_by verbs.CoinJoin words = option_map Join (challenge_in words)
coin_by verbs.CoinBoard words = option_map Board (challenge_in words)
coin_by verb words = None
