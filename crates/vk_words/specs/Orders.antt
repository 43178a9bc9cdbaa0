-- What a bidder's command and the house's commands are to do.
use Rattle.std.specs.Prelude.{ℕ, ◌-◌, ◌^◌, ◌<◌, ◌≤◌, nat_lt, if◌then◌else◌, List, length, option_map, Option, Some, None}
use Rattle.std.specs.Str.{bytes_eq}
use Rattle.vk_residue.specs.Limits.{IsSize}
use Rattle.vk_residue.specs.Steps.{◌>>?◌}
use Rattle.vk_lines.specs.Tokens.{decimal_of, hex_of, number_token}
use Rattle.vk_words.specs.declared.orders.HouseOrder.{HouseOrder}
use Rattle.vk_words.specs.declared.orders.HouseOrder.TheVariants as orders
use Rattle.vk_words.specs.declared.orders.SealOrder.{SealOrder}
use Rattle.vk_words.specs.declared.table.Verb.{Verb}
use Rattle.vk_words.specs.declared.table.Verb.TheVariants as verbs
use Rattle.vk_words.specs.Names.{attempt_at, name_at, nth_word}

-- what `seal` is to make: the id of an auction, a seat, a bid, the width, the lanes and the seed,
-- and the names of its files
pub record SealWords : Type 0 where
  pub auction : List ℕ
  pub seat : ℕ
  pub bid : ℕ
  pub width : ℕ
  pub lanes : ℕ
  pub seed : List ℕ
  pub secret : List ℕ
  pub seal : List ℕ

-- a command of the house, on the auction of that id
pub data HouseWords : Type 0 where
  Announce : (id : List ℕ) (width lanes : ℕ) → HouseWords
  AnnounceReserve : (id : List ℕ) (width lanes reserve : ℕ) → HouseWords
  Submit : (id seal secret : List ℕ) → HouseWords
  Prove : (id seed board : List ℕ) → HouseWords
  Answer : (id challenge reply : List ℕ) → HouseWords
  Show : (id : List ℕ) → HouseWords

abbrev seal_words : List ℕ → (seat bid width lanes : ℕ) → (seed secret seal : List ℕ) → SealWords
seal_words auction seat bid width lanes seed secret seal =
    record {
      auction = auction;
      seat = seat;
      bid = bid;
      width = width;
      lanes = lanes;
      seed = seed;
      secret = secret;
      seal = seal;
    }

abbrev pub seal_seen : SealOrder → SealWords
seal_seen order =
    seal_words order.auction order.seat order.bid order.width order.lanes order.seed
    order.secret.now order.seal.now

abbrev pub house_seen : HouseOrder → HouseWords
house_seen (orders.Announce id width lanes) = Announce id width lanes
house_seen (orders.AnnounceReserve id width lanes reserve) = AnnounceReserve id width lanes reserve
house_seen (orders.Submit id seal secret) = Submit id seal.now secret.now
house_seen (orders.Prove id seed board) = Prove id seed board.now
house_seen (orders.Answer id challenge reply) = Answer id challenge.now reply.now
house_seen (orders.Show id) = Show id

-- ---- limits

-- what making a seal asks of its numbers
pub record IsSealOrder (order : SealWords) : Type 0 where
  pub seat : 1 ≤ order.seat
  pub size : IsSize order.width order.lanes

-- what the house asks of the numbers of a command
abbrev pub IsHouseOrder : HouseOrder → Type 0
IsHouseOrder (orders.Announce id width lanes) = IsSize width lanes
IsHouseOrder (orders.AnnounceReserve id width lanes reserve) = IsSize width lanes
    × (reserve < 2 ^ width)
IsHouseOrder order = Unit {0}

-- ---- where they stand

-- the id of 16 bytes at that place
abbrev pub id_at : List (List ℕ) → ℕ → Option (List ℕ)
id_at words place = hex_of 16 (nth_word words place)

-- the seed of 32 bytes at that place
abbrev pub seed_at : List (List ℕ) → ℕ → Option (List ℕ)
seed_at words place = hex_of 32 (nth_word words place)

-- what is given, where the two names differ
abbrev pub if_other : {X : Type 0} → List ℕ → List ℕ → X → Option X
if_other name other given = if bytes_eq name other then None else Some given

-- ID SEAT BID WIDTH LANES SEED SECRET SEAL behind the first word, where the two files have
-- different names
unfoldable pub seal_in : List (List ℕ) → Option SealWords
seal_in words =
    id_at words 1 >>? λ auction.
    number_token 1 65535 (nth_word words 2) >>? λ seat.
    decimal_of (2 ^ 64 - 1) (nth_word words 3) >>? λ bid.
    number_token 1 40 (nth_word words 4) >>? λ width.
    number_token 1 64 (nth_word words 5) >>? λ lanes.
    seed_at words 6 >>? λ seed.
    name_at words 7 >>? λ secret.
    name_at words 8 >>? λ seal.
    if_other secret seal (seal_words auction seat bid width lanes seed secret seal)

-- behind ID, WIDTH and LANES: RESERVE, below 2^WIDTH, where there is a word more; else nothing
abbrev pub announced_on : (id : List ℕ) (width lanes : ℕ) → List (List ℕ) → Option HouseWords
announced_on id width lanes words =
    if nat_lt 4 (length words)
    then option_map (AnnounceReserve id width lanes) (decimal_of (2 ^ width - 1) (nth_word words 4))
    else Some (Announce id width lanes)

-- behind ID: WIDTH LANES, and RESERVE where there is one; SEAL SECRET; SEED BOARD; CHALLENGE REPLY,
-- where the two files have different names; nothing
abbrev pub house_on : List ℕ → Verb → List (List ℕ) → Option HouseWords
house_on id verbs.Announce words =
    number_token 1 40 (nth_word words 2) >>? λ width. number_token 1 64 (nth_word words 3) >>?
    λ lanes. announced_on id width lanes words
house_on id verbs.Submit words =
    name_at words 2 >>? λ seal. name_at words 3 >>? λ secret. Some (Submit id seal secret)
house_on id verbs.Prove words =
    seed_at words 2 >>? λ seed. name_at words 3 >>? λ board. Some (Prove id seed board)
house_on id verbs.Answer words =
    attempt_at words 2 >>? λ attempt. if_other attempt.challenge attempt.reply
    (Answer id attempt.challenge attempt.reply)
house_on id verbs.Show words = Some (Show id)
house_on id verb words = None

-- a command of the house on the auction whose ID stands behind the first word
abbrev pub house_by : Verb → List (List ℕ) → Option HouseWords
house_by verb words = id_at words 1 >>? λ id. house_on id verb words
