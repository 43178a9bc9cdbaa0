-- What a house is asked.
use Rattle.std.specs.Prelude.{ℕ, ◌<◌, ◌^◌, List, Option, Some, None}
use Rattle.vk_residue.specs.Limits.{IsSize}
use Rattle.vk_commit.specs.Values.{AreBytes}
use Rattle.vk_reply.specs.declared.challenge.Challenge.{Challenge}
use Rattle.vk_reply.specs.Values.{IsChallenge}
use Rattle.vk_seal.specs.declared.secret.Secret.{Secret}
use Rattle.vk_seal.specs.declared.secret.Seal.{Seal}
use Rattle.vk_seal.specs.Values.{IsSeal, IsSecret}

-- one auction is begun, without a reserve or with one, is handed a seal with its secret, is proved
-- with a seed, answers a challenge, or is shown
pub data HouseCommand : Type 0 where
  Announce : (id : List ℕ) (width lanes : ℕ) → HouseCommand
  AnnounceReserve : (id : List ℕ) (width lanes reserve : ℕ) → HouseCommand
  Submit : (id : List ℕ) (seal : Seal) (secret : Secret) → HouseCommand
  Prove : (id seed : List ℕ) → HouseCommand
  Answer : (id : List ℕ) (challenge : Challenge) → HouseCommand
  Show : (id : List ℕ) → HouseCommand

-- one is begun with that reserve, if one is named
abbrev pub announcing : List ℕ → ℕ → ℕ → Option ℕ → HouseCommand
announcing id width lanes None = Announce id width lanes
announcing id width lanes (Some reserve) = AnnounceReserve id width lanes reserve

-- the id of the auction that a command speaks of
abbrev pub id_of : HouseCommand → List ℕ
id_of (Announce id width lanes) = id
id_of (AnnounceReserve id width lanes reserve) = id
id_of (Submit id seal secret) = id
id_of (Prove id seed) = id
id_of (Answer id challenge) = id
id_of (Show id) = id

-- what a house may be asked: ids have 16 bytes and seeds 32, a reserve is below 2^width, and seals,
-- secrets and challenges are such
abbrev pub IsHouseCommand : HouseCommand → Type 0
IsHouseCommand (Announce id width lanes) = AreBytes 16 id × IsSize width lanes
IsHouseCommand (AnnounceReserve id width lanes reserve) = AreBytes 16 id × IsSize width lanes
    × (reserve < 2 ^ width)
IsHouseCommand (Submit id seal secret) = AreBytes 16 id × IsSeal seal × IsSecret secret
IsHouseCommand (Prove id seed) = AreBytes 16 id × AreBytes 32 seed
IsHouseCommand (Answer id challenge) = AreBytes 16 id × IsChallenge challenge
IsHouseCommand (Show id) = AreBytes 16 id

-- a command that names no reserve
abbrev pub NamesNoReserve : HouseCommand → Type 0
NamesNoReserve (AnnounceReserve id width lanes reserve) = ⊥
NamesNoReserve command = Unit {0}
