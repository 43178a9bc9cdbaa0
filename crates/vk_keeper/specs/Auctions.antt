-- What a house keeps of an auction: which auctions there are.
use Rattle.std.specs.Prelude.{◌≡◌, ◌≢◌, ℕ, ◌^◌, ◌<◌, ◌≤◌, List, length, Option, Some, None, IfSome, Ok, All, AllPairs}
use Rattle.vk_residue.specs.Limits.{IsSize}
use Rattle.vk_commit.specs.Values.{AreBytes}
use Rattle.vk_reply.specs.declared.challenge.Challenge.{Challenge}
use Rattle.vk_reply.specs.Values.{IsChallenge}
use Rattle.vk_seal.specs.Match.{match_of}
use Rattle.vk_seal.specs.Values.{IsSeal, IsSecret}
use Rattle.vk_keeper.specs.declared.auction.Phase.{Phase}
use Rattle.vk_keeper.specs.declared.auction.Phase.TheVariants.{Taking, Proved, Answered}
use Rattle.vk_keeper.specs.declared.auction.SealRow.{SealRow}
use Rattle.vk_keeper.specs.declared.auction.Auction.{Auction}

-- the seed that is kept once an auction is proved
abbrev pub seed_of : Phase → Option (List ℕ)
seed_of Taking = None
seed_of (Proved seed) = Some seed
seed_of (Answered seed challenge) = Some seed

-- the challenge that was answered
abbrev pub challenge_of : Phase → Option Challenge
challenge_of Taking = None
challenge_of (Proved seed) = None
challenge_of (Answered seed challenge) = Some challenge

-- a seal of an auction with that id, width and number of lanes, and the secret that it is the seal
-- of
pub record IsSealRow (auction : List ℕ) (width lanes : ℕ) (row : SealRow) : Type 0 where
  pub seal : IsSeal row.seal
  pub secret : IsSecret row.secret
  pub id : row.seal.auction ≡ auction
  pub count : length row.seal.lanes ≡ lanes
  pub matched : match_of row.secret row.seal ≡ Ok tt
  pub small_bid : row.secret.bid < 2 ^ width

-- the version of an auction's board, 1 or 2, and its reserve: below 2^width, and 0 in version 1,
-- which names none
pub record IsTerms (version width reserve : ℕ) : Type 0 where
  pub least : 1 ≤ version
  pub most : version ≤ 2
  pub small : reserve < 2 ^ width
  pub unnamed : version ≢ 2 → reserve ≡ 0

-- what is kept beside the terms: up to 64 seals whose seats differ, and at least one, a seed and a
-- bit for each lane in the phases that have them
pub record IsHeld (auction : List ℕ) (width lanes : ℕ) (phase : Phase)
    (seals : List SealRow) : Type 0 where
  pub id : AreBytes 16 auction
  pub size : IsSize width lanes
  pub few_seals : length seals ≤ 64
  pub rows : All (IsSealRow auction width lanes) seals
  pub seats : AllPairs (λ earlier later. earlier.seal.seat ≢ later.seal.seat) seals
  pub some_seal : IfSome (seed_of phase) (λ seed. 1 ≤ length seals)
  pub seed : IfSome (seed_of phase) (AreBytes 32)
  pub challenge : IfSome (challenge_of phase) IsChallenge
  pub bits : IfSome (challenge_of phase) (λ challenge. length challenge.bits ≡ lanes)

-- an auction: what is held of it, on its terms
pub record IsAuction (auction : Auction) : Type 0 where
  pub held : IsHeld auction.id auction.width auction.lanes auction.phase auction.seals
  pub terms : IsTerms auction.version auction.width auction.reserve
