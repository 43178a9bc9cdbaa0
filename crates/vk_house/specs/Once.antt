-- An auction is answered once, and once it is proved nothing but that changes.
use Rattle.std.specs.Prelude.{◌≡◌, ℕ, List, Option, Some, None, IfSome, IsSomeAnd, Contains}
use Rattle.std.specs.FinMap.{get}
use Rattle.vk_vickrey.specs.declared.sales.Sale.{Sale}
use Rattle.vk_reply.specs.declared.challenge.Challenge.{Challenge}
use Rattle.vk_keeper.specs.declared.auction.Auction.{Auction}
use Rattle.vk_keeper.specs.declared.auction.Phase.{Phase}
use Rattle.vk_keeper.specs.declared.auction.Phase.TheVariants.{Taking, Proved, Answered}
use Rattle.vk_keeper.specs.Auctions.{seed_of}
use Rattle.vk_keeper.specs.Ledgers.{Ledger}
use Rattle.vk_job.specs.Jobs.{dry_in}
use Rattle.vk_house.specs.Commands.{Answer}
use Rattle.vk_house.specs.Replies.{Work}
use Rattle.vk_house.specs.Runs.{Event}

-- all but the phase is the same, and the phase has that seed
pub record KeepsSeed (auction : Auction) (kept : List ℕ) (later : Auction) : Type 0 where
  pub same : later ≡ record auction { phase = later.phase }
  pub seed : seed_of later.phase ≡ Some kept

-- what may stand later under the id of an auction: once it is proved, an auction on the same terms,
-- with the same seals and seed; once it is answered, that auction
abbrev pub KeepsAnswer : Auction → Phase → Option Auction → Type 0
KeepsAnswer auction Taking later = Unit {0}
KeepsAnswer auction (Proved seed) later = IsSomeAnd later (KeepsSeed auction seed)
KeepsAnswer auction (Answered seed challenge) later = later ≡ Some auction

-- no auction that is proved or answered is another one later
abbrev pub KeepsAnswers : Ledger → Ledger → Type 0
KeepsAnswers old new = (id : List ℕ)
    → IfSome (get old id) (λ auction. KeepsAnswer auction auction.phase (get new id))

-- the challenge was answered for the auction of that id
abbrev pub IsAnswered : List ℕ → List Event → Challenge → Type 0
IsAnswered id events challenge =
    (auction : Auction) × (sale : Sale)
    × Contains events (record { command = Answer id challenge; reply = Work auction sale })

-- ---- seeds

-- the seed that is kept, if one is, gives a tape for every lane
abbrev pub SeedGivesTapes : Auction → Type 0
SeedGivesTapes auction = IfSome (seed_of auction.phase) (λ seed. dry_in auction seed ≡ None)

abbrev pub SeedsGiveTapes : Ledger → Type 0
SeedsGiveTapes ledger = (id : List ℕ) → IfSome (get ledger id) SeedGivesTapes
