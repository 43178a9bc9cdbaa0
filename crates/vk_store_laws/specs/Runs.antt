-- A store over a list of calls, crashes and openings, and the ledger that it tells.
use Rattle.std.specs.Prelude.{◌≡◌, ◌⊎◌, ℕ, List, [], ◌∷◌, Option, Some, Result, Ok, IfSome, IsTrue}
use Rattle.std.specs.FinMap.{get, insert}
use Rattle.sqlite.specs.Store.{Ghosts}
use Rattle.sqlite.specs.State.{HasCleanDisk}
use Rattle.sqlite.specs.Held.{Held, state}
use Rattle.vk_io.specs.declared.errors.OutsideErr.{OutsideErr}
use Rattle.vk_commit.specs.Values.{AreBytes}
use Rattle.vk_reply.specs.declared.challenge.Challenge.{Challenge}
use Rattle.vk_keeper.specs.declared.auction.Auction.{Auction}
use Rattle.vk_keeper.specs.Auctions.{IsAuction, challenge_of}
use Rattle.vk_keeper.specs.Ledgers.{Ledger}
use Rattle.vk_keeper_sql.specs.declared.errors.OpenErr.{OpenErr}
use Rattle.vk_keeper_sql.specs.Opening.{Prepares}
use Rattle.vk_keeper_sql.specs.Reading.{Finds}
use Rattle.vk_keeper_sql.specs.Transactions.{ChangesNothing, CommitsAtOnce, SeesCommitted}
use Rattle.vk_keeper_sql.specs.Writing.{Keeps}
use Rattle.vk_store_laws.specs.Holding.{IsStore}
use Rattle.vk_store_laws.specs.Telling.{TablesTell}

-- what was done: `get` answered that of an id; `put` kept an auction; a call was refused, and the
-- connection is open still; the store was opened again, after a crash or a closing between two
-- calls, or in place of what would have come of keeping an auction
pub data Act : Type 0 where
  found : List ℕ → Option Auction → Act
  kept : Auction → Act
  refused : Act
  opened : Act
  stopped : Auction → Act

-- ---- what becomes of a ledger

-- what is found is what the ledger has, and what is kept is in it. Of what was stopped nothing is
-- kept, or all
abbrev pub Leads : Act → Ledger → Ledger → Type 0
Leads (found id answer) old new = (answer ≡ get old id) × (new ≡ old)
Leads (kept auction) old new = new ≡ insert old auction.id auction
Leads refused old new = new ≡ old
Leads opened old new = new ≡ old
Leads (stopped auction) old new = (new ≡ old) ⊎ (new ≡ insert old auction.id auction)

abbrev pub LeadOn : List Act → Ledger → Ledger → Type 0
LeadOn [] old new = new ≡ old
LeadOn (act ∷ acts) old new = (mid : Ledger) × Leads act old mid × LeadOn acts mid new

-- an auction that takes no other's place whose challenge is answered
abbrev pub SparesAnswered : Auction → Ledger → Type 0
SparesAnswered auction ledger = (held : Auction) (challenge : Challenge)
    → get ledger auction.id ≡ Some held → challenge_of held.phase ≡ Some challenge
    → auction ≡ held

abbrev pub Spares : Act → Ledger → Type 0
Spares (found id answer) ledger = Unit {0}
Spares (kept auction) ledger = SparesAnswered auction ledger
Spares refused ledger = Unit {0}
Spares opened ledger = Unit {0}
Spares (stopped auction) ledger = SparesAnswered auction ledger

-- whatever becomes of the ledger, no call is asked to put another auction in the place of one that
-- is answered, as a house never does
abbrev pub AllSpare : List Act → Ledger → Type 0
AllSpare [] ledger = Unit {0}
AllSpare (act ∷ acts) ledger =
    Spares act ledger × ((next : Ledger) → Leads act ledger next → AllSpare acts next)

-- ---- what is done to a store

module _ {S : Type 0} (g : Ghosts S) where
  -- an open store, outside of a transaction, with what is committed in sight, tells a ledger
  pub record Tells (now : Held S) (ledger : Ledger) : Type 0 where
    pub seen : SeesCommitted (state g now)
    pub store : IsStore (state g now).now
    pub told : TablesTell (state g now).now.trees ledger

  -- `get` answered this of an id, over a disk that returned what was written
  pub record HasFound (id : List ℕ) (answer : Option Auction) (old new : Held S) : Type 0 where
    pub disk : HasCleanDisk (state g new)
    pub is_open : IsTrue (state g new).is_open
    pub bytes : AreBytes 16 id
    pub own : IfSome answer (λ auction. auction.id ≡ id)
    pub right : IfSome answer IsAuction
    pub finds : Finds g id old answer
    pub nothing : ChangesNothing (state g old) (state g new)

  -- `put` kept this auction
  pub record HasKept (auction : Auction) (old new : Held S) : Type 0 where
    pub disk : HasCleanDisk (state g new)
    pub right : IsAuction auction
    pub once : CommitsAtOnce {E = OutsideErr} (Keeps g auction old) (state g old) (state g new)
        (Ok tt)

  -- a call was refused, and the connection is open still
  pub record HasRefused (old new : Held S) : Type 0 where
    pub is_open : IsTrue (state g new).is_open
    pub nothing : ChangesNothing (state g old) (state g new)

  -- the store was opened again: what `open` gave is what a crash could leave, with the tables read
  -- back as they were made; and a keeper was made over it
  pub record IsOpenedAgain (old new : Held S) : Type 0 where
    pub disk : HasCleanDisk (state g new)
    pub begun : Held S
    pub left : (state g old).may_leave (state g begun).committed.trees
    pub seen : SeesCommitted (state g begun)
    pub store : IsStore (state g begun).now
    pub once : CommitsAtOnce {E = OpenErr} (Prepares g begun) (state g begun) (state g new)
        (Ok tt)

  -- the same behind a `put` of this auction, whatever it answered
  pub record IsStopped (auction : Auction) (old new : Held S) : Type 0 where
    pub right : IsAuction auction
    pub last : Held S
    pub disk : HasCleanDisk (state g last)
    pub result : Result Unit OutsideErr
    pub once : CommitsAtOnce (Keeps g auction old) (state g old) (state g last) result
    pub again : IsOpenedAgain last new

  abbrev pub Does : Act → Held S → Held S → Type 0
  Does (found id answer) old new = HasFound id answer old new
  Does (kept auction) old new = HasKept auction old new
  Does refused old new = HasRefused old new
  Does opened old new = IsOpenedAgain old new
  Does (stopped auction) old new = IsStopped auction old new

  abbrev pub Runs : List Act → Held S → Held S → Type 0
  Runs [] old new = new ≡ old
  Runs (act ∷ acts) old new = (mid : Held S) × Does act old mid × Runs acts mid new
