-- What a house keeps: in the keeper that is open, or else in its place.
use Rattle.std.specs.Prelude.{◌≡◌, ℕ, Bool, true, false, Option, None, Some, IfSome, IsSome, Result, Ok, Err}
use Rattle.std.specs.FinMap.{empty}
use Rattle.vk_io.specs.Faults.{Causes}
use Rattle.vk_io.specs.declared.errors.OutsideErr.TheVariants.{Failed}
use Rattle.vk_keeper.specs.Ledgers.{Ledger, IsLedger}
use Rattle.vk_program.specs.declared.house.Unopened.{Unopened}
use Rattle.vk_program.specs.Refusals.{unopened_outside}

-- what is told of the keeper that is open, or else of the house itself
abbrev pub told_by : {K T : Type 0} → (told : K → T) → (closed : T) → Option K → T
told_by told closed None = closed
told_by told closed (Some keeper) = told keeper

-- a refusal that is a fault of the outside raised the count, and any other answer left it as it was
abbrev pub CausesUnopened : {T : Type 0} → Result T Unopened → (old new : ℕ) → Type 0
CausesUnopened (Ok value) old new = new ≡ old
CausesUnopened (Err refusal) old new =
    Causes {T = Unit} Failed (Err (unopened_outside refusal)) old new

-- in a house that isn't made nothing is kept, where its auctions are modelled
abbrev pub NoneUnmade : {E : Type 0} → Result Bool E → Option Ledger → Type 0
NoneUnmade (Ok false) kept = IfSome kept (λ auctions. auctions ≡ empty)
NoneUnmade answer kept = Unit {0}

-- a keeper is open; or the house isn't made, and nothing is kept in it; or it was refused
abbrev pub OpenOrNone : {K E : Type 0} → Result Bool E → Option K → Option Ledger → Type 0
OpenOrNone (Ok true) kept ledger = IsSome kept
OpenOrNone (Ok false) kept ledger = IfSome ledger (λ auctions. auctions ≡ empty)
OpenOrNone (Err refusal) kept ledger = IfSome ledger IsLedger
