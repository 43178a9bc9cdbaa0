-- Commands one after another, each on what the one before left, with a line at the end.
use Rattle.std.specs.Prelude.{◌≡◌, ◌↔◌, ℕ, ◌≤◌, List, [], ◌∷◌, ◌++◌, length, take, slice_get, Option, Some, None, ◌⊎◌}
use Rattle.std.specs.List.{flat_map}
use Rattle.vk_io.specs.Files.{Modelled}
use Rattle.vk_keeper.specs.Ledgers.{Ledger}
use Rattle.vk_effect.specs.Effects.{Effect, Outside, done, puts}
use Rattle.vk_effect.specs.Ends.{Stopped, TakesPrefix}

-- ---- all of them are done

-- after each of the commands
abbrev pub done_each : List Effect → Outside → Outside
done_each [] old = old
done_each (effect ∷ effects) old = done_each effects (done effect old)

-- after each of them and the line at the end
abbrev pub done_all : List Effect → List ℕ → Outside → Outside
done_all effects closing old = let last = done_each effects old in
    record last { taken = puts closing last.taken }

-- the ledger that the last of them leaves, and this one where there is none
abbrev pub last_ledger : Option Ledger → List Effect → Option Ledger
last_ledger ledger [] = ledger
last_ledger ledger (effect ∷ effects) = last_ledger effect.ledger effects

-- all of them as one: their texts and the line at the end, and their files one after another
abbrev pub one_effect : ℕ → Option Ledger → List Effect → List ℕ → Effect
one_effect status ledger effects closing = record {
  status = status;
  text = flat_map (λ effect. effect.text) effects ++ closing;
  writes = flat_map (λ effect. effect.writes) effects;
  ledger = last_ledger ledger effects;
}

abbrev pub AreOne : Type 0
AreOne = (status : ℕ) (effects : List Effect) (closing : List ℕ) (old : Outside)
    → done_all effects closing old ≡ done (one_effect status old.ledger effects closing) old

-- ---- one of them is stopped

-- all commands were done, and printing the line at the end was stopped
pub record StopsClosing (closing : List ℕ) (old new : Outside) : Type 0 where
  pub files_are : new.files ≡ old.files
  pub ledger_is : new.ledger ≡ old.ledger
  pub taken_is : Modelled (TakesPrefix closing) old.taken new.taken

-- the first of them that wasn't done was stopped, or the line at the end
abbrev pub StopsAmong : List Effect → List ℕ → Outside → Outside → Type 0
StopsAmong [] closing old new = StopsClosing closing old new
StopsAmong (effect ∷ effects) closing old new = Stopped effect old new
    ⊎ StopsAmong effects closing (done effect old) new

-- this command was stopped, or where there is none the line at the end
abbrev pub StopsIn : Option Effect → List ℕ → Outside → Outside → Type 0
StopsIn (Some effect) closing old new = Stopped effect old new
StopsIn None closing old new = StopsClosing closing old new

-- the first `count` of the commands were done, and what comes next was stopped
pub record StopsAfter (effects : List Effect) (closing : List ℕ) (old new : Outside)
    (count : ℕ) : Type 0 where
  pub within : count ≤ length effects
  pub stop : StopsIn (slice_get effects count) closing (done_each (take count effects) old) new

abbrev pub StopsAfterSome : Type 0
StopsAfterSome = (effects : List Effect) (closing : List ℕ) (old new : Outside)
    → StopsAmong effects closing old new ↔ ((count : ℕ) × StopsAfter effects closing old new count)
