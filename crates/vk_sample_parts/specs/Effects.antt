-- What a sample does, where nothing outside fails and memory is given.
pub use Rattle.vk_effect.specs.Ends.{Acts}
use Rattle.std.specs.Prelude.{ℕ, List, Option, Some, IfSome, option_map, Result, Ok, Err}
use Rattle.vk_io.specs.Files.{Files}
use Rattle.vk_io.specs.declared.errors.OutsideErr.{OutsideErr}
use Rattle.vk_keeper.specs.Ledgers.{Ledger}
use Rattle.vk_effect.specs.Effects.{Effect, SaidValue, says, stores, writes_and_says}
use Rattle.vk_sample_parts.specs.Auctions.{DrySeed}
use Rattle.vk_sample_parts.specs.Texts.{dry_said}

-- over files, with any ledger, it acted as the effect, where that is known
abbrev pub ActsAs : (Option Ledger → Option Effect) → Result SaidValue OutsideErr → Option Files
    → Option Files → Type 0
ActsAs effect_over answer old new = (ledger : Option Ledger) → IfSome (effect_over ledger)
    (λ effect. Acts answer effect (stores old ledger) (stores new ledger))

-- over files that are modelled these are written, and this is said
abbrev pub modelled_effect : Option Files → Option Ledger → List (List ℕ × List ℕ) → SaidValue
    → Option Effect
modelled_effect files ledger texts said =
    option_map (λ modelled. writes_and_says ledger texts said) files

-- the effect of what was made. A seed that is dry is said over any files, and none is written
abbrev pub effect_unless_dry : {X : Type 0} → Option Ledger → (X → Option Effect) → Result X DrySeed
    → Option Effect
effect_unless_dry ledger effect (Ok made) = effect made
effect_unless_dry ledger effect (Err dry) = Some (says ledger (dry_said dry))
