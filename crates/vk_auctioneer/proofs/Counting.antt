-- Which count rose, where the house was asked.
use Rattle.std.proofs.Common.{◌≡◌, ℕ, Result, Ok, Err, refl, subst, inr}
use Rattle.vk_io.specs.Faults.{Causes}
use Rattle.vk_io.specs.declared.errors.OutsideErr.{OutsideErr}
use Rattle.vk_io.specs.declared.errors.OutsideErr.TheVariants.{Failed}
use Rattle.vk_house.specs.declared.errors.HouseErr.{HouseErr}
use Rattle.vk_house.specs.declared.errors.HouseErr.TheVariants.{KeeperFailed}
use Rattle.vk_effect.specs.Counts.{CausesTwo}

second_alone : {U : Type 0} (result : Result U OutsideErr) (count before after : ℕ)
    → Causes Failed result before after → CausesTwo Failed result count count before after
second_alone (Ok done) count before after causes = (refl, causes)
second_alone (Err stop) count before after causes =
    (λ fails. inr (causes.0 fails), λ stays. (refl, causes.1 stays))

-- the house refused, and the files were left alone
pub refusal_causes : {T U : Type 0} (answer : Result T HouseErr) (refusal : HouseErr)
    (result : Result U OutsideErr) (count before after : ℕ) → answer ≡ Err refusal
    → ((b a : ℕ) → Causes {T = Unit {0}} KeeperFailed (Err refusal) b a → Causes Failed result b a)
    → Causes KeeperFailed answer before after
    → CausesTwo Failed result count count before after
refusal_causes answer refusal result count before after is follows causes =
    second_alone result count before after
    (follows before after (subst (λ a. Causes KeeperFailed a before after) is causes))
