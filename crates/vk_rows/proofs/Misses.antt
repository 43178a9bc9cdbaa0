-- Readings that miss nothing.
use Rattle.std.proofs.Common.{refl, Result, Ok, Err, IsErrOf}
use Rattle.vk_io.specs.declared.errors.OutsideErr.{OutsideErr}
use Rattle.vk_io.specs.declared.errors.OutsideErr.TheVariants.{Failed, NoMemory}
use Rattle.vk_rows.specs.Refusals.{MissesNone}

-- nothing is there that could be missed
pub nowhere : {T X : Type 0} (IsThere : X → Type 0) (result : Result T OutsideErr)
    → ((x : X) → ¬ IsThere x) → MissesNone IsThere result
nowhere IsThere (Ok value) none = tt
nowhere IsThere (Err NoMemory) none = tt
nowhere IsThere (Err Failed) none = none

pub where_failed : {T X : Type 0} (IsThere : X → Type 0) (result : Result T OutsideErr)
    → (IsErrOf result Failed → (x : X) → ¬ IsThere x) → MissesNone IsThere result
where_failed IsThere (Ok value) none = tt
where_failed IsThere (Err NoMemory) none = tt
where_failed IsThere (Err Failed) none = none refl

-- a refusal of a step is passed on: what could be missed shows what the step would have found
pub passed : {T U X Y : Type 0} (Is : X → Type 0) (IsThere : Y → Type 0)
    (step : Result T OutsideErr) (result : Result U OutsideErr)
    → (IsErrOf result Failed → IsErrOf step Failed) → MissesNone Is step
    → ((y : Y) → IsThere y → (x : X) × Is x) → MissesNone IsThere result
passed Is IsThere step (Ok value) link none from = tt
passed Is IsThere step (Err NoMemory) link none from = tt
passed Is IsThere (Ok value) (Err Failed) link none from = absurd (let e = link refl in cc)
passed Is IsThere (Err NoMemory) (Err Failed) link none from = absurd (let e = link refl in cc)
passed Is IsThere (Err Failed) (Err Failed) link none from =
    λ y there. let found = from y there in none found.0 found.1
