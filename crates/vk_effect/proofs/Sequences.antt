-- Commands one after another as one, and where they are stopped.
use Rattle.std.proofs.Common.{◌≡◌, ℕ, suc, zero, List, [], ◌∷◌, ◌++◌, Option, Some, None, refl, sym, ap, ◌∙◌, inl, inr, append_assoc, arith, subst}
use Rattle.std.specs.Prelude.{option_map}
use Rattle.std.specs.List.{flat_map}
use Rattle.vk_io.specs.Files.{Files}
use Rattle.vk_io.specs.Writing.{written}
use Rattle.vk_keeper.specs.Ledgers.{Ledger}
use Rattle.vk_effect.specs.Effects.{Effect, Outside, done, puts}
use Rattle.vk_effect.specs.Ends.{Done}
use Rattle.vk_effect.specs.Sequences.{StopsAfter, StopsAmong, done_all, one_effect}

-- ---- parts of what is outside

written-append : (first second : List (List ℕ × List ℕ)) (files : Files)
    → written (first ++ second) files ≡ written second (written first files)
written-append [] second files = refl
written-append (text ∷ first) second files = written-append first second _

files_none : (files : Option Files) → option_map (written []) files ≡ files
files_none None = refl
files_none (Some files) = refl

files_then : (first second : List (List ℕ × List ℕ)) (files : Option Files)
    → option_map (written second) (option_map (written first) files)
    ≡ option_map (written (first ++ second)) files
files_then first second None = refl
files_then first second (Some files) = ap Some (sym (written-append first second files))

puts_then : (first second : List ℕ) (taken : Option (List ℕ))
    → puts second (puts first taken) ≡ puts (first ++ second) taken
puts_then first second None = refl
puts_then first second (Some before) = ap Some (append_assoc before first second)

same_parts : (files others : Option Files) (ledger other : Option Ledger)
    (taken more : Option (List ℕ)) → files ≡ others → ledger ≡ other → taken ≡ more
    → (let left : Outside = record { files = files; ledger = ledger; taken = taken } in left)
    ≡ record { files = others; ledger = other; taken = more }
same_parts files others ledger other taken more files_are ledger_is taken_is = cc

same_outside : (left right : Outside) → left.files ≡ right.files → left.ledger ≡ right.ledger
    → left.taken ≡ right.taken → left ≡ right
same_outside left right files ledger taken =
    same_parts left.files right.files left.ledger right.ledger left.taken right.taken files ledger
    taken

-- ---- as one

pub are_one : (status : ℕ) (effects : List Effect) (closing : List ℕ) (old : Outside)
    → done_all effects closing old ≡ done (one_effect status old.ledger effects closing) old
are_one status [] closing old = same_outside _ _ (sym (files_none old.files)) refl refl
are_one status (effect ∷ effects) closing old =
    let texts = flat_map (λ (each : Effect). each.text) effects in
    let writes = flat_map (λ (each : Effect). each.writes) effects in
    are_one status effects closing (done effect old)
    ∙ same_outside _ _ (files_then effect.writes writes old.files) refl
    (puts_then effect.text (texts ++ closing) old.taken
    ∙ ap (λ text. puts text old.taken) (sym (append_assoc effect.text texts closing)))

-- a command that was done left what its effect leaves
pub done_is : (status : ℕ) (effect : Effect) (old new : Outside) → Done status effect old new
    → new ≡ done effect old
done_is status effect old new is =
    same_outside new (done effect old) is.files_are is.ledger_is is.taken_is

-- ---- stops

pub after_some : (effects : List Effect) (closing : List ℕ) (old new : Outside)
    → StopsAmong effects closing old new → (count : ℕ) × StopsAfter effects closing old new count
after_some [] closing old new stops = (0, record { within = omega arith; stop = stops })
after_some (effect ∷ effects) closing old new (inl stops) =
    (0, record { within = omega arith; stop = stops })
after_some (effect ∷ effects) closing old new (inr stops) =
    let later = after_some effects closing (done effect old) new stops in
    (suc later.0, record { within = omega (arith, later.1.within); stop = later.1.stop })

pub from_some : (effects : List Effect) (closing : List ℕ) (old new : Outside) (count : ℕ)
    → StopsAfter effects closing old new count → StopsAmong effects closing old new
from_some [] closing old new zero after = after.stop
from_some [] closing old new (suc count) after = absurd (omega (arith, after.within))
from_some (effect ∷ effects) closing old new zero after = inl after.stop
from_some (effect ∷ effects) closing old new (suc count) after =
    inr (from_some effects closing (done effect old) new count
    (record { within = omega (arith, after.within); stop = after.stop }))

-- a stop among the commands that come after one that was done
pub stops_later : (status : ℕ) (effect : Effect) (effects : List Effect) (closing : List ℕ)
    (old now new : Outside) → Done status effect old now → StopsAmong effects closing now new
    → StopsAmong (effect ∷ effects) closing old new
stops_later status effect effects closing old now new is stops =
    inr (subst (λ left. StopsAmong effects closing left new) (done_is status effect old now is)
    stops)
