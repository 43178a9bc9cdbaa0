-- A ceremony as one command.
use Rattle.std.proofs.Common.{◌≡◌, ℕ, List, Option, Some, None, option_map, IfSome, Ok, ap, ◌∙◌}
use Rattle.vk_io.specs.Files.{Files}
use Rattle.vk_keeper.specs.Ledgers.{Ledger}
use Rattle.vk_effect.specs.Effects.{Outside, done, outside, stores}
use Rattle.vk_effect.specs.Ends.{Done}
use Rattle.vk_effect.specs.Sequences.{one_effect}
use Rattle.vk_effect.proofs.Sequences.{are_one}
use Rattle.vk_ceremony.specs.Ceremonies.{Ceremony, EndsAll, ceremony_effect, ceremony_on}

-- it came to its end: all of its effect stands
whole_done : (whole : Ceremony) (files : Option Files) (ledger : Option Ledger)
    (taken : Option (List ℕ)) (status : ℕ) (new : Outside)
    → EndsAll (Ok status) whole (outside (stores files ledger) taken) new
    → Done status (one_effect whole.closing.status ledger whole.commands whole.closing.text)
    (outside (stores files ledger) taken) new
whole_done whole files ledger taken status new ends =
    let old : Outside = outside (stores files ledger) taken in
    let left : new ≡ done (one_effect whole.closing.status ledger whole.commands whole.closing.text)
    old = ends.1 ∙ are_one whole.closing.status whole.commands whole.closing.text old in
    record {
      status_is = ends.0;
      files_are = ap (λ (left : Outside). left.files) left;
      ledger_is = ap (λ (left : Outside). left.ledger) left;
      taken_is = ap (λ (left : Outside). left.taken) left;
    }

told_done : (whole : Option Ceremony) (files : Option Files) (ledger : Option Ledger)
    (taken : Option (List ℕ)) (status : ℕ) (new : Outside)
    → IfSome whole (λ w. EndsAll (Ok status) w (outside (stores files ledger) taken) new)
    → IfSome (option_map (λ w. one_effect w.closing.status ledger w.commands w.closing.text) whole)
    (λ effect. Done status effect (outside (stores files ledger) taken) new)
told_done None files ledger taken status new ends = tt
told_done (Some whole) files ledger taken status new ends =
    whole_done whole files ledger taken status new ends

pub ceremony_done : (files : Option Files) (ledger : Option Ledger) (script : List ℕ)
    (taken : Option (List ℕ)) (status : ℕ) (new : Outside)
    → IfSome (ceremony_on files ledger script)
    (λ whole. EndsAll (Ok status) whole (outside (stores files ledger) taken) new)
    → IfSome (ceremony_effect files ledger script)
    (λ effect. Done status effect (outside (stores files ledger) taken) new)
ceremony_done files ledger script taken status new ends =
    told_done (ceremony_on files ledger script) files ledger taken status new ends
