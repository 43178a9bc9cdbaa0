-- How a command ends, from what its parts did.
use Rattle.std.proofs.Common.{◌≡◌, ℕ, List, Option, Some, None, Result, Ok, Err, ap, subst, ◌∙◌, inl, inr}
use Rattle.std.specs.Prelude.{option_map, IfSome, IfOk}
use Rattle.vk_io.specs.Files.{Files, Modelled, Takes}
use Rattle.vk_io.specs.declared.errors.OutsideErr.{OutsideErr}
use Rattle.vk_keeper.specs.Ledgers.{Ledger}
use Rattle.vk_effect.specs.Effects.{DeedValue, Effect, SaidValue, Stores, does, outside, says, stores}
use Rattle.vk_effect.specs.Ends.{Acts, Ends, TakesPrefix}

-- ---- what is modelled

-- where it is modelled before and after, what is left is what the change makes of it
pub told_map : {X : Type 0} (f : X → X) (old new : Option X)
    → Modelled (λ before after. after ≡ f before) old new → new ≡ option_map f old
told_map f None new told = told
told_map f (Some before) None told = absurd told
told_map f (Some before) (Some after) told = ap Some told

-- ---- all but the printing

-- a command that only read, and says what it found
pub read_and_said : (said : Files → SaidValue) (held new : Option Files) (ledger : Option Ledger)
    (answer : Result SaidValue OutsideErr) → new ≡ held
    → IfSome held (λ files. IfOk answer (λ value. value ≡ said files))
    → IfSome (option_map (λ files. says ledger (said files)) held)
    (λ effect. Acts answer effect (stores held ledger) (stores new ledger))
read_and_said said None new ledger answer same is = tt
read_and_said said (Some files) new ledger (Ok value) same is =
    (is, ap (λ left. stores left ledger) same)
read_and_said said (Some files) new ledger (Err stop) same is =
    inl (ap (λ left. stores left ledger) same)

-- a deed that was made ready by reading, and then done
pub deed_acts : (found : Option DeedValue) (deed : DeedValue) (held between now : Option Files)
    (ledger : Option Ledger) (answer : Result SaidValue OutsideErr) → between ≡ held
    → IfSome found (λ expected. deed ≡ expected)
    → Acts answer (does ledger deed) (stores between ledger) (stores now ledger)
    → IfSome (option_map (does ledger) found)
    (λ effect. Acts answer effect (stores held ledger) (stores now ledger))
deed_acts None deed held between now ledger answer same is acts = tt
deed_acts (Some expected) deed held between now ledger answer same is acts =
    subst (λ files. Acts answer (does ledger expected) (stores files ledger) (stores now ledger))
    same (subst (λ d. Acts answer (does ledger d) (stores between ledger) (stores now ledger))
    is acts)

-- ---- a whole command

-- it was stopped while it printed
pub stopped_printing : {E : Type 0} (effect : Effect) (old new : Stores)
    (taken now : Option (List ℕ)) (said : SaidValue) (text : List ℕ) (refusal : E)
    (stop : OutsideErr) → text ≡ said.text → Acts (Ok said) effect old new
    → Modelled (Takes text (Err refusal)) taken now
    → Ends (Err stop) effect (outside old taken) (outside new now)
stopped_printing effect old new taken now said text refusal stop text_is acts told =
    inr (
      ap (λ (left : Stores). left.ledger) acts.1,
      inr (record {
        files_are = ap (λ (left : Stores). left.files) acts.1;
        taken_is = subst (λ t. Modelled (TakesPrefix t) taken now)
            (text_is ∙ ap (λ (s : SaidValue). s.text) acts.0) told;
      }),
    )

-- ---- effects that are known

-- what follows for each effect follows for one that may be known
pub if_some_map : {X : Type 0} (P Q : X → Type 0) → ((x : X) → P x → Q x) → (o : Option X)
    → IfSome o P → IfSome o Q
if_some_map P Q follows None is = tt
if_some_map P Q follows (Some x) is = follows x is
