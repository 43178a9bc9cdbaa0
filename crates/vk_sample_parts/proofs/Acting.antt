-- How `sample` ends, from what its parts did.
use Rattle.std.proofs.Common.{◌≡◌, ℕ, List, [], ◌∷◌, Option, Some, None, Result, Ok, Err, refl, sym, ap, subst, ◌∙◌, inl, inr}
use Rattle.std.specs.Prelude.{IfOk, IfSome, IsSome}
use Rattle.std.specs.FinMap.{insert}
use Rattle.vk_io.specs.Files.{Files, Modelled}
use Rattle.vk_io.specs.Writing.{IsDivided, WritesAll, written}
use Rattle.vk_io.specs.declared.errors.OutsideErr.{OutsideErr}
use Rattle.vk_lines.specs.Gives.{Refuses}
use Rattle.vk_keeper.specs.Ledgers.{Ledger}
use Rattle.vk_effect.specs.Effects.{Effect, SaidValue, Stores, says, stores}
use Rattle.vk_effect.specs.Ends.{Acts}
use Rattle.vk_sample_parts.specs.Auctions.{DrySeed}
use Rattle.vk_sample_parts.specs.Effects.{effect_unless_dry, modelled_effect}
use Rattle.vk_sample_parts.specs.Texts.{dry_said}

-- what is answered is what is said
pub same_said : {E : Type 0} (said other : SaidValue)
    → ◌≡◌ {A = Result SaidValue E} (Ok said) (Ok other) → said ≡ other
same_said said other is = cc

-- it was stopped where nothing had changed
pub stopped_first : (effect : Option Effect) (old : Stores) (stop : OutsideErr)
    → IfSome effect (λ whole. Acts (Err stop) whole old old)
stopped_first None old stop = tt
stopped_first (Some whole) old stop = inl refl

-- ---- a seed that is dry

said_alone : (held : Option Files) (ledger : Option Ledger) (said dry : SaidValue) → said ≡ dry
    → Acts (Ok said) (says ledger dry) (stores held ledger) (stores held ledger)
said_alone None ledger said dry is = (is, refl)
said_alone (Some files) ledger said dry is = (is, refl)

pub dry_acts : {X : Type 0} (dry : Option DrySeed) (made : Result X DrySeed) (held : Option Files)
    (ledger : Option Ledger) (effect : X → Option Effect) (said : SaidValue) → Refuses dry made
    → IfSome dry (λ seed. said ≡ dry_said seed) → IsSome dry
    → IfSome (effect_unless_dry ledger effect made)
    (λ whole. Acts (Ok said) whole (stores held ledger) (stores held ledger))
dry_acts None made held ledger effect said refused is some = cc some
dry_acts (Some dry) made held ledger effect said refused is some =
    subst (λ m. IfSome (effect_unless_dry ledger effect m)
    (λ whole. Acts (Ok said) whole (stores held ledger) (stores held ledger))) (sym refused)
    (said_alone held ledger said (dry_said dry) is)

-- ---- files that are written

-- all of them, or divided behind the last
divided_last : (texts : List (List ℕ × List ℕ)) (files : Files)
    → IsDivided texts files (written texts files)
divided_last [] files = refl
divided_last (text ∷ texts) files = inr (divided_last texts (insert files text.0 text.1))

module _ (texts : List (List ℕ × List ℕ)) (whole : SaidValue) (ledger : Option Ledger) where
  pub writing_stopped : (held left : Option Files) (stop : OutsideErr)
      → Modelled (WritesAll texts (Err stop)) held left
      → IfSome (modelled_effect held ledger texts whole)
      (λ effect. Acts (Err stop) effect (stores held ledger) (stores left ledger))
  writing_stopped None left stop told = tt
  writing_stopped (Some files) None stop told = absurd told
  writing_stopped (Some files) (Some after) stop told = inr (refl, told)

  pub reading_stopped : (held left now : Option Files) (stop : OutsideErr)
      → Modelled (WritesAll {E = OutsideErr} texts (Ok tt)) held left → now ≡ left
      → IfSome (modelled_effect held ledger texts whole)
      (λ effect. Acts (Err stop) effect (stores held ledger) (stores now ledger))
  reading_stopped None left now stop told same = tt
  reading_stopped (Some files) None now stop told same = absurd told
  reading_stopped (Some files) (Some after) now stop told same =
      let is : now ≡ Some (written texts files) = same ∙ ap Some told in
      inr (
        refl,
        subst (Modelled (IsDivided texts) (Some files)) (sym is)
            (divided_last texts files),
      )

  -- what was written is read back, and this is said of it
  pub holding_done : (said_of_files : Files → SaidValue)
      → ((files : Files) → said_of_files (written texts files) ≡ whole)
      → (held left now : Option Files) (said : SaidValue)
      → Modelled (WritesAll {E = OutsideErr} texts (Ok tt)) held left → now ≡ left
      → IfSome left (λ files. said ≡ said_of_files files)
      → IfSome (modelled_effect held ledger texts whole)
      (λ effect. Acts (Ok said) effect (stores held ledger) (stores now ledger))
  holding_done said_of_files reads None left now said told same is = tt
  holding_done said_of_files reads (Some files) None now said told same is = absurd told
  holding_done said_of_files reads (Some files) (Some after) now said told same is = (
    is ∙ ap said_of_files told ∙ reads files,
    ap (λ left. stores left ledger) (same ∙ ap Some told),
  )

  -- it is, unless the reading was stopped
  pub holding_acts : (said_of_files : Files → SaidValue)
      → ((files : Files) → said_of_files (written texts files) ≡ whole)
      → (held left now : Option Files) (answer : Result SaidValue OutsideErr)
      → Modelled (WritesAll {E = OutsideErr} texts (Ok tt)) held left → now ≡ left
      → IfSome left (λ files. IfOk answer (λ said. said ≡ said_of_files files))
      → IfSome (modelled_effect held ledger texts whole)
      (λ effect. Acts answer effect (stores held ledger) (stores now ledger))
  holding_acts said_of_files reads held left now (Ok said) told same is =
      holding_done said_of_files reads held left now said told same is
  holding_acts said_of_files reads held left now (Err stop) told same is =
      reading_stopped held left now stop told same
