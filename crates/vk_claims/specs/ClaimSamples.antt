-- What `claim-sample` does, where nothing outside fails and memory is given.
use Rattle.std.specs.Prelude.{◌≡◌, ◌⊎◌, ℕ, List, Option, None, IfSome, Result, Ok, Err}
use Rattle.vk_io.specs.Files.{Files}
use Rattle.vk_io.specs.declared.errors.OutsideErr.{OutsideErr}
use Rattle.vk_keeper.specs.Ledgers.{Ledger}
use Rattle.vk_job.specs.Proofs.{ProofValue}
use Rattle.vk_report.specs.declared.sample.SampleCase.{SampleCase}
use Rattle.vk_words.specs.declared.claim.Kind.{Kind}
use Rattle.vk_words.specs.declared.claim.Kind.TheVariants.{Uniform, Matching}
use Rattle.vk_effect.specs.Effects.{Effect, Outside, SaidValue, Stores, stores}
use Rattle.vk_effect.specs.Ends.{Acts, Ends}
use Rattle.vk_sample_parts.specs.Auctions.{DrySeed}
use Rattle.vk_sample_parts.specs.Effects.{effect_unless_dry, modelled_effect}
use Rattle.vk_claims.specs.Claims.{IsMatchingOf, claim_case, numbers_of, proof_by}
use Rattle.vk_claims.specs.Texts.{files_of, summary_said}

-- ---- where the numbers are known

-- over files that are modelled the five files are written and the summary is said. A seed that is
-- dry is said over any files, and none is written
abbrev pub effect_by : Kind → Option Files → Option Ledger → ℕ → SampleCase → List ℕ
    → Result ProofValue DrySeed → Option Effect
effect_by kind files ledger number case numbers =
    effect_unless_dry ledger (λ proof. modelled_effect files ledger
    (files_of kind case numbers proof) (summary_said kind number proof))

-- the effect where these numbers are published. The ledger is left as it is
unfoldable pub effect_with : Kind → Option Files → Option Ledger → ℕ → List ℕ → Option Effect
effect_with kind files ledger number numbers =
    effect_by kind files ledger number (claim_case kind number) numbers
    (proof_by kind (claim_case kind number) numbers)

-- ---- equal units have one outcome, and so one effect

abbrev pub claim_sample_on : Option Files → Option Ledger → Kind → ℕ → Option Effect
claim_sample_on files ledger Uniform number =
    effect_with Uniform files ledger number (numbers_of number)
claim_sample_on files ledger Matching number = None

-- ---- of the kind matching there is an effect for each matching that is stable for the number's ranks

-- this holds of one of these effects. Which of the matchings is published is free, and nothing else
-- is
abbrev pub OfSomeMatching : Option Files → Option Ledger → ℕ → (Effect → Type 0) → Type 0
OfSomeMatching files ledger number Holds =
    (numbers : List ℕ) × IsMatchingOf (claim_case Matching number) numbers
    × IfSome (effect_with Matching files ledger number numbers) Holds

-- an answer stands so to one of them, and to what was before and after; or the command was stopped,
-- and nothing changed
abbrev pub Freely : {X Store : Type 0} → Kind → ℕ → Option Files → Option Ledger
    → (Result X OutsideErr → Effect → Store → Store → Type 0)
    → Result X OutsideErr → Store → Store → Type 0
Freely Uniform number files ledger Stands answer old new = Unit {0}
Freely Matching number files ledger Stands (Ok value) old new =
    OfSomeMatching files ledger number (λ effect. Stands (Ok value) effect old new)
Freely Matching number files ledger Stands (Err stop) old new =
    (new ≡ old) ⊎ OfSomeMatching files ledger number (λ effect. Stands (Err stop) effect old new)

-- what is done but for printing, and the whole command
abbrev pub ActsFreely : Kind → ℕ → Result SaidValue OutsideErr → Stores → Stores → Type 0
ActsFreely kind number answer old new = Freely kind number old.files old.ledger Acts answer old new

-- it acted as the one effect of its kind, or freely
pub record ActsSo (kind : Kind) (number : ℕ) (answer : Result SaidValue OutsideErr)
    (old new : Stores) : Type 0 where
  pub acts : IfSome (claim_sample_on old.files old.ledger kind number)
      (λ effect. Acts answer effect old new)
  pub free : ActsFreely kind number answer old new

-- the same over files, with any ledger
abbrev pub ActsOn : Kind → ℕ → Result SaidValue OutsideErr → Option Files → Option Files
    → Type 0
ActsOn kind number answer old new =
    (ledger : Option Ledger) → ActsSo kind number answer (stores old ledger) (stores new ledger)

-- the clause on what is free alone
abbrev pub FreelyOn : Kind → ℕ → Result SaidValue OutsideErr → Option Files → Option Files
    → Type 0
FreelyOn kind number answer old new =
    (ledger : Option Ledger) → ActsFreely kind number answer (stores old ledger) (stores new ledger)

abbrev pub EndsFreely : Kind → ℕ → Result ℕ OutsideErr → Outside → Outside → Type 0
EndsFreely kind number answer old new = Freely kind number old.files old.ledger Ends answer old new
