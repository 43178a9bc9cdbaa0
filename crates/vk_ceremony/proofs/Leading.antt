-- From the beginning of a ceremony to its end, turn by turn.
use Rattle.std.proofs.Common.{◌≡◌, ℕ, Bool, List, Option, Some, None, IfSome, Result, Ok, Err, refl, sym, ap, ◌∙◌, subst, inr}
use Rattle.std.specs.Prelude.{IsSomeAnd}
use Rattle.vk_io.specs.declared.errors.OutsideErr.{OutsideErr}
use Rattle.vk_io.specs.declared.errors.OutsideErr.TheVariants as outside_err
use Rattle.vk_io.specs.Files.{Files, Modelled}
use Rattle.vk_io.proofs.WritingLemmas.{told_chain, told_same}
use Rattle.vk_lines.specs.Gives.{Gives}
use Rattle.vk_lines.specs.Lines.{LinesValue, rest_of}
use Rattle.vk_keeper.specs.Ledgers.{Ledger}
use Rattle.vk_house.specs.Once.{KeepsAnswers}
use Rattle.vk_house.proofs.Once.{keeps_same, keeps_on}
use Rattle.vk_effect.specs.declared.reading.Unread.{Unread}
use Rattle.vk_effect.specs.declared.reading.Unread.TheVariants.{Said, Failed, NoMemory}
use Rattle.vk_effect.specs.Counts.{CausesThree}
use Rattle.vk_effect.specs.Effects.{Effect, Outside, SaidValue, done, outside, stores}
use Rattle.vk_effect.specs.Reading.{said_of_unread, said_or_stopped}
use Rattle.vk_effect.proofs.NamedFiles.{same_Ok}
use Rattle.vk_ceremony.specs.declared.holding.Turn.{Turn}
use Rattle.vk_ceremony.specs.declared.holding.Turn.TheVariants.{Next, Ended}
use Rattle.vk_ceremony.specs.Ceremonies.{Ceremony, EndsAll, EndsSaying, EndsSome, ceremony_behind, ceremony_on, closed, with_command}
use Rattle.vk_ceremony.specs.Scripts.{script_begun}
use Rattle.vk_ceremony.specs.Turns.{Turns, TurnsSome, left_of, stores_of}

-- ---- the turns

-- however what is left ends from now on, the whole ceremony has ended so from its beginning
abbrev pub Leads : Ceremony → Outside → Option Ceremony → Outside → Type 0
Leads whole old left now = IsSomeAnd left
    (λ later. (answer : Result ℕ OutsideErr) (new : Outside) → EndsAll answer later now new
    → EndsAll answer whole old new)

-- the same of one that may be known
abbrev pub LeadsSome : Option Ceremony → Outside → Option Ceremony → Outside → Type 0
LeadsSome known old left now = IfSome known (λ whole. Leads whole old left now)

pub leads_itself : (left : Option Ceremony) (old : Outside)
    → LeadsSome left old left old
leads_itself None old = tt
leads_itself (Some whole) old = λ answer new ends. ends

-- a command that was done, and those after it
ends_after : (effect : Effect) (later : Ceremony) (answer : Result ℕ OutsideErr) (old new : Outside)
    → EndsAll answer later (done effect old) new
    → EndsAll answer (with_command effect later) old new
ends_after effect later (Ok status) old new ends = ends
ends_after effect later (Err stop) old new ends = inr ends

turn_leads : (script : List ℕ) (lines : LinesValue) (refused : Bool) (whole : Ceremony)
    (old now new : Outside) (left after : Option Ceremony)
    → left_of script refused lines (stores_of new) ≡ after
    → Leads whole old left now
    → IfSome left (λ later. Turns script lines (Ok (Next refused)) later now new)
    → Leads whole old after new
turn_leads script lines refused whole old now new None after is leads turns = absurd leads
turn_leads script lines refused whole old now new (Some left) None is leads turns =
    absurd (subst (λ o. IsSomeAnd o
    (λ later. (effect : Effect) × (left ≡ with_command effect later) × (new ≡ done effect now))) is
    turns)
turn_leads script lines refused whole old now new (Some left) (Some after) is leads turns =
    let turn : (effect : Effect) × (left ≡ with_command effect after) × (new ≡ done effect now) =
    subst (λ o. IsSomeAnd o
    (λ later. (effect : Effect) × (left ≡ with_command effect later) × (new ≡ done effect now)))
    is turns in
    λ answer last ends.
    leads answer last (subst (λ c. EndsAll answer c now last) (sym turn.1)
    (ends_after turn.0 after answer now last
    (subst (λ o. EndsAll answer after o last) turn.2 ends)))

-- the ceremony goes on
pub leads_on : (script : List ℕ) (lines : LinesValue) (turn : Turn) (refused : Bool)
    (whole : Option Ceremony) (old now new : Outside) (left : Option Ceremony) → turn ≡ Next refused
    → LeadsSome whole old left now → TurnsSome script lines left (Ok turn) now new
    → LeadsSome whole old (left_of script refused lines (stores_of new)) new
leads_on script lines turn refused None old now new left is leads turns = tt
leads_on script lines turn refused (Some whole) old now new left is leads turns =
    turn_leads script lines refused whole old now new left _ refl leads
    (subst (λ t. IfSome left (λ later. Turns script lines (Ok t) later now new)) is turns)

-- it ended
pub leads_to : (whole : Option Ceremony) (answer : Result ℕ OutsideErr) (old now new : Outside)
    (left : Option Ceremony) → LeadsSome whole old left now → EndsSome left answer now new
    → EndsSome whole answer old new
leads_to None answer old now new left leads ends = tt
leads_to (Some whole) answer old now new None leads ends = absurd leads
leads_to (Some whole) answer old now new (Some left) leads ends = leads answer new ends

pub leads_to_stop : (script : List ℕ) (lines : LinesValue) (whole : Option Ceremony)
    (stop other : OutsideErr) (old now new : Outside) (left : Option Ceremony)
    → LeadsSome whole old left now → TurnsSome script lines left (Err stop) now new
    → EndsSome whole (Err other) old new
leads_to_stop script lines whole stop other old now new left leads ends =
    leads_to whole (Err other) old now new left leads ends

pub leads_to_end : (script : List ℕ) (lines : LinesValue) (turn : Turn) (status : ℕ)
    (whole : Option Ceremony) (old now new : Outside) (left : Option Ceremony) → turn ≡ Ended status
    → LeadsSome whole old left now → TurnsSome script lines left (Ok turn) now new
    → EndsSome whole (Ok status) old new
leads_to_end script lines turn status whole old now new left is leads turns =
    leads_to whole (Ok status) old now new left leads
    (subst (λ t. IfSome left (λ later. Turns script lines (Ok t) later now new)) is turns)

-- ---- the script's first line

-- it wasn't, and this was said of it
pub unread_said : (script : List ℕ) (unread : Unread) (said : SaidValue) (files : Files)
    → Ok said ≡ said_or_stopped unread
    → Gives {T = LinesValue} said_of_unread (λ l. rest_of l files) (Err unread)
    (script_begun files script) → script_begun files script ≡ Err said
unread_said script (Said other) said files is gives =
    gives ∙ ap Err (same_Ok {E = OutsideErr} other said (sym is))
unread_said script Failed said files is gives = cc
unread_said script NoMemory said files is gives = cc

pub unread_ceremony : (script : List ℕ) (unread : Unread) (said : SaidValue)
    (held now : Option Files) (ledger : Option Ledger) (taken then_ : Option (List ℕ))
    (answer : Result ℕ OutsideErr) → now ≡ held → Ok said ≡ said_or_stopped unread
    → IfSome held (λ files. Gives {T = LinesValue} said_of_unread (λ l. rest_of l files)
    (Err unread) (script_begun files script))
    → EndsSaying said answer taken then_
    → EndsSome (ceremony_on held ledger script) answer (outside (stores held ledger) taken)
    (outside (stores now ledger) then_)
unread_ceremony script unread said None now ledger taken then_ answer same is gives ends = tt
unread_ceremony script unread said (Some files) now ledger taken then_ answer same is gives ends =
    subst (λ r. IfSome (ceremony_behind script (stores (Some files) ledger) r)
    (λ whole. EndsAll answer whole (outside (stores (Some files) ledger) taken)
    (outside (stores now ledger) then_))) (sym (unread_said script unread said files is gives))
    (subst (λ left. EndsAll answer (closed said) (outside (stores (Some files) ledger) taken)
    (outside (stores left ledger) then_)) (sym same) (ends (stores (Some files) ledger)))

-- ---- counts

-- what a call caused, from counts that are those at the beginning
pub causes_since : {T : Type 0} (answer : Result T OutsideErr)
    (start shelf first keeper begin out now then_ last : ℕ) → shelf ≡ start → keeper ≡ first
    → out ≡ begin → CausesThree outside_err.Failed answer shelf now keeper then_ out last
    → CausesThree outside_err.Failed answer start now first then_ begin last
causes_since answer start shelf first keeper begin out now then_ last a b c causes =
    subst (λ n. CausesThree outside_err.Failed answer start now first then_ n last) c
    (subst (λ n. CausesThree outside_err.Failed answer start now n then_ out last) b
    (subst (λ n. CausesThree outside_err.Failed answer n now keeper then_ out last) a causes))

-- ---- what the house keeps

pub keeps_told : (ledger : Option Ledger) → Modelled KeepsAnswers ledger ledger
keeps_told = told_same KeepsAnswers keeps_same

pub keeps_further : (old between new : Option Ledger) → Modelled KeepsAnswers old between
    → Modelled KeepsAnswers between new → Modelled KeepsAnswers old new
keeps_further = told_chain KeepsAnswers KeepsAnswers KeepsAnswers keeps_on
