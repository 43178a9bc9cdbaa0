-- What a ceremony says for its script, by the acts that it comes to.
use Rattle.std.proofs.Common.{◌≡◌, ℕ, Bool, true, false, ◌||◌, if◌then◌else◌, List, [], ◌∷◌, ◌++◌, map, Option, Some, None, option_map, Result, Ok, Err, refl, sym, ap, subst, ◌∙◌, inl, inr}
use Rattle.std.specs.Prelude.{IsSomeAnd, option_and_then}
use Rattle.vk_io.specs.Files.{Files}
use Rattle.vk_io.specs.Writing.{written}
use Rattle.vk_lines.specs.Lines.{Rest}
use Rattle.vk_keeper.specs.Ledgers.{Ledger}
use Rattle.vk_effect.specs.Effects.{Effect, SaidValue, Stores, after, stores}
use Rattle.vk_words.specs.Orders.{HouseWords}
use Rattle.vk_auctioneer.specs.Effects.{house_effect}
use Rattle.vk_ceremony.specs.Acts.{AreActs, GoOn, HouseAct, IsAct}
use Rattle.vk_ceremony.specs.Ceremonies.{Ceremony, after_command, ceremony_behind, ceremony_from, closing_said, ended_by, goes_on, is_refusal, with_command}
use Rattle.vk_ceremony.specs.Forms.{fault_by}
use Rattle.vk_ceremony.specs.Runs.{orders_behind}
use Rattle.vk_ceremony.specs.Scripts.{behind_heading, script_at}
use Rattle.vk_app.specs.Promises.{closing_behind}

-- ---- one act

-- the effect of an act on what was found
effect_told : (act : HouseAct) (is : IsAct act) (files : Files) (ledger : Ledger)
    → act.files ≡ files → act.ledger ≡ ledger
    → house_effect (Some files) (Some ledger) act.order ≡ Some is.effect
effect_told act is files ledger files_are ledger_is =
    subst (λ kept. house_effect (Some files) (Some kept) act.order ≡ Some is.effect) ledger_is
    (subst (λ held. house_effect (Some held) (Some act.ledger) act.order ≡ Some is.effect)
    files_are is.effect_is)

-- what it left is what is left after its effect
left_after : (act : HouseAct) (is : IsAct act) (files : Files) (ledger : Ledger)
    → act.files ≡ files
    → stores (Some act.left) (Some act.kept) ≡ after is.effect (stores (Some files) (Some ledger))
left_after act is files ledger files_are =
    ap (λ left. stores (Some left) (Some act.kept))
    (is.left_is ∙ ap (written is.effect.writes) files_are)
    ∙ ap (stores (Some (written is.effect.writes files))) (sym is.kept_is)

followed : (act : HouseAct) (acts : List HouseAct) (later : List HouseWords)
    → GoOn (act ∷ acts) later → goes_on act.said.status ≡ true → GoOn acts later
followed act acts later (inl (on, more)) goes = more
followed act acts later (inr (ends, none)) goes = cc

-- by whether another follows
closes_after : (effect : Effect) (later : Option Ceremony) (test : Bool) (said : SaidValue)
    → (test ≡ true → IsSomeAnd later (λ whole. whole.closing ≡ said))
    → IsSomeAnd (if test then option_map (with_command effect) later else Some (ended_by effect))
    (λ whole. whole.closing
    ≡ (if test then said else record { status = effect.status; text = [] }))
closes_after effect None true said closes = absurd (closes refl)
closes_after effect (Some later) true said closes = closes refl
closes_after effect later false said closes = refl

-- ---- one after another

-- what a ceremony says for itself is what is said behind its acts
abbrev Closes : (Bool → SaidValue) → Bool → List HouseAct → Option Ceremony → Type 0
Closes closing refused acts found =
    IsSomeAnd found (λ whole. whole.closing ≡ closing_behind closing refused acts)

closes_by : (closing : Bool → SaidValue) (refused : Bool) (acts : List HouseAct)
    (orders later : List HouseWords) (files : Files) (ledger : Ledger) (left : Files)
    (kept : Ledger) → orders ≡ map (λ (act : HouseAct). act.order) acts ++ later → GoOn acts later
    → AreActs acts files ledger left kept
    → Closes closing refused acts
    (ceremony_from closing refused orders (stores (Some files) (Some ledger)))
closes_by closing refused [] orders later files ledger left kept are none done =
    subst (λ os. Closes closing refused []
    (ceremony_from closing refused os (stores (Some files) (Some ledger)))) (sym (are ∙ none)) refl
closes_by closing refused (act ∷ acts) orders later files ledger left kept are on
    (files_are, ledger_is, is, more) =
    let rest : List HouseWords = map (λ (one : HouseAct). one.order) acts ++ later in
    let old : Stores = stores (Some files) (Some ledger) in
    let effect : Effect = is.effect in
    let status : act.said.status ≡ effect.status = ap (λ (s : SaidValue). s.status) is.said_is in
    let then_ : ℕ → Option Ceremony =
    λ n. ceremony_from closing (refused || is_refusal n) rest (after effect old) in
    let next : goes_on act.said.status ≡ true
    → Closes closing (refused || is_refusal act.said.status) acts (then_ act.said.status) =
    λ goes. subst (λ now. Closes closing (refused || is_refusal act.said.status) acts
    (ceremony_from closing (refused || is_refusal act.said.status) rest now))
    (left_after act is files ledger files_are)
    (closes_by closing (refused || is_refusal act.said.status) acts rest later act.left act.kept
    left kept refl (followed act acts later on goes) more) in
    let here : Closes closing refused (act ∷ acts) (after_command effect (then_ effect.status)) =
    subst (λ n. IsSomeAnd (after_command effect (then_ effect.status))
    (λ whole. whole.closing ≡ (if goes_on n
    then closing_behind closing (refused || is_refusal n) acts
    else record { status = n; text = [] }))) (sym status)
    (closes_after effect (then_ effect.status) (goes_on effect.status)
    (closing_behind closing (refused || is_refusal effect.status) acts)
    (subst (λ n. goes_on n ≡ true
    → Closes closing (refused || is_refusal n) acts (then_ n)) status next)) in
    subst (λ os. Closes closing refused (act ∷ acts) (ceremony_from closing refused os old))
    (sym are)
    (subst (λ found. Closes closing refused (act ∷ acts)
    (option_and_then (λ e. after_command e
    (ceremony_from closing (refused || is_refusal e.status) rest (after e old))) found))
    (sym (effect_told act is files ledger files_are ledger_is)) here)

-- ---- a script

-- by its first line. Where that is no heading, no order is one of it
pub closes_behind : (script : List ℕ) (read : Result (Unit × Rest) ℕ) (acts : List HouseAct)
    (later : List HouseWords) (files : Files) (ledger : Ledger) (left : Files) (kept : Ledger)
    → orders_behind script (behind_heading script read)
    ≡ map (λ (act : HouseAct). act.order) acts ++ later
    → GoOn acts later → AreActs acts files ledger left kept
    → IsSomeAnd (ceremony_behind script (stores (Some files) (Some ledger))
    (behind_heading script read))
    (λ whole. whole.closing ≡ closing_behind (closing_said script (fault_by script read)) false acts)
closes_behind script (Ok read) acts later files ledger left kept are on done =
    closes_by (closing_said script (script_at script read.1).fault) false acts
    (script_at script read.1).orders later files ledger left kept are on done
closes_behind script (Err number) [] later files ledger left kept are on done = refl
closes_behind script (Err number) (act ∷ acts) later files ledger left kept are on done = cc
