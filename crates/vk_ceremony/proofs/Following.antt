-- The commands of a ceremony have the effects of its orders, one after another, and each is a step
-- of the house.
use Rattle.std.proofs.Common.{◌≡◌, ℕ, Bool, true, false, ◌||◌, if◌then◌else◌, List, [], ◌∷◌, Option, Some, None, option_map, Result, Ok, Err, refl, sym, ap, subst, ◌∙◌, inl, inr}
use Rattle.std.specs.Prelude.{IsSomeAnd, IsTrue, IsFalse, option_and_then, ◌⊎◌}
use Rattle.std.specs.Result.{result_ok}
use Rattle.std.proofs.lemmas.Option.{same_Some}
use Rattle.vk_io.specs.Files.{Files}
use Rattle.vk_io.specs.Writing.{written}
use Rattle.vk_lines.specs.Lines.{Rest}
use Rattle.vk_keeper.specs.Ledgers.{Ledger}
use Rattle.vk_house.specs.declared.errors.HouseErr.{HouseErr}
use Rattle.vk_house.specs.Commands.{HouseCommand}
use Rattle.vk_house.specs.Commands as house
use Rattle.vk_house.specs.Replies.{HouseReply, Refused}
use Rattle.vk_house.specs.Steps.{HouseCall, house_step}
use Rattle.vk_house.proofs.Stepping.{step_is_call}
use Rattle.vk_effect.specs.Effects.{Effect, SaidValue, after, said_of, stores}
use Rattle.vk_words.specs.Orders.{HouseWords, Announce, AnnounceReserve, Submit, Prove, Answer, Show}
use Rattle.vk_auctioneer.specs.Effects.{Writes, asked, board_file, house_effect, if_read, no_file, reply_file}
use Rattle.vk_auctioneer.specs.Inputs.{challenge_in, row_in}
use Rattle.vk_auctioneer.specs.Lines.{reply_said}
use Rattle.vk_ceremony.specs.Ceremonies.{Ceremony, after_command, ceremony_behind, ceremony_from, closing_said, ended_by, goes_on, is_refusal, with_command}
use Rattle.vk_ceremony.specs.Runs.{asked_in, orders_behind, orders_in}
use Rattle.vk_ceremony.specs.Scripts.{script_at, script_begun}

-- each step is a call
pub step_call : (ledger : Ledger) (command : HouseCommand)
    → HouseCall ledger command (house_step ledger command).0 (house_step ledger command).1
step_call ledger command =
    step_is_call ledger (house_step ledger command).1 command (house_step ledger command).0 refl

-- ---- one command

-- it says the reply of the house, leaves what the house does, and writes no file of a refusal; or
-- it asks nothing, and leaves all
abbrev pub Reaches : Option HouseCommand → Ledger → Effect → Type 0
Reaches None ledger effect = (effect.ledger ≡ Some ledger) × (effect.writes ≡ [])
Reaches (Some command) ledger effect =
    (effect.ledger ≡ Some (house_step ledger command).1)
    × (said_of effect ≡ reply_said command (house_step ledger command).0)
    × ((refusal : HouseErr) → (house_step ledger command).0 ≡ Refused refusal → effect.writes ≡ [])

asked_reaches : (files_of : HouseReply → Writes) (ledger : Ledger) (command : HouseCommand)
    → ((refusal : HouseErr) → files_of (Refused refusal) ≡ [])
    → Reaches (Some command) ledger (asked files_of ledger command)
asked_reaches files_of ledger command none =
    (refl, refl, λ refusal is. ap files_of is ∙ none refusal)

read_reaches : {X : Type 0} (ledger : Ledger) (files_of : X → HouseReply → Writes)
    (command : X → HouseCommand) (read : Result X SaidValue)
    → ((x : X) (refusal : HouseErr) → files_of x (Refused refusal) ≡ [])
    → Reaches (option_map command (result_ok read)) ledger
    (if_read ledger (λ x. asked (files_of x) ledger (command x)) read)
read_reaches ledger files_of command (Ok x) none =
    asked_reaches (files_of x) ledger (command x) (none x)
read_reaches ledger files_of command (Err said) none = (refl, refl)

-- a command over modelled files and a modelled ledger
abbrev pub IsTold : Files → Ledger → HouseWords → Type 0
IsTold files ledger order = (effect : Effect)
    × (house_effect (Some files) (Some ledger) order ≡ Some effect)
    × Reaches (asked_in files order) ledger effect

pub order_told : (files : Files) (ledger : Ledger) (order : HouseWords) → IsTold files ledger order
order_told files ledger (Announce id width lanes) =
    (_, refl, asked_reaches no_file ledger (house.Announce id width lanes) (λ refusal. refl))
order_told files ledger (AnnounceReserve id width lanes reserve) = (
  _,
  refl,
  asked_reaches no_file ledger (house.AnnounceReserve id width lanes reserve)
      (λ refusal. refl),
)
order_told files ledger (Submit id seal secret) = (
  _,
  refl,
  read_reaches ledger (λ row. no_file) (λ row. house.Submit id row.seal row.secret)
      (row_in files seal secret) (λ row refusal. refl),
)
order_told files ledger (Prove id seed board) =
    (_, refl, asked_reaches (board_file board) ledger (house.Prove id seed) (λ refusal. refl))
order_told files ledger (Answer id challenge reply) = (
  _,
  refl,
  read_reaches ledger (reply_file reply) (house.Answer id)
      (challenge_in files challenge) (λ given refusal. refl),
)
order_told files ledger (Show id) =
    (_, refl, asked_reaches no_file ledger (house.Show id) (λ refusal. refl))

pub order_reaches : (files : Files) (ledger : Ledger) (order : HouseWords) (effect : Effect)
    → house_effect (Some files) (Some ledger) order ≡ Some effect
    → Reaches (asked_in files order) ledger effect
order_reaches files ledger order effect is =
    let told = order_told files ledger order in
    subst (Reaches (asked_in files order) ledger) (same_Some told.0 effect (sym told.1 ∙ is)) told.2

-- the ledger that a command leaves
abbrev pub ledger_by : Option HouseCommand → Ledger → Ledger
ledger_by None ledger = ledger
ledger_by (Some command) ledger = (house_step ledger command).1

pub ledger_left : (asked : Option HouseCommand) (ledger : Ledger) (effect : Effect)
    → Reaches asked ledger effect → effect.ledger ≡ Some (ledger_by asked ledger)
ledger_left None ledger effect reaches = reaches.0
ledger_left (Some command) ledger effect reaches = reaches.0

-- ---- one after another

-- these are the effects of the orders one after another, up to the first that no order follows
abbrev pub Follow : List HouseWords → Files → Ledger → List Effect → Type 0
Follow orders files ledger [] = orders ≡ []
Follow [] files ledger (effect ∷ effects) = ⊥
Follow (order ∷ orders) files ledger (effect ∷ effects) =
    (house_effect (Some files) (Some ledger) order ≡ Some effect)
    × ((IsTrue (goes_on effect.status)
    × Follow orders (written effect.writes files) (ledger_by (asked_in files order) ledger) effects)
    ⊎ (IsFalse (goes_on effect.status) × (effects ≡ [])))

after_follows : (order : HouseWords) (orders : List HouseWords) (files : Files) (ledger : Ledger)
    (effect : Effect) (later : Option Ceremony) (test : Bool) → goes_on effect.status ≡ test
    → house_effect (Some files) (Some ledger) order ≡ Some effect
    → IsSomeAnd later (λ whole. Follow orders (written effect.writes files)
    (ledger_by (asked_in files order) ledger) whole.commands)
    → IsSomeAnd (if test then option_map (with_command effect) later else Some (ended_by effect))
    (λ whole. Follow (order ∷ orders) files ledger whole.commands)
after_follows order orders files ledger effect None test is told follows = absurd follows
after_follows order orders files ledger effect (Some later) true is told follows =
    (told, inl (is, follows))
after_follows order orders files ledger effect (Some later) false is told follows =
    (told, inr (is, refl))

orders_follow : (closing : Bool → SaidValue) (refused : Bool) (orders : List HouseWords)
    (files : Files) (ledger : Ledger)
    → IsSomeAnd (ceremony_from closing refused orders (stores (Some files) (Some ledger)))
    (λ whole. Follow orders files ledger whole.commands)
orders_follow closing refused [] files ledger = refl
orders_follow closing refused (order ∷ orders) files ledger =
    let told = order_told files ledger order in
    let effect : Effect = told.0 in
    let next : Bool = refused || is_refusal effect.status in
    let kept : Ledger = ledger_by (asked_in files order) ledger in
    let later : IsSomeAnd (ceremony_from closing next orders
    (after effect (stores (Some files) (Some ledger))))
    (λ whole. Follow orders (written effect.writes files) kept whole.commands) =
    subst (λ l. IsSomeAnd (ceremony_from closing next orders
    (stores (Some (written effect.writes files)) l))
    (λ whole. Follow orders (written effect.writes files) kept whole.commands))
    (sym (ledger_left (asked_in files order) ledger effect told.2))
    (orders_follow closing next orders (written effect.writes files) kept) in
    let P : Option Effect → Type 0 =
    λ found. IsSomeAnd (option_and_then
    (λ e. after_command e (ceremony_from closing (refused || is_refusal e.status) orders
    (after e (stores (Some files) (Some ledger))))) found)
    (λ whole. Follow (order ∷ orders) files ledger whole.commands) in
    subst P (sym told.1) (after_follows order orders files ledger effect
    (ceremony_from closing next orders (after effect (stores (Some files) (Some ledger))))
    (goes_on effect.status) refl told.1 later)

-- ---- a script by its name

behind_follows : (script : List ℕ) (files : Files) (ledger : Ledger) (begun : Result Rest SaidValue)
    → IsSomeAnd (ceremony_behind script (stores (Some files) (Some ledger)) begun)
    (λ whole. Follow (orders_behind script begun) files ledger whole.commands)
behind_follows script files ledger (Ok rest) =
    orders_follow (closing_said script (script_at script rest).fault) false
    (script_at script rest).orders files ledger
behind_follows script files ledger (Err said) = refl

pub ceremony_follows : (files : Files) (ledger : Ledger) (script : List ℕ)
    → IsSomeAnd (ceremony_behind script (stores (Some files) (Some ledger))
    (script_begun files script))
    (λ whole. Follow (orders_in files script) files ledger whole.commands)
ceremony_follows files ledger script =
    behind_follows script files ledger (script_begun files script)

-- what follows of each ceremony follows of one that is known
pub told_each : {X : Type 0} (P Q : X → Type 0) → ((x : X) → P x → Q x) → (found : Option X)
    → IsSomeAnd found P → IsSomeAnd found Q
told_each P Q follows None is = is
told_each P Q follows (Some x) is = follows x is
