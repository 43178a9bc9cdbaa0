-- What stands after acts of the house, and what the house was asked by them.
use Rattle.std.proofs.Common.{◌≡◌, ◌≢◌, ℕ, zero, suc, arith, ◌+◌, nat_lt, Bool, true, false, if◌then◌else◌, List, [], ◌∷◌, ◌++◌, length, map, codes, Option, Some, None, IfSome, option_map, Result, Ok, Err, refl, sym, ap, subst, ◌∙◌, inl, inr}
use Rattle.std.specs.Prelude.{Contains, ◌⊎◌}
use Rattle.std.specs.List.{AllByRecursion}
use Rattle.std.specs.Result.{result_ok}
use Rattle.std.specs.Str.{bytes_eq}
use Rattle.std.proofs.lemmas.Option.{same_Some}
use Rattle.vk_io.specs.Files.{Files}
use Rattle.vk_io.specs.Writing.{written}
use Rattle.vk_lines.specs.Lines.{Rest}
use Rattle.vk_keeper.specs.declared.auction.SealRow.{SealRow}
use Rattle.vk_keeper.specs.Ledgers.{Ledger, IsLedger}
use Rattle.vk_house.specs.declared.errors.HouseErr.{HouseErr}
use Rattle.vk_house.specs.Commands.{HouseCommand, IsHouseCommand}
use Rattle.vk_house.specs.Commands as house
use Rattle.vk_house.specs.Once.{KeepsAnswers}
use Rattle.vk_house.specs.Replies.{HouseReply, Refused}
use Rattle.vk_house.specs.Steps.{house_step}
use Rattle.vk_house.proofs.Once.{call_keeps, keeps_on, keeps_same}
use Rattle.vk_house.proofs.Rights.{call_right}
use Rattle.vk_house.proofs.Stepping.{refused_stays}
use Rattle.vk_effect.specs.Effects.{Effect, SaidValue}
use Rattle.vk_words.specs.Orders.{HouseWords, Submit, Answer}
use Rattle.vk_words.specs.Scripts.{line_words, script_words}
use Rattle.vk_auctioneer.specs.Inputs.{challenge_in, row_in}
use Rattle.vk_auctioneer.specs.Laws.{AreHouseWords}
use Rattle.vk_auctioneer.specs.Lines.{reply_said}
use Rattle.vk_auctioneer.proofs.Reading.{reads_challenge, reads_row}
use Rattle.vk_auctioneer.proofs.Words.{script_each, then_each}
use Rattle.vk_ceremony.specs.Acts.{AreActs, HouseAct, IsAct, IsStepOf, Performs, StopsAt}
use Rattle.vk_ceremony.specs.Runs.{asked_in, orders_behind, orders_in}
use Rattle.vk_ceremony.specs.Scripts.{Order, Over, Script, ScriptLine, closes, line_then, order_line, over_from, pieces, script_at, script_begun, script_from, script_line}
use Rattle.vk_ceremony.proofs.Following.{Reaches, ledger_by, ledger_left, order_reaches, step_call}

-- ---- what one command leaves

act_kept : (act : HouseAct) → IsAct act
    → act.kept ≡ ledger_by (asked_in act.files act.order) act.ledger
act_kept act is =
    same_Some act.kept (ledger_by (asked_in act.files act.order) act.ledger)
    (sym is.kept_is ∙ ledger_left (asked_in act.files act.order) act.ledger is.effect
    (order_reaches act.files act.ledger act.order is.effect is.effect_is))

-- it is a step of the house
pub act_steps : (act : HouseAct) (command : HouseCommand) → IsAct act
    → asked_in act.files act.order ≡ Some command
    → IsStepOf command act
act_steps act command is asks =
    let reaches : Reaches (Some command) act.ledger is.effect =
    subst (λ asked. Reaches asked act.ledger is.effect) asks
    (order_reaches act.files act.ledger act.order is.effect is.effect_is) in
    (act_kept act is ∙ ap (λ asked. ledger_by asked act.ledger) asks, is.said_is ∙ reaches.1)

-- a reply of another status than 0 is a refusal
refusal_said : (command : HouseCommand) (reply : HouseReply) → (reply_said command reply).status ≢ 0
    → (refusal : HouseErr) × (reply ≡ Refused refusal)
refusal_said command (Refused refusal) other = (refusal, refl)
refusal_said command reply other = absurd (other refl)

same_by : (asked : Option HouseCommand) (files : Files) (ledger : Ledger) (effect : Effect)
    → Reaches asked ledger effect → (asked ≡ None) ⊎ (effect.status ≢ 0)
    → (written effect.writes files ≡ files) × (ledger_by asked ledger ≡ ledger)
same_by None files ledger effect reaches cause =
    (ap (λ writes. written writes files) reaches.1, refl)
same_by (Some command) files ledger effect reaches (inl none) = cc
same_by (Some command) files ledger effect reaches (inr other) =
    let refusal = refusal_said command (house_step ledger command).0
    (λ done. other (ap (λ (said : SaidValue). said.status) reaches.1 ∙ done)) in (
      ap (λ writes. written writes files) (reaches.2 refusal.0 refusal.1),
      refused_stays ledger command refusal.0 refusal.1,
    )

status_said : (command : HouseCommand) (reply : HouseReply)
    → ((reply_said command reply).status ≡ 0) ⊎ ((reply_said command reply).status ≡ 8)
status_said command (Refused refusal) = inr refl
status_said command reply = inl refl

-- it is done or refused
pub act_status : (act : HouseAct) (command : HouseCommand) → IsAct act
    → asked_in act.files act.order ≡ Some command → (act.said.status ≡ 0) ⊎ (act.said.status ≡ 8)
act_status act command is asks =
    let status = ap (λ (said : SaidValue). said.status) (act_steps act command is asks).1 in
    subst (λ n. (n ≡ 0) ⊎ (n ≡ 8)) (sym status)
    (status_said command (house_step act.ledger command).0)

-- where nothing is asked, or the status isn't 0, nothing changed
pub act_same : (act : HouseAct) → IsAct act → (asked_in act.files act.order ≡ None)
    ⊎ (act.said.status ≢ 0) → (act.left ≡ act.files) × (act.kept ≡ act.ledger)
act_same act is cause =
    let status : act.said.status ≡ is.effect.status =
    ap (λ (said : SaidValue). said.status) is.said_is in
    let same = same_by (asked_in act.files act.order) act.files act.ledger is.effect
    (order_reaches act.files act.ledger act.order is.effect is.effect_is)
    (subst (λ n. (asked_in act.files act.order ≡ None) ⊎ (n ≢ 0)) status cause) in
    (is.left_is ∙ same.0, act_kept act is ∙ same.1)

-- ---- one after another

-- what each command of such words makes of a ledger, and so do several of them
record Lasts (R : Ledger → Ledger → Type 0) (P : HouseWords → Type 0) : Type 0 where
  same : (ledger : Ledger) → R ledger ledger
  further : (old between new : Ledger) → R old between → R between new → R old new
  one : (files : Files) (ledger : Ledger) (order : HouseWords) → P order
      → R ledger (ledger_by (asked_in files order) ledger)

split_all : {X : Type 0} (P : X → Type 0) (front back : List X) → AllByRecursion P (front ++ back)
    → AllByRecursion P front × AllByRecursion P back
split_all P [] back all = (tt, all)
split_all P (x ∷ front) back all = let more = split_all P front back all.1 in
    ((all.0, more.0), more.1)

module _ (R : Ledger → Ledger → Type 0) (P : HouseWords → Type 0) (lasts : Lasts R P) where
  act_lasts : (act : HouseAct) → P act.order → IsAct act → R act.ledger act.kept
  act_lasts act may is =
      subst (R act.ledger) (sym (act_kept act is)) (lasts.one act.files act.ledger act.order may)

  acts_last : (acts : List HouseAct) (files : Files) (ledger : Ledger) (left : Files)
      (kept : Ledger) → AllByRecursion P (map (λ (act : HouseAct). act.order) acts)
      → AreActs acts files ledger left kept → R ledger kept
  acts_last [] files ledger left kept may are =
      subst (R ledger) (sym are.1) (lasts.same ledger)
  acts_last (act ∷ acts) files ledger left kept may are =
      lasts.further ledger act.kept kept
      (subst (λ found. R found act.kept) are.1 (act_lasts act may.0 are.2))
      (acts_last acts act.left act.kept left kept may.1 are.3)

  stop_lasts : (stop : Option HouseAct) (orders : List HouseWords) (files : Files)
      (ledger : Ledger) (left : Files) (kept : Ledger) → AllByRecursion P orders
      → StopsAt stop orders files ledger left kept → R ledger kept
  stop_lasts None orders files ledger left kept may same =
      subst (R ledger) (sym same.1) (lasts.same ledger)
  stop_lasts (Some act) orders files ledger left kept may stops =
      let words : AllByRecursion P (act.order ∷ stops.others) =
      subst (AllByRecursion P) stops.orders_are may in
      subst (R ledger) (sym stops.kept_is)
      (subst (λ found. R found act.kept) stops.ledger_is (act_lasts act words.0 stops.is))

  performs_last : (orders : List HouseWords) (files : Files) (ledger : Ledger)
      (acts : List HouseAct) (stop : Option HouseAct) (left : Files) (kept : Ledger)
      → AllByRecursion P orders
      → Performs orders files ledger acts stop left kept → R ledger kept
  performs_last orders files ledger acts stop left kept may performs =
      let parts = split_all P (map (λ (act : HouseAct). act.order) acts) performs.later
      (subst (AllByRecursion P) performs.orders_are may) in
      lasts.further ledger performs.ledger_between kept
      (acts_last acts files ledger performs.files_between performs.ledger_between parts.0
      performs.done)
      (stop_lasts stop performs.later performs.files_between performs.ledger_between left kept
      parts.1 performs.last)

  -- what lies before an act among them, and behind it
  acts_within : (acts : List HouseAct) (files : Files) (ledger : Ledger) (left : Files)
      (kept : Ledger) (act : HouseAct)
      → AllByRecursion P (map (λ (one : HouseAct). one.order) acts)
      → AreActs acts files ledger left kept → Contains acts act → R ledger act.ledger
      × R act.kept kept
  acts_within [] files ledger left kept act may are (k, below, at) = absurd (omega arith)
  acts_within (first ∷ acts) files ledger left kept act may are (zero, below, at) =
      subst (λ (one : HouseAct). R ledger one.ledger × R one.kept kept) at (
        subst (R ledger) (sym are.1) (lasts.same ledger),
        acts_last acts first.left first.kept left kept may.1 are.3,
      )
  acts_within (first ∷ acts) files ledger left kept act may are (suc k, below, at) =
      let more = acts_within acts first.left first.kept left kept act may.1 are.3
      (k, omega arith, at) in (
        lasts.further ledger first.kept act.ledger
            (subst (λ found. R found first.kept) are.1 (act_lasts first may.0 are.2)) more.0,
        more.1,
      )

pub is_act_within : (acts : List HouseAct) (files : Files) (ledger : Ledger) (left : Files)
    (kept : Ledger) (act : HouseAct) → AreActs acts files ledger left kept → Contains acts act
    → IsAct act
is_act_within [] files ledger left kept act are (k, below, at) = absurd (omega arith)
is_act_within (first ∷ acts) files ledger left kept act are (zero, below, at) = subst IsAct at are.2
is_act_within (first ∷ acts) files ledger left kept act are (suc k, below, at) =
    is_act_within acts first.left first.kept left kept act are.3 (k, omega arith, at)

-- ---- a ledger stays one

read_asks : {X : Type 0} (f : X → HouseCommand) (read : Result X SaidValue)
    → ((x : X) → read ≡ Ok x → IsHouseCommand (f x))
    → IfSome (option_map f (result_ok read)) IsHouseCommand
read_asks f (Ok x) each = each x refl
read_asks f (Err said) each = tt

-- such words ask what a house may be asked
asks_right : (files : Files) (order : HouseWords) → AreHouseWords order
    → IfSome (asked_in files order) IsHouseCommand
asks_right files (Submit id seal secret) are =
    read_asks (λ (row : SealRow). house.Submit id row.seal row.secret) (row_in files seal secret)
    (λ row read. let texts = ((reads_row files seal secret).read row).0 read in
    (are, texts.seal, texts.secret))
asks_right files (Answer id challenge reply) are =
    read_asks (house.Answer id) (challenge_in files challenge)
    (λ given read. let text = ((reads_challenge files challenge).read given).0 read in
    (are, text.right))
asks_right files order are = are

right_by : (asked : Option HouseCommand) (ledger : Ledger) → IfSome asked IsHouseCommand
    → IsLedger ledger → IsLedger (ledger_by asked ledger)
right_by None ledger asks right = right
right_by (Some command) ledger asks right =
    call_right ledger (house_step ledger command).1 command (house_step ledger command).0
    (step_call ledger command) asks right

-- from a ledger comes a ledger
abbrev StaysLedger : Ledger → Ledger → Type 0
StaysLedger old new = IsLedger old → IsLedger new

ledgers_last : Lasts StaysLedger AreHouseWords
ledgers_last = record {
  same = λ ledger right. right;
  further = λ old between new first second right. second (first right);
  one = λ files ledger order are. right_by (asked_in files order) ledger
      (asks_right files order are);
}

pub acts_right : (acts : List HouseAct) (files : Files) (ledger : Ledger) (left : Files)
    (kept : Ledger) → AllByRecursion AreHouseWords (map (λ (act : HouseAct). act.order) acts)
    → AreActs acts files ledger left kept → IsLedger ledger → IsLedger kept
acts_right = acts_last StaysLedger AreHouseWords ledgers_last

pub right_within : (acts : List HouseAct) (files : Files) (ledger : Ledger) (left : Files)
    (kept : Ledger) (act : HouseAct)
    → AllByRecursion AreHouseWords (map (λ (one : HouseAct). one.order) acts)
    → AreActs acts files ledger left kept → Contains acts act
    → IsLedger ledger → IsLedger act.ledger
right_within acts files ledger left kept act are done within =
    (acts_within StaysLedger AreHouseWords ledgers_last acts files ledger left kept act are done
    within).0

pub performs_right : (orders : List HouseWords) (files : Files) (ledger : Ledger)
    (acts : List HouseAct) (stop : Option HouseAct) (left : Files) (kept : Ledger)
    → AllByRecursion AreHouseWords orders → Performs orders files ledger acts stop left kept
    → IsLedger ledger → IsLedger kept
performs_right = performs_last StaysLedger AreHouseWords ledgers_last

-- ---- what was answered stays

keeps_by : (asked : Option HouseCommand) (ledger : Ledger)
    → KeepsAnswers ledger (ledger_by asked ledger)
keeps_by None ledger = keeps_same ledger
keeps_by (Some command) ledger =
    call_keeps ledger (house_step ledger command).1 command (house_step ledger command).0
    (step_call ledger command)

-- any words
abbrev AreAny : HouseWords → Type 0
AreAny order = Unit {0}

all_any : (orders : List HouseWords) → AllByRecursion AreAny orders
all_any [] = tt
all_any (order ∷ orders) = (tt, all_any orders)

answers_last : Lasts KeepsAnswers AreAny
answers_last = record {
  same = keeps_same;
  further = keeps_on;
  one = λ files ledger order any. keeps_by (asked_in files order) ledger;
}

-- what lies before one that was stopped
pub right_before : (orders : List HouseWords) (files : Files) (ledger : Ledger)
    (acts : List HouseAct) (act : HouseAct) (left : Files) (kept : Ledger)
    → AllByRecursion AreHouseWords orders
    → Performs orders files ledger acts (Some act) left kept → IsLedger ledger
    → AreHouseWords act.order × IsLedger act.ledger
right_before orders files ledger acts act left kept are performs right =
    let parts = split_all AreHouseWords (map (λ (one : HouseAct). one.order) acts) performs.later
    (subst (AllByRecursion AreHouseWords) performs.orders_are are) in
    let words : AllByRecursion AreHouseWords (act.order ∷ performs.last.others) =
    subst (AllByRecursion AreHouseWords) performs.last.orders_are parts.1 in (
      words.0,
      subst IsLedger (sym performs.last.ledger_is)
          (acts_right acts files ledger performs.files_between performs.ledger_between parts.0
          performs.done right),
    )

pub keeps_within : (acts : List HouseAct) (files : Files) (ledger : Ledger) (left : Files)
    (kept : Ledger) (act : HouseAct) → AreActs acts files ledger left kept → Contains acts act
    → KeepsAnswers ledger act.ledger × KeepsAnswers act.kept kept
keeps_within acts files ledger left kept act are within =
    acts_within KeepsAnswers AreAny answers_last acts files ledger left kept act
    (all_any (map (λ (one : HouseAct). one.order) acts)) are within

pub performs_keeps : (orders : List HouseWords) (files : Files) (ledger : Ledger)
    (acts : List HouseAct) (stop : Option HouseAct) (left : Files) (kept : Ledger)
    → Performs orders files ledger acts stop left kept → KeepsAnswers ledger kept
performs_keeps orders files ledger acts stop left kept performs =
    performs_last KeepsAnswers AreAny answers_last orders files ledger acts stop left kept
    (all_any orders) performs

-- ---- the words of a script

-- a line that is a command has such words
abbrev OfLine : ScriptLine → Type 0
OfLine (Order order) = AreHouseWords order
OfLine Over = Unit {0}

line_over : (over : Bool) (found : Option HouseWords) → IfSome found AreHouseWords
    → IfSome (if over then Some Over else option_map Order found) OfLine
line_over true found are = tt
line_over false None are = tt
line_over false (Some order) are = are

line_each : (script text : List ℕ) → IfSome (script_line script text) OfLine
line_each script text = line_over (bytes_eq text (codes "end")) (order_line script text)
    (then_each AreHouseWords (line_words text) (script_words script)
    (λ words found. script_each script words))

then_are : (said : Option ScriptLine) (taken : ℕ) (later : Script) (over : Option ℕ)
    → IfSome said OfLine → AllByRecursion AreHouseWords later.orders
    → AllByRecursion AreHouseWords (line_then said taken later over).orders
then_are (Some (Order order)) taken later over each are = (each, are)
then_are (Some Over) taken later over each are = tt
then_are None taken later over each are = tt

if_are : (test : Bool) (said : Script) (number : ℕ) → AllByRecursion AreHouseWords said.orders
    → (let chosen : Script = if test then said else closes (Some number) in
    AllByRecursion AreHouseWords chosen.orders)
if_are true said number are = are
if_are false said number are = tt

from_are : (script : List ℕ) (taken : ℕ) (ps : List (List ℕ))
    → AllByRecursion AreHouseWords (script_from script taken ps).orders
from_are script taken [] = tt
from_are script taken (last ∷ []) = tt
from_are script taken (text ∷ piece ∷ more) =
    if_are (nat_lt (length text) 256)
    (line_then (script_line script text) (taken + 1)
    (script_from script (taken + 1) (piece ∷ more)) (over_from (taken + 1) (piece ∷ more)))
    (taken + 1)
    (then_are (script_line script text) (taken + 1) (script_from script (taken + 1) (piece ∷ more))
    (over_from (taken + 1) (piece ∷ more)) (line_each script text)
    (from_are script (taken + 1) (piece ∷ more)))

at_are : (script : List ℕ) (rest : Rest)
    → AllByRecursion AreHouseWords (script_at script rest).orders
unfolding script_at
at_are script rest = from_are script rest.taken (pieces rest.left)

behind_are : (script : List ℕ) (begun : Result Rest SaidValue)
    → AllByRecursion AreHouseWords (orders_behind script begun)
behind_are script (Ok rest) = at_are script rest
behind_are script (Err said) = tt

pub orders_are : (files : Files) (script : List ℕ)
    → AllByRecursion AreHouseWords (orders_in files script)
orders_are files script = behind_are script (script_begun files script)
