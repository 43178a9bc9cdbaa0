-- What is served at a store leads its ledger as the house's steps do.
use Rattle.std.proofs.Common.{◌≡◌, ◌⊎◌, ℕ, zero, suc, List, [], ◌∷◌, Option, Some, None, IfSome, refl, sym, ap, subst, inl, inr, ◌∙◌, arith}
use Rattle.std.specs.Prelude.{Contains}
use Rattle.std.specs.List.{AllByRecursion}
use Rattle.std.specs.Option.{option_or}
use Rattle.std.specs.FinMap.{get, insert}
use Rattle.sqlite.specs.Store.{Ghosts}
use Rattle.sqlite.specs.Held.{Held}
use Rattle.vk_keeper.specs.declared.auction.Auction.{Auction}
use Rattle.vk_keeper.specs.Ledgers.{Ledger, IsKeptUnder, IsLedger}
use Rattle.vk_house.specs.Commands.{HouseCommand, id_of}
use Rattle.vk_house.specs.Replies.{HouseReply}
use Rattle.vk_house.specs.Steps.{house_step, ledger_after, step_at}
use Rattle.vk_house.specs.Once.{KeepsAnswers}
use Rattle.vk_house.proofs.Once.{call_keeps, keeps_on, keeps_same}
use Rattle.vk_house.proofs.Stepping.{OfChanges, step_is_call, value_after, value_each}
use Rattle.vk_store_laws.specs.Runs.{Act, found, kept, refused, opened, stopped, LeadOn, Tells}
use Rattle.vk_store_laws.specs.Serving.{Served, done, halted, nothing, keeping, calls_of, KeepsNothing, IsMade, Serves, StepsTo, StepOn}
use Rattle.vk_store_laws.proofs.Runs.{IsSettled, run_tells}

-- ---- what a step keeps

-- an auction stands under the command's own id
abbrev StaysOwn : HouseCommand → Option Auction → Option Auction → Type 0
StaysOwn command answer later = IfSome answer (λ a. a.id ≡ id_of command)
    → IfSome later (λ a. a.id ≡ id_of command)

of_own : OfChanges StaysOwn
of_own = record {
  same = λ command answer own. own;
  opens = λ id width lanes own. refl;
  reserves = λ id width lanes reserve own. refl;
  joins = λ id seal secret held may_join own. own;
  proves = λ id seed held some none_dry own. own;
  answers = λ id seed challenge held each own. own;
}

kept_so : (P : Auction → Type 0) (kept answer : Option Auction)
    → IfSome (option_or kept answer) P → IfSome kept P
kept_so P None answer is = tt
kept_so P (Some auction) answer is = is

own_step : (command : HouseCommand) (answer : Option Auction)
    → IfSome answer (λ a. a.id ≡ id_of command)
    → IfSome (step_at command answer).kept (λ k. k.id ≡ id_of command)
unfolding value_after
own_step command answer own =
    kept_so (λ k. k.id ≡ id_of command) (step_at command answer).kept answer
    (value_each StaysOwn of_own command answer own)

-- what stands under an id in a ledger is of that id
own_of : (id : List ℕ) (answer : Option Auction) → IfSome answer (IsKeptUnder id)
    → IfSome answer (λ a. a.id ≡ id)
own_of id None is = tt
own_of id (Some auction) is = is.own

own_found : (ledger : Ledger) (id : List ℕ) → IsLedger ledger
    → IfSome (get ledger id) (λ a. a.id ≡ id)
own_found ledger id right = own_of id (get ledger id) (right id)

-- ---- the ledger

step_found : (old : Ledger) (command : HouseCommand) (answer : Option Auction)
    → answer ≡ get old (id_of command)
    → house_step old command
    ≡ (
      (step_at command answer).reply,
      ledger_after old (id_of command) (step_at command answer).kept,
    )
step_found old command answer is =
    ap (λ a. ((step_at command a).reply, ledger_after old (id_of command) (step_at command a).kept))
    (sym is)

keeping_leads : (id : List ℕ) (auction : Option Auction) (old new : Ledger)
    → IfSome auction (λ a. a.id ≡ id) → LeadOn (keeping auction) old new
    → new ≡ ledger_after old id auction
keeping_leads id None old new own leads = leads
keeping_leads id (Some auction) old new own leads =
    leads.2 ∙ leads.1 ∙ ap (λ i. insert old i auction) own

done_leads : (command : HouseCommand) (reply : HouseReply) (answer : Option Auction)
    (old new : Ledger) → IsLedger old → LeadOn (calls_of command answer) old new
    → (step_at command answer).reply ≡ reply → house_step old command ≡ (reply, new)
done_leads command reply answer old new right leads is =
    let id = id_of command in
    let own = own_step command answer (subst (λ a. IfSome a (λ (k : Auction). k.id ≡ id))
    (sym leads.1.0) (own_found old id right)) in
    let after = keeping_leads id (step_at command answer).kept leads.0 new own leads.2
    ∙ ap (λ l. ledger_after l id (step_at command answer).kept) leads.1.1 in
    step_found old command answer leads.1.0
    ∙ ap (λ r. (r, ledger_after old id (step_at command answer).kept)) is
    ∙ ap (λ l. (reply, l)) (sym after)

halted_leads : (command : HouseCommand) (answer : Option Auction) (auction : Auction)
    (old new : Ledger) → IsLedger old → (step_at command answer).kept ≡ Some auction
    → LeadOn (found (id_of command) answer ∷ stopped auction ∷ []) old new
    → (new ≡ old) ⊎ (new ≡ (house_step old command).1)
halted_leads command answer auction old new right keeps leads =
    let id = id_of command in
    let own : auction.id ≡ id =
    subst (λ k. IfSome k (λ (a : Auction). a.id ≡ id)) keeps
    (own_step command answer (subst (λ a. IfSome a (λ (k : Auction). k.id ≡ id))
    (sym leads.1.0) (own_found old id right))) in
    let whole : (house_step old command).1 ≡ insert old id auction =
    ap (λ (r : HouseReply × Ledger). r.1) (step_found old command answer leads.1.0)
    ∙ ap (ledger_after old id) keeps in
    elim leads.2.1 [
      | inl same ↦ inl (leads.2.2 ∙ same ∙ leads.1.1)
      | inr is ↦ inr (leads.2.2 ∙ is ∙ ap (λ l. insert l auction.id auction) leads.1.1
          ∙ ap (λ i. insert old i auction) own ∙ sym whole)
    ]

nothing_leads : (acts : List Act) (old new : Ledger) → AllByRecursion KeepsNothing acts
    → LeadOn acts old new → new ≡ old
nothing_leads [] old new idle leads = leads
nothing_leads (found id answer ∷ acts) old new idle leads =
    nothing_leads acts leads.0 new idle.1 leads.2 ∙ leads.1.1
nothing_leads (kept auction ∷ acts) old new idle leads = absurd idle.0
nothing_leads (refused ∷ acts) old new idle leads =
    nothing_leads acts leads.0 new idle.1 leads.2 ∙ leads.1
nothing_leads (opened ∷ acts) old new idle leads =
    nothing_leads acts leads.0 new idle.1 leads.2 ∙ leads.1
nothing_leads (stopped auction ∷ acts) old new idle leads = absurd idle.0

made_leads : (served : Served) (acts : List Act) (old new : Ledger) → IsLedger old
    → IsMade served acts → LeadOn acts old new → StepsTo served old new
made_leads (done command reply) acts old new right made leads =
    done_leads command reply made.0 old new right (subst (λ a. LeadOn a old new) made.1 leads)
    made.2
made_leads (halted command) acts old new right made leads =
    halted_leads command made.0 made.1 old new right made.2
    (subst (λ a. LeadOn a old new) made.3 leads)
made_leads nothing acts old new right made leads = nothing_leads acts old new made leads

made_keeps : (served : Served) (old new : Ledger) → StepsTo served old new → KeepsAnswers old new
made_keeps (done command reply) old new is =
    call_keeps old new command reply (step_is_call old new command reply is)
made_keeps (halted command) old new (inl same) =
    subst (KeepsAnswers old) (sym same) (keeps_same old)
made_keeps (halted command) old new (inr is) =
    subst (KeepsAnswers old) (sym is)
    (call_keeps old (house_step old command).1 command (house_step old command).0
    (step_is_call old (house_step old command).1 command (house_step old command).0 refl))
made_keeps nothing old new same = subst (KeepsAnswers old) (sym same) (keeps_same old)

-- ---- lists

-- as `StepOn` has it, and each ledger on the way is one
abbrev pub StepsRight : List Served → Ledger → Ledger → Type 0
StepsRight [] old new = new ≡ old
StepsRight (served ∷ later) old new =
    (mid : Ledger) × (StepsTo served old mid × IsLedger mid) × StepsRight later mid new

steps_on : (all : List Served) (old new : Ledger) → StepsRight all old new → StepOn all old new
steps_on [] old new steps = steps
steps_on (served ∷ later) old new steps =
    (steps.0, steps.1.0, steps_on later steps.0 new steps.2)

steps_keep : (all : List Served) (old new : Ledger) → StepsRight all old new → KeepsAnswers old new
steps_keep [] old new steps = subst (KeepsAnswers old) (sym steps) (keeps_same old)
steps_keep (served ∷ later) old new steps =
    keeps_on old steps.0 new (made_keeps served old steps.0 steps.1.0)
    (steps_keep later steps.0 new steps.2)

-- one of them, between two ledgers
pub record Led (served : Served) (last : Ledger) : Type 0 where
  pub before : Ledger
  pub after : Ledger
  pub steps : StepsTo served before after
  pub right : IsLedger after
  pub keeps : KeepsAnswers after last

pub led : (all : List Served) (served : Served) (old last : Ledger) → StepsRight all old last
    → Contains all served → Led served last
led [] served old last steps (k, below, at) = absurd (omega arith)
led (first ∷ later) served old last steps (zero, below, at) = record {
  before = old;
  after = steps.0;
  steps = subst (λ s. StepsTo s old steps.0) at steps.1.0;
  right = steps.1.1;
  keeps = steps_keep later steps.0 last steps.2;
}
led (first ∷ later) served old last steps (suc k, below, at) =
    led later served steps.0 last steps.2 (k, omega arith, at)

module _ {S : Type 0} (g : Ghosts S) (settled : IsSettled g) where
  pub serve : (all : List Served) (old new : Held S) (ledger : Ledger) → Serves g all old new
      → Tells g old ledger → (after : Ledger) × StepsRight all ledger after × Tells g new after
  serve [] old new ledger serves tells =
      (ledger, refl, subst (λ (h : Held S). Tells g h ledger) (sym serves) tells)
  serve (served ∷ later) old new ledger (acts, made, (mid, ran, rest)) tells =
      let first = run_tells g settled acts old mid ledger ran tells in
      let next = serve later mid new first.0 rest first.2 in (
        next.0,
        (
          first.0,
          (
            made_leads served acts ledger first.0 tells.told.right made first.1,
            first.2.told.right,
          ),
          next.1,
        ),
        next.2,
      )

  pub serves_as_steps : (all : List Served) (old new : Held S) (ledger : Ledger)
      → Serves g all old new → Tells g old ledger
      → (after : Ledger) × StepOn all ledger after × KeepsAnswers ledger after × Tells g new after
  serves_as_steps all old new ledger serves tells =
      let it = serve all old new ledger serves tells in
      (it.0, steps_on all ledger it.0 it.1, steps_keep all ledger it.0 it.1, it.2)
