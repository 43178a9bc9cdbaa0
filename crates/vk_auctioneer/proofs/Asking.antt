-- What a command of the house comes to, from what it read and what the house replied.
use Rattle.std.proofs.Common.{◌≡◌, ℕ, List, [], ◌∷◌, Option, Some, None, Result, Ok, Err, refl, sym, ap, subst, ◌∙◌, inl, inr}
use Rattle.std.specs.Prelude.{IfSome}
use Rattle.std.specs.List.{concat}
use Rattle.vk_io.specs.declared.errors.OutsideErr.{OutsideErr}
use Rattle.vk_io.specs.declared.errors.OutsideErr.TheVariants.{Failed}
use Rattle.vk_io.specs.Faults.{Causes}
use Rattle.vk_io.specs.Files.{Files, Modelled}
use Rattle.vk_io.specs.Writing.{written, WritesAll}
use Rattle.vk_lines.specs.Gives.{Gives}
use Rattle.vk_keeper.specs.declared.auction.Auction.{Auction}
use Rattle.vk_keeper.specs.Ledgers.{Ledger}
use Rattle.vk_keeper.specs.Turns.{Turns}
use Rattle.vk_house.specs.declared.errors.HouseErr.{HouseErr}
use Rattle.vk_house.specs.declared.errors.HouseErr.TheVariants.{KeeperFailed, NoMemory}
use Rattle.vk_house.specs.Answers.{MakesCall, as_reply}
use Rattle.vk_house.specs.Calls.{CallsHouse}
use Rattle.vk_house.specs.Commands.{HouseCommand}
use Rattle.vk_house.specs.Once.{KeepsAnswers}
use Rattle.vk_house.specs.Replies.{HouseReply, Refused}
use Rattle.vk_house.specs.Steps.{HouseCall}
use Rattle.vk_house.proofs.Once.{call_keeps}
use Rattle.vk_effect.specs.Effects.{Effect, SaidValue, stores}
use Rattle.vk_effect.specs.Ends.{Acts}
use Rattle.vk_effect.specs.Reading.{said_of_unread}
use Rattle.vk_effect.proofs.Acting.{told_map}
use Rattle.vk_auctioneer.specs.Answers.{AsksAlone, Leaves, Says}
use Rattle.vk_auctioneer.specs.Effects.{Writes, asked, effect_by, if_read, no_file, on_both, on_ledger}

-- ---- files

no_files_left : (T : Type 0) (stop : OutsideErr) (held now : Option Files)
    → Modelled (Leaves {T = T} [] (Err stop)) held now → now ≡ held
no_files_left T stop None now left = left
no_files_left T stop (Some files) None left = absurd left
no_files_left T stop (Some files) (Some later) left = ap Some left

-- a file that was written in pieces holds the text that they make
pub text_done : (name text : List ℕ) (pieces : List (List ℕ)) (said : SaidValue)
    (held now : Option Files) → concat pieces ≡ text
    → Modelled (WritesAll {E = OutsideErr} ((name, concat pieces) ∷ []) (Ok tt)) held now
    → Modelled (Leaves ((name, text) ∷ []) (Ok said)) held now
text_done name text pieces said held now is left =
    subst (λ t. Modelled (Leaves ((name, t) ∷ []) (Ok said)) held now) is left

-- one whose writing was stopped holds a part of it
pub text_stopped : (name text : List ℕ) (pieces : List (List ℕ)) (stop : OutsideErr)
    (held now : Option Files) → concat pieces ≡ text
    → Modelled (WritesAll ((name, concat pieces) ∷ []) (Err stop)) held now
    → Modelled (Leaves {T = SaidValue} ((name, text) ∷ []) (Err stop)) held now
text_stopped name text pieces stop held now is left =
    subst (λ t. Modelled (Leaves {T = SaidValue} ((name, t) ∷ []) (Err stop)) held now) is left

-- where no file is written all files stay
pub leaves_same : {T : Type 0} (answer : Result T OutsideErr) (held : Option Files)
    → Modelled (Leaves [] answer) held held
leaves_same answer None = refl
leaves_same (Ok done) (Some files) = refl
leaves_same (Err stop) (Some files) = refl

-- ---- a call of the house

-- a call that is a step
acts_here : (files_of : HouseReply → Writes) (command : HouseCommand) (reply : HouseReply)
    (new : Ledger) (held now : Option Files) (old : Option Ledger)
    (answer : Result SaidValue OutsideErr) → Says command reply answer
    → Modelled (Leaves (files_of reply) answer) held now
    → Acts answer (effect_by files_of command (reply, new)) (stores held old)
    (stores now (Some new))
acts_here files_of command reply new held now old (Ok said) says left = (
  says.1,
  ap (λ files. stores files (Some new))
      (told_map (written (files_of reply)) held now left),
)
acts_here files_of command reply new held now old (Err stop) says left = inr (refl, left)

-- a call that changed nothing
stopped_here : (files_of : HouseReply → Writes) (command : HouseCommand) (refusal : HouseErr)
    (effect : Effect) (held now : Option Files) (old new : Ledger) (stop : OutsideErr)
    → files_of (Refused refusal) ≡ [] → new ≡ old
    → Modelled (Leaves {T = SaidValue} (files_of (Refused refusal)) (Err stop)) held now
    → Acts (Err stop) effect (stores held (Some old)) (stores now (Some new))
stopped_here files_of command refusal effect held now old new stop none same left =
    inl (ap (λ files. stores files (Some new))
    (no_files_left SaidValue stop held now
    (subst (λ writes. Modelled (Leaves {T = SaidValue} writes (Err stop)) held now) none left))
    ∙ ap (λ ledger. stores held (Some ledger)) same)

call_acts : (files_of : HouseReply → Writes) (command : HouseCommand) (reply : HouseReply)
    (held now : Option Files) (old new : Ledger) (answer : Result SaidValue OutsideErr)
    → ((refusal : HouseErr) → files_of (Refused refusal) ≡ []) → HouseCall old command reply new
    → Says command reply answer → Modelled (Leaves (files_of reply) answer) held now
    → Acts answer (asked files_of old command) (stores held (Some old)) (stores now (Some new))
call_acts files_of command (Refused KeeperFailed) held now old new (Ok said) none call says left =
    absurd says.0
call_acts files_of command (Refused NoMemory) held now old new (Ok said) none call says left =
    absurd says.0
call_acts files_of command (Refused KeeperFailed) held now old new (Err stop) none call says left =
    stopped_here files_of command KeeperFailed (asked files_of old command) held now old new stop
    (none KeeperFailed) call left
call_acts files_of command (Refused NoMemory) held now old new (Err stop) none call says left =
    stopped_here files_of command NoMemory (asked files_of old command) held now old new stop
    (none NoMemory) call left
call_acts files_of command reply held now old new answer none call says left =
    subst (λ step. Acts answer (effect_by files_of command step) (stores held (Some old))
    (stores now (Some new))) (sym call)
    (acts_here files_of command reply new held now (Some old) answer says left)

-- a command that asked the house, and wrote the files of its reply
pub asked_acts : (files_of : HouseReply → Writes) (command : HouseCommand) (reply : HouseReply)
    (held now : Option Files) (old new : Option Ledger) (answer : Result SaidValue OutsideErr)
    → ((refusal : HouseErr) → files_of (Refused refusal) ≡ []) → MakesCall command reply old new
    → Says command reply answer → Modelled (Leaves (files_of reply) answer) held now
    → IfSome (on_ledger (λ kept. asked files_of kept command) old)
    (λ effect. Acts answer effect (stores held old) (stores now new))
asked_acts files_of command reply held now None new answer none calls says left = tt
asked_acts files_of command reply held now (Some old) None answer none calls says left =
    absurd calls
asked_acts files_of command reply held now (Some old) (Some new) answer none calls says left =
    call_acts files_of command reply held now old new answer none calls says left

-- no auction that is proved or answered is another one after a call
pub calls_keep : (command : HouseCommand) (reply : HouseReply) (old new : Option Ledger)
    → MakesCall command reply old new → Modelled KeepsAnswers old new
calls_keep command reply None new calls = calls
calls_keep command reply (Some old) None calls = absurd calls
calls_keep command reply (Some old) (Some new) calls = call_keeps old new command reply calls

-- a command that reads and writes no file, by what the house answered it
pub asks_alone : {K T : Type 0} {ledger_of : K → Option Ledger} {turns_of : K → Turns}
    {faults_of : K → ℕ} {old new : K}
    (gives : K → List ℕ → Result (Option Auction) OutsideErr → K → Type 0)
    (command : HouseCommand) (said : T → HouseReply) (given : Result T HouseErr)
    (answer : Result SaidValue OutsideErr)
    → CallsHouse ledger_of turns_of faults_of gives command said given old new
    → Says command (as_reply said given) answer
    → (Causes KeeperFailed given (faults_of old) (faults_of new)
    → Causes Failed answer (faults_of old) (faults_of new))
    → AsksAlone ledger_of turns_of faults_of (λ kept. asked no_file kept command) answer old new
asks_alone gives command said given answer calls says causes =
    record {
      acts = λ files. asked_acts no_file command (as_reply said given) files files _ _ answer
          (λ _. refl) calls.step says (leaves_same answer files);
      once = calls_keep command (as_reply said given) _ _ calls.step;
      turns = calls.turns;
      causes = causes calls.causes;
    }

-- ---- what was read before

-- it was read, which changed nothing, and the command went on by what it says
pub read_acts : {X : Type 0} (effect : Ledger → X → Effect) (read : Files → Result X SaidValue)
    (x : X) (held between now : Option Files) (old new : Option Ledger)
    (answer : Result SaidValue OutsideErr) → between ≡ held
    → IfSome held (λ files. Gives said_of_unread (λ x. x) (Ok x) (read files))
    → IfSome (on_ledger (λ kept. effect kept x) old)
    (λ whole. Acts answer whole (stores between old) (stores now new))
    → IfSome (on_both (λ files kept. if_read kept (effect kept) (read files)) held old)
    (λ whole. Acts answer whole (stores held old) (stores now new))
read_acts effect read x None between now old new answer same is acts = tt
read_acts effect read x (Some files) between now None new answer same is acts = tt
read_acts effect read x (Some files) between now (Some old) new answer same is acts =
    subst (λ r. Acts answer (if_read old (effect old) r) (stores (Some files) (Some old))
    (stores now new)) (sym is)
    (subst (λ left. Acts answer (effect old x) (stores left (Some old)) (stores now new)) same acts)
