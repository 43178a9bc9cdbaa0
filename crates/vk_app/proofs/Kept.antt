-- What a whole run keeps of its promises on the house, on a ceremony, on a seal, and on words of no
-- form.
use Rattle.std.proofs.Common.{ap, sym, ◌∙◌, ◌≡◌, ◌≢◌, ℕ, List, Option, Some, None, IfSome, IsSomeAnd, Result, Ok, Err, refl, subst, inl, inr, ◌^◌, length, false, ◌≤◌}
use Rattle.std.specs.Prelude.{◌⊎◌, option_map}
use Rattle.std.specs.FinMap.{get}
use Rattle.std.proofs.lemmas.Option.{same_Some}
use Rattle.vk_residue.specs.Steps.{◌>>=◌}
use Rattle.vk_io.specs.declared.errors.OutsideErr.{OutsideErr}
use Rattle.vk_io.specs.Files.{Files, Modelled}
use Rattle.vk_lines.specs.Forms.{fault_line}
use Rattle.vk_lines.specs.Lines.{Rest, line_by}
use Rattle.vk_lines.specs.Tokens.{word_of}
use Rattle.vk_keeper.specs.Ledgers.{Ledger}
use Rattle.vk_words.specs.Coins.{CoinWords}
use Rattle.vk_words.specs.Commands.{Coin, CommandWords, House, Seal, command_words}
use Rattle.vk_words.specs.Orders.{SealWords}
use Rattle.vk_effect.specs.Effects.{Effect, Outside, outside, says, stores, SaidValue, IsSaid}
use Rattle.vk_effect.specs.Ends.{Done}
use Rattle.vk_effect.specs.NamedFiles.{missing_said, too_long_said}
use Rattle.vk_effect.specs.Reading.{begun_in, from_first}
use Rattle.vk_effect.proofs.NamedFiles.{begun_long, begun_short, same_Err}
use Rattle.vk_auctioneer.proofs.Leaving.{ended_stopped}
use Rattle.vk_ceremony.specs.Acts.{PerformsAll}
use Rattle.vk_ceremony.specs.Ceremonies.{Ceremony, EndsAll, ceremony_behind, ceremony_on, closed, closing_said}
use Rattle.vk_ceremony.specs.Forms.{fault_by, script_table}
use Rattle.vk_ceremony.specs.Leaving.{LeavesAnswered}
use Rattle.vk_ceremony.specs.Runs.{orders_behind, orders_in}
use Rattle.vk_ceremony.specs.Scripts.{behind_heading, heading, script_begun}
use Rattle.vk_ceremony.proofs.Agreeing.{script_fault}
use Rattle.vk_app.proofs.Saying.{closes_behind}
use Rattle.vk_ceremony.proofs.Performing.{ceremony_performs_all}
use Rattle.vk_coins.specs.Deeds.{coin_on}
use Rattle.vk_coins.specs.Meaning.{MakesChallenge}
use Rattle.vk_coins.proofs.Made.{makes}
use Rattle.vk_app.specs.Commands.{Command, CommandEndsFreely, EndsWork, Script, script_in, usage_said, work_of, work_on}
use Rattle.vk_app.specs.Promises.{CeremonyIsDone, CommandLeaves, CommandLeft, CommandStops, HoldsCeremony, KeepsHouse, LeavesBy, StopsBy, TellsUsage, WorkLeft, closing_behind}
use Rattle.vk_app.specs.Sealing.{Seals, seal_effect, seal_on}
use Rattle.vk_app.proofs.Sealing.{seals}
use Rattle.vk_app.proofs.Served.{command_done, serves}

pub neither : (P : Type 0) (status : ℕ) → (status ≡ 6) ⊎ (status ≡ 9) → status ≢ 6 → status ≢ 9 → P
neither P status (inl failed) no_fault no_want = absurd (no_fault failed)
neither P status (inr wanting) no_fault no_want = absurd (no_want wanting)

-- ---- what a ceremony says for its script

-- a script by what its file is
begun_script : (files : Files) (script : List ℕ) (begun : Result Rest SaidValue)
    → begun_in script (get files script) ≡ begun
    → script_begun files script
    ≡ (begun >>= λ rest. behind_heading script (line_by (word_of heading) rest))
unfolding script_begun
begun_script files script begun is =
    ap (λ b. b >>= λ rest. behind_heading script (line_by (word_of heading) rest)) is

held_script : (files : Files) (script file : List ℕ) → get files script ≡ Some file
    → length file ≤ 2 ^ 30 → script_begun files script
    ≡ behind_heading script (line_by (word_of heading) (from_first file))
held_script files script file is short =
    begun_script files script (Ok (from_first file))
    (ap (begun_in script) is ∙ begun_short script file short)

of_some : {X : Type 0} (P : X → Type 0) (found : Option X) (x : X) → found ≡ Some x
    → IsSomeAnd found P → P x
of_some P found x is told = subst (λ f. IsSomeAnd f P) is told

-- by its acts, and by the fault line of its file
closes_so : (files : Files) (ledger : Ledger) (script file : List ℕ) (whole : Ceremony)
    (taken : Option (List ℕ)) (new : Outside)
    (acts : PerformsAll (orders_in files script) files ledger whole.closing.text taken new)
    → get files script ≡ Some file → length file ≤ 2 ^ 30
    → ceremony_on (Some files) (Some ledger) script ≡ Some whole
    → whole.closing
    ≡ closing_behind (closing_said script (fault_line (script_table script) file)) false acts.acts
closes_so files ledger script file whole taken new acts is short at =
    let read = line_by (word_of heading) (from_first file) in
    let begun = held_script files script file is short in
    subst (λ fault. whole.closing ≡ closing_behind (closing_said script fault) false acts.acts)
    (sym (script_fault script file))
    (of_some
    (λ one. one.closing
    ≡ closing_behind (closing_said script (fault_by script read)) false acts.acts)
    (ceremony_behind script (stores (Some files) (Some ledger)) (behind_heading script read)) whole
    (ap (ceremony_behind script (stores (Some files) (Some ledger))) (sym begun) ∙ at)
    (closes_behind script read acts.acts acts.later files ledger acts.files_left acts.ledger_left
    (ap (orders_behind script) (sym begun) ∙ acts.orders_are) acts.followed acts.done))

module _ (files : Files) (ledger : Ledger) (words : List (List ℕ)) (status : ℕ) (old : Option (List ℕ)) (new : Outside) where
  abbrev EndsSo : Result ℕ OutsideErr → Option CommandWords → Type 0
  EndsSo result command = IfSome (work_of (Some files) (Some ledger) command)
      (λ work. EndsWork result work (outside (stores (Some files) (Some ledger)) old) new)

  -- ---- at its end

  abbrev EndsFree : Result ℕ OutsideErr → Type 0
  EndsFree result = CommandEndsFreely (command_words words) result
      (outside (stores (Some files) (Some ledger)) old) new

  pub ended_house : EndsSo (Ok status) (command_words words) → EndsFree (Ok status)
      → KeepsHouse files ledger words status new.files new.ledger old new.taken
  ended_house ends free = record {
    serves = serves files ledger (Ok status) old new words ends free;
    command = λ order is _ _. command_done files ledger order status old new
        (subst (EndsSo (Ok status)) is ends);
  }

  -- a script that can't be read
  closed_by : (script : List ℕ) (said : SaidValue) (begun : Result Rest SaidValue)
      (whole : Ceremony) → begun ≡ Err said
      → ceremony_behind script (stores (Some files) (Some ledger)) begun ≡ Some whole
      → EndsAll (Ok status) whole (outside (stores (Some files) (Some ledger)) old) new
      → IsSaid said status old new.taken
  closed_by script said (Ok rest) whole is at ends = cc
  closed_by script said (Err other) whole is at ends =
      let here : closed said ≡ whole = ap closed (sym (same_Err {T = Rest} other said is))
      ∙ same_Some (closed other) whole at in
      let end : EndsAll (Ok status) (closed said) (outside (stores (Some files) (Some ledger)) old)
      new = subst (λ w. EndsAll (Ok status) w (outside (stores (Some files) (Some ledger)) old)
      new) (sym here) ends in
      (end.0, ap (λ (left : Outside). left.taken) end.1)

  unread_script : (script : List ℕ) (said : SaidValue) (file : Option (List ℕ))
      → get files script ≡ file → begun_in script file ≡ Err said
      → script_begun files script ≡ Err said
  unread_script script said file is unread =
      begun_script files script (Err said) (ap (begun_in script) is ∙ unread)

  held_by : (script : List ℕ) (found : Option Ceremony)
      → ceremony_on (Some files) (Some ledger) script ≡ found
      → IfSome (option_map Script found)
      (λ work. EndsWork (Ok status) work (outside (stores (Some files) (Some ledger)) old) new)
      → IsSomeAnd found (λ whole. EndsAll (Ok status) whole
      (outside (stores (Some files) (Some ledger)) old) new
      → PerformsAll (orders_in files script) files ledger whole.closing.text old new)
      → CeremonyIsDone script files ledger status new.files new.ledger old new.taken
  held_by script None is ends performs = absurd performs
  held_by script (Some whole) is ends performs = record {
    whole = whole;
    is = is;
    status_is = ends.0;
    acts = performs ends;
    missing = λ none. closed_by script (missing_said script) (script_begun files script) whole
        (unread_script script (missing_said script) None none refl) is ends;
    too_long = λ file held long. closed_by script (too_long_said script) (script_begun files script)
        whole (unread_script script (too_long_said script) (Some file) held
        (begun_long script file long)) is ends;
    closing = λ file held short. closes_so files ledger script file whole old new (performs ends)
        held short is;
  }

  pub ended_ceremony : EndsSo (Ok status) (command_words words)
      → HoldsCeremony files ledger words status new.files new.ledger old new.taken
  ended_ceremony ends script is _ _ =
      held_by script (ceremony_on (Some files) (Some ledger) script) refl
      (subst (EndsSo (Ok status)) is ends)
      (ceremony_performs_all files ledger script old status new)

  -- ---- after a stop

  pub stopped_house : (stop : OutsideErr) → EndsSo (Err stop) (command_words words)
      → EndsFree (Err stop) → (status ≡ 6) ⊎ (status ≡ 9)
      → KeepsHouse files ledger words status new.files new.ledger old new.taken
  stopped_house stop ends free is = record {
    serves = serves files ledger (Err stop) old new words ends free;
    command = λ order asks. neither _ status is;
  }

-- ---- as far as it is modelled

-- what follows where files and a ledger are modelled
told_both : (P : Files → Ledger → Type 0) (Q : Option Files → Option Ledger → Type 0)
    → ((files : Files) (ledger : Ledger) → Q (Some files) (Some ledger) → P files ledger)
    → (held : Option Files) (ledger : Option Ledger) → Q held ledger
    → IfSome held (λ files. IfSome ledger (λ kept. P files kept))
told_both P Q each None ledger is = tt
told_both P Q each (Some files) None is = tt
told_both P Q each (Some files) (Some ledger) is = each files ledger is

module _ (held : Option Files) (ledger : Option Ledger) (words : List (List ℕ)) (status : ℕ) (old : Option (List ℕ)) (new : Outside) where
  abbrev pub Ends : Result ℕ OutsideErr → Option Files → Option Ledger → Type 0
  Ends result files kept = IfSome (work_on files kept words)
      (λ work. EndsWork result work (outside (stores files kept) old) new)

  -- and it ended freely where it has no single effect
  abbrev pub AlsoFree : Result ℕ OutsideErr → Option Files → Option Ledger → Type 0
  AlsoFree result files kept = Ends result files kept
      × CommandEndsFreely (command_words words) result (outside (stores files kept) old) new

  pub told_house : Ends (Ok status) held ledger
      → CommandEndsFreely (command_words words) (Ok status) (outside (stores held ledger) old) new
      → IfSome held (λ files. IfSome ledger
      (λ kept. KeepsHouse files kept words status new.files new.ledger old new.taken))
  told_house ends free =
      told_both (λ files kept. KeepsHouse files kept words status new.files new.ledger old
      new.taken) (AlsoFree (Ok status))
      (λ files kept is. ended_house files kept words status old new is.0 is.1) held ledger
      (ends, free)

  pub told_ceremony : Ends (Ok status) held ledger
      → IfSome held (λ files. IfSome ledger
      (λ kept. HoldsCeremony files kept words status new.files new.ledger old new.taken))
  told_ceremony = told_both (λ files kept. HoldsCeremony files kept words status new.files
      new.ledger old new.taken) (Ends (Ok status))
      (λ files kept. ended_ceremony files kept words status old new) held ledger

  -- where the status is that of words of no form only where the words are of none
  pub told_usage : Ends (Ok status) held ledger → (status ≡ 2 → command_words words ≡ None)
      → TellsUsage words status old new.taken
  told_usage ends only = record {
    only = only;
    always = λ is _ _. (let done : Done status (says ledger usage_said)
        (outside (stores held ledger) old) new =
        subst (λ command. IfSome (work_of held ledger command)
        (λ work. EndsWork (Ok status) work (outside (stores held ledger) old) new)) is ends
        in (done.status_is, done.taken_is));
  }

  pub unended_house : (stop : OutsideErr) → (status ≡ 6) ⊎ (status ≡ 9)
      → AlsoFree (Err stop) held ledger
      → IfSome held (λ files. IfSome ledger
      (λ kept. KeepsHouse files kept words status new.files new.ledger old new.taken))
  unended_house stop is =
      told_both (λ files kept. KeepsHouse files kept words status new.files new.ledger old
      new.taken) (AlsoFree (Err stop))
      (λ files kept ends. stopped_house files kept words status old new stop ends.0 ends.1 is)
      held ledger

  of_command : (found : Option Effect)
      → IfSome (option_map Command found)
      (λ work. EndsWork (Ok status) work (outside (stores held ledger) old) new)
      → IfSome found (λ effect. Done status effect (outside (stores held ledger) old) new)
  of_command None ends = tt
  of_command (Some effect) ends = ends

  sealed_by : (order : SealWords)
      → IfSome (work_of held ledger (Some (Seal order)))
      (λ work. EndsWork (Ok status) work (outside (stores held ledger) old) new)
      → Done status (seal_effect ledger order) (outside (stores held ledger) old) new
  unfolding seal_on
  sealed_by order ends = ends

  pub told_seal : Ends (Ok status) held ledger → (order : SealWords)
      → command_words words ≡ Some (Seal order) → status ≢ 6 → status ≢ 9
      → Seals order held new.files status old new.taken
  told_seal ends order is _ _ =
      seals order ledger held status old new
      (sealed_by order (subst (λ found. IfSome (work_of held ledger found)
      (λ work. EndsWork (Ok status) work (outside (stores held ledger) old) new)) is ends))

  pub told_coin : Ends (Ok status) held ledger → (order : CoinWords)
      → command_words words ≡ Some (Coin order) → status ≢ 6 → status ≢ 9
      → MakesChallenge order held new.files status old new.taken
  told_coin ends order is _ _ =
      makes ledger status old new held order
      (of_command (coin_on held ledger order)
      (subst (λ found. IfSome (work_of held ledger found)
      (λ work. EndsWork (Ok status) work (outside (stores held ledger) old) new)) is ends))

-- ---- the files

-- a single command was stopped before it printed
pub acting_left : (command : Option CommandWords) (stop other : OutsideErr)
    (held now : Option Files) → None ≡ script_in command → CommandLeft command (Err other) held now
    → WorkLeft command (Err stop) held now
acting_left command stop other held now none left =
    subst (λ script. StopsBy script command held now) none left

printed : (command : Option CommandWords) (status : ℕ) (held now : Option Files)
    → CommandLeaves command status held now → CommandStops command held now
printed (Some (House order)) status None now left = left
printed (Some (House order)) status (Some old) None left = absurd left
printed (Some (House order)) status (Some old) (Some new) left =
    ended_stopped order status old new left
printed command status held now left = tt

-- or while it printed, where it left what it leaves that ends
pub printing_left : (command : Option CommandWords) (said : SaidValue) (stop : OutsideErr)
    (held now : Option Files) → None ≡ script_in command → CommandLeft command (Ok said) held now
    → WorkLeft command (Err stop) held now
printing_left command said stop held now none left =
    subst (λ script. StopsBy script command held now) none
    (printed command said.status held now left)

-- a ceremony ended, or it was stopped
pub script_left : (command : Option CommandWords) (script : List ℕ) (status : ℕ)
    (held now : Option Files) → Some script ≡ script_in command
    → Modelled (LeavesAnswered script (Ok status)) held now
    → WorkLeft command (Ok status) held now
script_left command script status held now is left =
    subst (λ name. LeavesBy name command status held now) is left

pub script_stopped : (command : Option CommandWords) (script : List ℕ) (stop other : OutsideErr)
    (held now : Option Files) → Some script ≡ script_in command
    → Modelled (LeavesAnswered script (Err other)) held now
    → WorkLeft command (Err stop) held now
script_stopped command script stop other held now is left =
    subst (λ name. StopsBy name command held now) is left
