-- One turn of a ceremony: what is left of it is what the turn did, and what is left then.
use Rattle.std.proofs.Common.{◌≡◌, ℕ, zero, Bool, true, false, ◌||◌, if◌then◌else◌, List, [], ◌∷◌, Option, Some, None, IfSome, Result, Ok, Err, map, option_map, refl, sym, ap, subst, ◌∙◌, inl, append-nil, arith}
use Rattle.std.specs.Prelude.{IsSomeAnd, option_and_then}
use Rattle.vk_io.specs.Files.{Files, Modelled, bytes_of}
use Rattle.vk_io.specs.Writing.{written}
use Rattle.vk_io.specs.declared.errors.OutsideErr.{OutsideErr}
use Rattle.vk_lines.specs.Lines.{LinesValue, rest_in, rest_of}
use Rattle.vk_keeper.specs.Ledgers.{Ledger}
use Rattle.vk_effect.specs.Effects.{Effect, Outside, after, done, outside, puts, stores}
use Rattle.vk_effect.specs.Ends.{Done, Ends, Stopped, TakesPrefix}
use Rattle.vk_effect.specs.Sequences.{StopsAmong}
use Rattle.vk_effect.proofs.Sequences.{done_is}
use Rattle.vk_words.specs.Orders.{HouseWords}
use Rattle.vk_words.specs.Scripts.{script_words}
use Rattle.vk_auctioneer.specs.Effects.{house_effect}
use Rattle.vk_ceremony.specs.declared.reading.Line.{Line}
use Rattle.vk_ceremony.specs.declared.holding.Turn.{Turn}
use Rattle.vk_ceremony.specs.declared.holding.Turn.TheVariants.{Next, Ended}
use Rattle.vk_ceremony.specs.Scripts.{Script, closes, over_at, script_at}
use Rattle.vk_ceremony.specs.Ceremonies.{Ceremony, EndsAll, EndsSaying, EndsSome, after_command, ceremony_by, closed, closing_said, ended_by, goes_on, is_refusal, with_command}
use Rattle.vk_ceremony.specs.Turns.{Stands, Turns, TurnsSome, left_of, order_then, stores_of, turn_by}
use Rattle.vk_ceremony.proofs.Taking.{number_of}
use Rattle.vk_ceremony.proofs.Writing.{command_leaves}

-- ---- nothing was done

none_taken : (text : List ℕ) (taken : Option (List ℕ)) → Modelled (TakesPrefix text) taken taken
none_taken text None = refl
none_taken text (Some before) = (zero, omega arith, sym (append-nil before))

stopped_at_once : (effects : List Effect) (closing : List ℕ) (old : Outside)
    → StopsAmong effects closing old old
stopped_at_once [] closing old =
    record { files_are = refl; ledger_is = refl; taken_is = none_taken closing old.taken }
stopped_at_once (effect ∷ effects) closing old = inl (inl refl)

-- a ceremony was stopped where nothing changed
pub stopped_here : (whole : Ceremony) (stop : OutsideErr) (held now : Option Files)
    (ledger : Option Ledger) (taken : Option (List ℕ)) → now ≡ held
    → EndsAll (Err stop) whole (outside (stores held ledger) taken)
    (outside (stores now ledger) taken)
stopped_here whole stop held now ledger taken same =
    subst (λ files. EndsAll (Err stop) whole (outside (stores held ledger) taken)
    (outside (stores files ledger) taken)) (sym same)
    (stopped_at_once whole.commands whole.closing.text _)

pub left_stopped : (left : Option Ceremony) (stop : OutsideErr) (held now : Option Files)
    (ledger : Option Ledger) (taken : Option (List ℕ)) → now ≡ held
    → EndsSome left (Err stop) (outside (stores held ledger) taken)
    (outside (stores now ledger) taken)
left_stopped None stop held now ledger taken same = tt
left_stopped (Some whole) stop held now ledger taken same =
    stopped_here whole stop held now ledger taken same

-- ---- what was read

pub line_told : (script : List ℕ) (held : Option Files) (before lines : LinesValue)
    (line other : Line) → line ≡ other
    → IfSome held (λ files. (name : List ℕ)
    → Stands name line (rest_of before files) (rest_of lines files))
    → IfSome held (λ files. Stands script other (rest_of before files) (rest_of lines files))
line_told script None before lines line other same told = tt
line_told script (Some files) before lines line other same told =
    subst (λ l. Stands script l (rest_of before files) (rest_of lines files)) same (told script)

-- what is found of the words of a line is found of them as a slice
pub words_found : {S : Type 0} (script : List ℕ) (bytes : S → List ℕ) (slice words : List S)
    (found : Option HouseWords) → found ≡ script_words script (map bytes slice) → slice ≡ words
    → found ≡ script_words script (map bytes words)
words_found script bytes slice words found is same =
    is ∙ ap (λ items. script_words script (map bytes items)) same

-- words that are no command
pub none_told : (script : List ℕ) (held : Option Files) (before lines : LinesValue)
    (words : List (List ℕ)) (number : ℕ) → None ≡ script_words script words → number ≡ lines.taken
    → IfSome held (λ files. script_at script (rest_of before files)
    ≡ order_then script (script_words script words) (rest_of lines files))
    → IfSome held (λ files. script_at script (rest_of before files) ≡ closes (Some number))
none_told script None before lines words number none count told = tt
none_told script (Some files) before lines words number none count told =
    told ∙ ap (λ o. order_then script o (rest_of lines files)) (sym none)
    ∙ ap (λ n. closes (Some n)) (number_of files lines ∙ sym count)

-- the line `end`
pub end_told : (script : List ℕ) (held now : Option Files) (before lines : LinesValue)
    (fault : Option ℕ) → now ≡ held
    → IfSome held (λ files. script_at script (rest_of before files)
    ≡ closes (over_at (rest_of lines files)))
    → IfSome now (λ files. fault ≡ over_at (rest_of lines files))
    → IfSome held (λ files. script_at script (rest_of before files) ≡ closes fault)
end_told script None now before lines fault same told over = tt
end_told script (Some files) now before lines fault same told over =
    told ∙ ap closes (sym (subst
    (λ left. IfSome left (λ held. fault ≡ over_at (rest_of lines held))) same over))

-- ---- the end of a script

-- no command is left, and what is said of the script was printed
pub left_closed : (script : List ℕ) (refused : Bool) (lines : LinesValue) (held now : Option Files)
    (ledger : Option Ledger) (taken then_ : Option (List ℕ)) (fault : Option ℕ)
    (answer : Result ℕ OutsideErr) → now ≡ held
    → IfSome held (λ files. script_at script (rest_of lines files) ≡ closes fault)
    → EndsSaying (closing_said script fault refused) answer taken then_
    → EndsSome (left_of script refused lines (stores held ledger)) answer
    (outside (stores held ledger) taken) (outside (stores now ledger) then_)
left_closed script refused lines None now ledger taken then_ fault answer same is ends = tt
left_closed script refused lines (Some files) now ledger taken then_ fault answer same is ends =
    let P : Script → Type 0 = λ said.
    IfSome (ceremony_by script refused said (stores (Some files) ledger))
    (λ whole. EndsAll answer whole (outside (stores (Some files) ledger) taken)
    (outside (stores now ledger) then_)) in
    subst P (sym is) (subst (λ left. EndsAll answer (closed (closing_said script fault refused))
    (outside (stores (Some files) ledger) taken) (outside (stores left ledger) then_))
    (sym same) (ends (stores (Some files) ledger)))

-- ---- a command

-- what a turn comes to, by what the command came to
abbrev pub turned : Bool → Result ℕ OutsideErr → Result Turn OutsideErr
turned refused (Ok status) = Ok (turn_by refused status)
turned refused (Err stop) = Err stop

puts_none : (taken : Option (List ℕ)) → puts [] taken ≡ taken
puts_none None = refl
puts_none (Some before) = ap Some (append-nil before)

-- the command was done, and the ceremony ended by its status
command_ended : (effect : Effect) (status : ℕ) (old new : Outside) → Done status effect old new
    → EndsAll (Ok status) (ended_by effect) old new
command_ended effect status old new is = (
  is.status_is,
  done_is status effect old new is
      ∙ ap (λ taken. record {
        files = (done effect old).files;
        ledger = effect.ledger;
        taken = taken;
      }) (sym (puts_none (puts effect.text old.taken))),
)

-- the reader stands where it stood
pub rest_stays : (script : List ℕ) (lines : LinesValue) (files other : Files) → lines.name ≡ script
    → bytes_of other script ≡ bytes_of files script → rest_of lines other ≡ rest_of lines files
unfolding rest_of
rest_stays script lines files other named same =
    ap (rest_in lines) (subst (λ name. bytes_of other name ≡ bytes_of files name) (sym named) same)

module _ (script : List ℕ) (lines : LinesValue) (effect : Effect) (old new : Outside) where
  -- the command was stopped, whatever would have come after it
  command_stopped : (later : Option Ceremony) (test : Bool) (stop : OutsideErr)
      → Stopped effect old new
      → IfSome (if test then option_map (with_command effect) later else Some (ended_by effect))
      (λ whole. Turns script lines (Err stop) whole old new)
  command_stopped None true stop stopped = tt
  command_stopped (Some later) true stop stopped = inl stopped
  command_stopped later false stop stopped = inl stopped

  -- it was done, and the ceremony goes on
  command_done : (refused : Bool) (later : Option Ceremony) (status : ℕ)
      → Done status effect old new
      → left_of script (refused || is_refusal status) lines (stores_of new) ≡ later
      → IfSome (option_map (with_command effect) later)
      (λ whole. Turns script lines (Ok (Next (refused || is_refusal status))) whole old new)
  command_done refused None status is left = tt
  command_done refused (Some later) status is left =
      subst (λ o. IsSomeAnd o (λ rest. (e : Effect)
      × (with_command effect later ≡ with_command e rest) × (new ≡ done e old))) (sym left)
      (effect, refl, done_is status effect old new is)

  turn_of : (refused : Bool) (later : Option Ceremony) (test : Bool) (status : ℕ)
      → Done status effect old new
      → left_of script (refused || is_refusal status) lines (stores_of new) ≡ later
      → IfSome (if test then option_map (with_command effect) later else Some (ended_by effect))
      (λ whole. Turns script lines
      (Ok (if test then Next (refused || is_refusal status) else Ended status)) whole old new)
  turn_of refused later true status is left = command_done refused later status is left
  turn_of refused later false status is left = command_ended effect status old new is

-- a line was taken whose words are this command
module _ (script : List ℕ) (words : List (List ℕ)) (order : HouseWords) (refused : Bool)
    (lines : LinesValue) (files : Files) (ledger : Option Ledger) (taken : Option (List ℕ))
    (new : Outside) (named : lines.name ≡ script) (is : script_words script words ≡ Some order) where
  abbrev old : Outside
  old = outside (stores (Some files) ledger) taken

  -- what is left of the ceremony after it
  abbrev left_by : Effect → Option Ceremony
  left_by effect =
      ceremony_by script (refused || is_refusal effect.status)
      (script_at script (rest_of lines files)) (after effect (stores (Some files) ledger))

  left_after : (effect : Effect) (status : ℕ)
      → house_effect (Some files) ledger order ≡ Some effect → Done status effect old new
      → left_of script (refused || is_refusal status) lines (stores_of new) ≡ left_by effect
  left_after effect status told done_so =
      ap (λ n. left_of script (refused || is_refusal n) lines (stores_of new)) done_so.status_is
      ∙ ap (λ (left : Outside). left_of script (refused || is_refusal effect.status) lines
      (stores_of left)) (done_is status effect old new done_so)
      ∙ ap (λ rest. ceremony_by script (refused || is_refusal effect.status)
      (script_at script rest) (after effect (stores (Some files) ledger)))
      (rest_stays script lines files (written effect.writes files) named
      (command_leaves script words order (Some files) ledger effect files is told))

  -- by the effect of the command
  effect_turned : (effect : Effect) (answer : Result ℕ OutsideErr)
      → house_effect (Some files) ledger order ≡ Some effect → Ends answer effect old new
      → IfSome (after_command effect (left_by effect))
      (λ whole. Turns script lines (turned refused answer) whole old new)
  effect_turned effect (Err stop) told ends =
      command_stopped script lines effect old new _ (goes_on effect.status) stop ends
  effect_turned effect (Ok status) told ends =
      subst (λ n. IfSome (if goes_on n then option_map (with_command effect) (left_by effect)
      else Some (ended_by effect))
      (λ whole. Turns script lines (Ok (turn_by refused status)) whole old new)) ends.status_is
      (turn_of script lines effect old new refused (left_by effect) (goes_on status) status ends
      (left_after effect status told ends))

  order_turned : (effect : Option Effect) (answer : Result ℕ OutsideErr)
      → house_effect (Some files) ledger order ≡ effect
      → IfSome effect (λ e. Ends answer e old new)
      → IfSome (option_and_then (λ e. after_command e (left_by e)) effect)
      (λ whole. Turns script lines (turned refused answer) whole old new)
  order_turned None answer told ends = tt
  order_turned (Some effect) answer told ends = effect_turned effect answer told ends

-- a line was taken, and its command was done or stopped
pub left_turned : (script : List ℕ) (words : List (List ℕ)) (order : HouseWords) (refused : Bool)
    (before lines : LinesValue) (held now : Option Files) (ledger : Option Ledger)
    (answer : Result ℕ OutsideErr) (taken : Option (List ℕ)) (new : Outside)
    → now ≡ held → lines.name ≡ script → Some order ≡ script_words script words
    → IfSome held (λ files. script_at script (rest_of before files)
    ≡ order_then script (script_words script words) (rest_of lines files))
    → IfSome (house_effect now ledger order)
    (λ effect. Ends answer effect (outside (stores now ledger) taken) new)
    → TurnsSome script lines (left_of script refused before (stores held ledger))
    (turned refused answer) (outside (stores held ledger) taken) new
left_turned script words order refused before lines None now ledger answer taken new same named is
    read ends = tt
left_turned script words order refused before lines (Some files) now ledger answer taken new same
    named is read ends =
    let P : Script → Type 0 = λ said.
    IfSome (ceremony_by script refused said (stores (Some files) ledger))
    (λ whole. Turns script lines (turned refused answer) whole
    (outside (stores (Some files) ledger) taken) new) in
    let here : IfSome (house_effect (Some files) ledger order)
    (λ effect. Ends answer effect (outside (stores (Some files) ledger) taken) new) =
    subst (λ left. IfSome (house_effect left ledger order)
    (λ effect. Ends answer effect (outside (stores left ledger) taken) new)) same ends in
    subst P (sym (read ∙ ap (λ o. order_then script o (rest_of lines files)) (sym is)))
    (order_turned script words order refused lines files ledger taken new named (sym is)
    (house_effect (Some files) ledger order) answer refl here)
