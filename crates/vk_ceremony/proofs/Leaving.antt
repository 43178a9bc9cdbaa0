-- What a ceremony leaves of the files, turn by turn, whether or not its keeper is modelled.
use Rattle.std.proofs.Common.{◌≡◌, ℕ, zero, suc, Bool, true, false, ◌||◌, if◌then◌else◌, List, [], ◌∷◌, Option, Some, None, IfSome, IfOk, Result, Ok, Err, refl, sym, ap, subst, ◌∙◌, inl, inr}
use Rattle.vk_io.specs.Files.{Files, Modelled, bytes_of}
use Rattle.vk_io.specs.declared.errors.OutsideErr.{OutsideErr}
use Rattle.vk_io.proofs.WritingLemmas.{told_chain, told_same}
use Rattle.vk_lines.specs.Gives.{Gives}
use Rattle.vk_lines.specs.Lines.{LinesValue, rest_of}
use Rattle.vk_effect.specs.declared.reading.Unread.{Unread}
use Rattle.vk_keeper.specs.Ledgers.{Ledger}
use Rattle.vk_effect.specs.Effects.{Outside, SaidValue, outside, stores}
use Rattle.vk_effect.specs.Ends.{Ends}
use Rattle.vk_effect.specs.Reading.{said_of_unread, said_or_stopped}
use Rattle.vk_words.specs.Orders.{HouseWords, Prove, Answer}
use Rattle.vk_words.specs.Scripts.{script_words, written_name_of}
use Rattle.vk_auctioneer.specs.Effects.{house_effect}
use Rattle.vk_auctioneer.specs.Leaving.{LeavesAsSaid, LeavesDone, LeavesFiles}
use Rattle.vk_auctioneer.proofs.Leaving.{ended_stopped}
use Rattle.vk_ceremony.specs.declared.holding.Turn.{Turn}
use Rattle.vk_ceremony.specs.declared.holding.Turn.TheVariants.{Next, Ended}
use Rattle.vk_ceremony.specs.Ceremonies.{EndsSaying, closing_said, goes_on, is_refusal}
use Rattle.vk_ceremony.specs.Leaving.{BehindLeaves, Continues, HoldLeaves, LeavesAnswered, OrderLeaves, OrdersStop, SaidLeaves, ScriptLeaves, TakesTurn, TurnLeaves}
use Rattle.vk_ceremony.specs.Runs.{orders_behind, orders_in}
use Rattle.vk_ceremony.specs.Scripts.{Script, closes, script_at, script_begun, with_order}
use Rattle.vk_ceremony.specs.Turns.{ClosesSaying, IsNextTurn, order_then}
use Rattle.vk_ceremony.proofs.Leading.{unread_said}
use Rattle.vk_ceremony.proofs.Turning.{left_closed, left_stopped, left_turned, rest_stays, turned}
use Rattle.vk_ceremony.proofs.Writing.{IsOther, insert_leaves, order_leaves}

-- where nothing changed
told_kept : (P : Files → Files → Type 0) → ((files : Files) → P files files)
    → (held now : Option Files)
    → now ≡ held → Modelled P held now
told_kept P same held now is = subst (Modelled P held) (sym is) (told_same P same held)

-- ---- the script's bytes stay

done_leaves : (script : List ℕ) (order : HouseWords) (files new : Files)
    → IsOther script (written_name_of order) → LeavesDone order files new
    → bytes_of new script ≡ bytes_of files script
done_leaves script (Prove id seed board) files new other left =
    ap (λ f. bytes_of f script) left.1.files_are ∙ insert_leaves files script board _ other
done_leaves script (Answer id challenge reply) files new other left =
    ap (λ f. bytes_of f script) left.1.1.files_are ∙ insert_leaves files script reply _ other
done_leaves script order files new other left = ap (λ f. bytes_of f script) left

ended_leaves : (script : List ℕ) (order : HouseWords) (status : ℕ) (files new : Files)
    → IsOther script (written_name_of order) → LeavesFiles order status files new
    → bytes_of new script ≡ bytes_of files script
ended_leaves script order zero files new other left =
    done_leaves script order files new other (left.done refl)
ended_leaves script order (suc n) files new other left =
    ap (λ f. bytes_of f script) (left.refused (λ is. cc))

-- ---- one turn

-- a command that was done or refused, and then what stands behind it
said_leaves : (script : List ℕ) (order : HouseWords) (refused : Bool) (said : Script) (status : ℕ)
    (answer : Result ℕ OutsideErr) (files new last : Files) → goes_on status ≡ true
    → LeavesFiles order status files new
    → SaidLeaves script (refused || is_refusal status) said answer new last
    → SaidLeaves script refused (with_order order said) answer files last
said_leaves script order refused said status (Ok ended) files new last goes left rest =
    (status, (new, left, inl (goes, rest)))
said_leaves script order refused said status (Err stop) files new last goes left rest =
    inr (status, (new, left, goes, rest))

-- nothing more was done
stays_so : (orders : List HouseWords) (files : Files) → OrdersStop orders files files
stays_so [] files = refl
stays_so (order ∷ orders) files = inl (inl refl)

-- a command ended, and what it says was stopped while it was printed
pub printing_left : (order : HouseWords) (said : SaidValue) (stop : OutsideErr)
    (held now : Option Files) → LeavesAsSaid order (Ok said) held now
    → Modelled (OrderLeaves order (Err stop)) held now
printing_left order said stop None now left = left
printing_left order said stop (Some old) None left = left
printing_left order said stop (Some old) (Some new) left =
    ended_stopped order said.status old new left

module _ (script : List ℕ) (refused : Bool) (before lines : LinesValue) where
  -- a command that ended with that status, and then the rest of the script, or nothing more
  command_leaves : (order : HouseWords) (status : ℕ) (files new : Files) (test : Bool)
      → goes_on status ≡ test → LeavesFiles order status files new
      → rest_of lines new ≡ rest_of lines files
      → script_at script (rest_of before files) ≡ with_order order
      (script_at script (rest_of lines files))
      → TurnLeaves script refused before lines
      (Ok (if test then Next (refused || is_refusal status) else Ended status)) files new
  command_leaves order status files new true goes left stays reads =
      λ answer last rest.
      subst (λ said. SaidLeaves script refused said answer files last) (sym reads)
      (said_leaves script order refused (script_at script (rest_of lines files)) status answer files
      new last goes left
      (subst (λ r. SaidLeaves script (refused || is_refusal status) (script_at script r) answer new
      last) stays rest))
  command_leaves order status files new false goes left stays reads =
      subst (λ said. ScriptLeaves script refused said status files new) (sym reads)
      (status, (new, left, inr (goes, refl, refl)))

  -- what was read before is that command and what stands behind it
  abbrev ReadsOrder : List (List ℕ) → Files → Type 0
  ReadsOrder words files =
      script_at script (rest_of before files)
      ≡ order_then script (script_words script words) (rest_of lines files)

  turn_leaves : (words : List (List ℕ)) (order : HouseWords) (files : Files) (now : Option Files)
      (answer : Result ℕ OutsideErr) → lines.name ≡ script
      → Some order ≡ script_words script words → ReadsOrder words files
      → Modelled (OrderLeaves order answer) (Some files) now
      → Modelled (TurnLeaves script refused before lines (turned refused answer)) (Some files) now
  turn_leaves words order files None answer named is reads left = absurd left
  turn_leaves words order files (Some new) (Err stop) named is reads left =
      subst (λ said. OrdersStop said.orders files new)
      (sym (reads ∙ ap (λ o. order_then script o (rest_of lines files)) (sym is))) (inl left)
  turn_leaves words order files (Some new) (Ok status) named is reads left =
      command_leaves order status files new (goes_on status) refl left
      (rest_stays script lines files new named
      (ended_leaves script order status files new (order_leaves script words order (sym is)) left))
      (reads ∙ ap (λ o. order_then script o (rest_of lines files)) (sym is))

  -- a line was taken, and its command came to this
  order_left : (words : List (List ℕ)) (order : HouseWords) (held between now : Option Files)
      (answer : Result ℕ OutsideErr) → between ≡ held → lines.name ≡ script
      → Some order ≡ script_words script words → IfSome held (ReadsOrder words)
      → Modelled (OrderLeaves order answer) between now
      → Modelled (TurnLeaves script refused before lines (turned refused answer)) held now
  order_left words order None between now answer same named is reads left =
      subst (λ files. Modelled (OrderLeaves order answer) files now) same left
  order_left words order (Some files) between now answer same named is reads left =
      turn_leaves words order files now answer named is reads
      (subst (λ held. Modelled (OrderLeaves order answer) held now) same left)

  -- it was stopped, and no file was written
  stop_left : (stop : OutsideErr) (held now : Option Files) → now ≡ held
      → Modelled (TurnLeaves script refused before lines (Err stop)) held now
  stop_left stop held now =
      told_kept (TurnLeaves script refused before lines (Err stop))
      (λ files. stays_so (script_at script (rest_of before files)).orders files) held now

  -- what is said of the script ended it
  close_left : (held now : Option Files) (taken then_ : Option (List ℕ)) (fault : Option ℕ)
      (status : ℕ) → now ≡ held
      → IfSome held (λ files. script_at script (rest_of before files) ≡ closes fault)
      → EndsSaying (closing_said script fault refused) (Ok status) taken then_
      → Modelled (TurnLeaves script refused before lines (Ok (Ended status))) held now
  close_left None now taken then_ fault status same is ends = same
  close_left (Some files) now taken then_ fault status same is ends =
      subst (λ left. Modelled (TurnLeaves script refused before lines (Ok (Ended status)))
      (Some files) left) (sym same)
      (subst (λ said. ScriptLeaves script refused said status files files) (sym is)
      ((ends (stores None None)).0, refl))

  -- ---- both of a turn

  -- it was stopped where nothing changed
  pub stopped_turn : (stop : OutsideErr) (held now : Option Files) (ledger : Option Ledger)
      (taken : Option (List ℕ)) → now ≡ held
      → TakesTurn script refused before lines (Err stop) (outside (stores held ledger) taken)
      (outside (stores now ledger) taken)
  stopped_turn stop held now ledger taken same = record {
    turns = left_stopped _ stop held now ledger taken same;
    files = stop_left stop held now same;
  }

  -- the script ended, and that was said of it
  pub closed_turn : (held now : Option Files) (ledger : Option Ledger)
      (taken then_ : Option (List ℕ)) (fault : Option ℕ) (turn : Result Turn OutsideErr)
      → now ≡ held → IfSome held (λ files. script_at script (rest_of before files) ≡ closes fault)
      → ClosesSaying (closing_said script fault refused) turn taken then_
      → TakesTurn script refused before lines turn (outside (stores held ledger) taken)
      (outside (stores now ledger) then_)
  closed_turn held now ledger taken then_ fault (Ok (Next again)) same is ends = absurd ends
  closed_turn held now ledger taken then_ fault (Ok (Ended status)) same is ends = record {
    turns = left_closed script refused before held now ledger taken then_ fault (Ok status) same is
        ends;
    files = close_left held now taken then_ fault status same is ends;
  }
  closed_turn held now ledger taken then_ fault (Err stop) same is ends = record {
    turns = left_closed script refused before held now ledger taken then_ fault (Err stop) same is
        ends;
    files = stop_left stop held now same;
  }

  -- a command of it was done, refused or stopped
  pub order_turn : (words : List (List ℕ)) (order : HouseWords) (held now : Option Files)
      (ledger : Option Ledger) (answer : Result ℕ OutsideErr) (taken : Option (List ℕ))
      (new : Outside) → now ≡ held → lines.name ≡ script → Some order ≡ script_words script words
      → IfSome held (ReadsOrder words)
      → IfSome (house_effect now ledger order)
      (λ effect. Ends answer effect (outside (stores now ledger) taken) new)
      → Modelled (OrderLeaves order answer) now new.files
      → TakesTurn script refused before lines (turned refused answer)
      (outside (stores held ledger) taken) new
  order_turn words order held now ledger answer taken new same named is reads ends left = record {
    turns = left_turned script words order refused before lines held now ledger answer taken new
        same named is reads ends;
    files = order_left words order held now new.files answer same named is reads left;
  }

-- a turn that is the last is none that another follows
pub last_turn : (turn : Result Turn OutsideErr) (P : Type 0)
    → IfOk turn (λ t. IsNextTurn t → ⊥) → IfOk turn (λ t. IsNextTurn t → P)
last_turn (Ok turn) P last = λ next. absurd (last next)
last_turn (Err stop) P last = tt

-- ---- turn by turn

pub leaves_itself : (script : List ℕ) (refused : Bool) (lines : LinesValue) (held : Option Files)
    → Modelled (Continues script refused lines refused lines) held held
leaves_itself script refused lines held =
    told_same (Continues script refused lines refused lines) (λ files answer last left. left) held

module _ (script : List ℕ) (start lines later : LinesValue) (refused : Bool) where
  pub leaves_on : (now : Bool) (turn : Turn) (old between new : Option Files) → turn ≡ Next now
      → Modelled (Continues script false start refused lines) old between
      → Modelled (TurnLeaves script refused lines later (Ok turn)) between new
      → Modelled (Continues script false start now later) old new
  leaves_on now turn old between new is =
      told_chain (Continues script false start refused lines)
      (TurnLeaves script refused lines later (Ok turn)) (Continues script false start now later)
      (λ first here last before turns. λ answer files left. before answer files
      ((subst (λ t. TurnLeaves script refused lines later (Ok t) here last) is turns) answer files
      left)) old between new

  pub leaves_to_end : (turn : Turn) (status : ℕ) (old between new : Option Files)
      → turn ≡ Ended status → Modelled (Continues script false start refused lines) old between
      → Modelled (TurnLeaves script refused lines later (Ok turn)) between new
      → Modelled (HoldLeaves script start (Ok status)) old new
  leaves_to_end turn status old between new is =
      told_chain (Continues script false start refused lines)
      (TurnLeaves script refused lines later (Ok turn)) (HoldLeaves script start (Ok status))
      (λ first here last before turns. before (Ok status) last
      (subst (λ t. TurnLeaves script refused lines later (Ok t) here last) is turns)) old between
      new

  pub leaves_to_stop : (stop other : OutsideErr) (old between new : Option Files)
      → Modelled (Continues script false start refused lines) old between
      → Modelled (TurnLeaves script refused lines later (Err stop)) between new
      → Modelled (HoldLeaves script start (Err other)) old new
  leaves_to_stop stop other old between new =
      told_chain (Continues script false start refused lines)
      (TurnLeaves script refused lines later (Err stop)) (HoldLeaves script start (Err other))
      (λ first here last before turns. before (Err other) last turns) old between new

-- ---- the whole ceremony

begun_by : (script : List ℕ) (lines : LinesValue) (answer : Result ℕ OutsideErr) (files : Files)
    (now : Option Files) → script_begun files script ≡ Ok (rest_of lines files)
    → Modelled (HoldLeaves script lines answer) (Some files) now
    → Modelled (LeavesAnswered script answer) (Some files) now
begun_by script lines answer files None is left = absurd left
begun_by script lines (Err stop) files (Some new) is left =
    subst (λ r. OrdersStop (orders_behind script r) files new) (sym is) left
begun_by script lines (Ok status) files (Some new) is left =
    subst (λ r. BehindLeaves script r status files new) (sym is) left

-- it wasn't
pub unread_left : (script : List ℕ) (unread : Unread) (said : SaidValue) (held now : Option Files)
    (taken then_ : Option (List ℕ)) (status : ℕ) → now ≡ held → Ok said ≡ said_or_stopped unread
    → IfSome held (λ files. Gives {T = LinesValue} said_of_unread (λ l. rest_of l files)
    (Err unread) (script_begun files script))
    → EndsSaying said (Ok status) taken then_
    → Modelled (LeavesAnswered script (Ok status)) held now
unread_left script unread said None now taken then_ status same is gives ends = same
unread_left script unread said (Some files) now taken then_ status same is gives ends =
    subst (λ left. Modelled (LeavesAnswered script (Ok status)) (Some files) left) (sym same)
    (subst (λ r. BehindLeaves script r status files files)
    (sym (unread_said script unread said files is gives)) ((ends (stores None None)).0, refl))

pub stopped_left : (script : List ℕ) (stop : OutsideErr) (held now : Option Files) → now ≡ held
    → Modelled (LeavesAnswered script (Err stop)) held now
stopped_left script stop held now =
    told_kept (LeavesAnswered script (Err stop)) (λ files. stays_so (orders_in files script) files)
    held now
