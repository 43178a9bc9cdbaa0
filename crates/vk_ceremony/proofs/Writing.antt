-- No command of a script writes the script.
use Rattle.std.proofs.Common.{◌≡◌, ℕ, Bool, true, false, cond, not, if◌then◌else◌, List, [], ◌∷◌, Option, Some, None, IfSome, Result, Ok, Err, refl, sym, ap, subst, ◌∙◌}
use Rattle.std.specs.Prelude.{unwrap_or}
use Rattle.std.specs.FinMap.{get, insert}
use Rattle.std.specs.Option.{option_map_or}
use Rattle.std.specs.Str.{bytes_eq}
use Rattle.std.proofs.lemmas.Option.{same_Some}
use Rattle.std.proofs.lemmas.Slice.Eq.{bytes_eq-Decides}
use Rattle.vk_residue.specs.Steps.{◌>>?◌}
use Rattle.vk_io.specs.Files.{Files, bytes_of}
use Rattle.vk_io.specs.Writing.{written}
use Rattle.vk_io.proofs.Finite.{get_inserted}
use Rattle.vk_lines.specs.Tokens.{meets}
use Rattle.vk_reply.specs.declared.challenge.Challenge.{Challenge}
use Rattle.vk_keeper.specs.Ledgers.{Ledger}
use Rattle.vk_house.specs.Commands as house
use Rattle.vk_house.specs.Replies.{HouseReply, Work}
use Rattle.vk_house.specs.Steps.{house_step}
use Rattle.vk_words.specs.Commands.{house_words}
use Rattle.vk_words.specs.Orders.{HouseWords, Announce, AnnounceReserve, Submit, Prove, Answer, Show}
use Rattle.vk_words.specs.Scripts.{leaves_name, script_words, written_name_of}
use Rattle.vk_effect.specs.Effects.{Effect, SaidValue}
use Rattle.vk_auctioneer.specs.Effects.{Writes, asked, board_file, house_effect, if_read, no_file, reply_file}
use Rattle.vk_auctioneer.specs.Inputs.{challenge_in, row_in}

-- ---- the files that a command writes

-- they have no other name than this
abbrev pub OnlyWrites : Option (List ℕ) → Writes → Type 0
OnlyWrites name [] = Unit {0}
OnlyWrites name (file ∷ files) = (name ≡ Some file.0) × OnlyWrites name files

board_writes : (board : List ℕ) (reply : HouseReply)
    → OnlyWrites (Some board) (board_file board reply)
board_writes board (Work auction sale) = (refl, tt)
board_writes board reply = tt

reply_writes : (name : List ℕ) (challenge : Challenge) (reply : HouseReply)
    → OnlyWrites (Some name) (reply_file name challenge reply)
reply_writes name challenge (Work auction sale) = (refl, tt)
reply_writes name challenge reply = tt

read_writes : {X : Type 0} (name : Option (List ℕ)) (ledger : Ledger) (effect : X → Effect)
    (read : Result X SaidValue) → ((x : X) → OnlyWrites name (effect x).writes)
    → OnlyWrites name (if_read ledger effect read).writes
read_writes name ledger effect (Ok x) each = each x
read_writes name ledger effect (Err said) each = tt

command_writes : (files : Option Files) (ledger : Option Ledger) (order : HouseWords)
    → IfSome (house_effect files ledger order)
    (λ effect. OnlyWrites (written_name_of order) effect.writes)
command_writes files None (Announce id width lanes) = tt
command_writes files (Some ledger) (Announce id width lanes) = tt
command_writes files None (AnnounceReserve id width lanes reserve) = tt
command_writes files (Some ledger) (AnnounceReserve id width lanes reserve) = tt
command_writes None ledger (Submit id seal secret) = tt
command_writes (Some files) None (Submit id seal secret) = tt
command_writes (Some files) (Some ledger) (Submit id seal secret) =
    read_writes None ledger (λ row. asked no_file ledger (house.Submit id row.seal row.secret))
    (row_in files seal secret) (λ row. tt)
command_writes files None (Prove id seed board) = tt
command_writes files (Some ledger) (Prove id seed board) =
    board_writes board (house_step ledger (house.Prove id seed)).0
command_writes None ledger (Answer id challenge reply) = tt
command_writes (Some files) None (Answer id challenge reply) = tt
command_writes (Some files) (Some ledger) (Answer id challenge reply) =
    read_writes (Some reply) ledger
    (λ given. asked (reply_file reply given) ledger (house.Answer id given))
    (challenge_in files challenge)
    (λ given. reply_writes reply given (house_step ledger (house.Answer id given)).0)
command_writes files None (Show id) = tt
command_writes files (Some ledger) (Show id) = tt

-- ---- the file of another name

-- a name that a command doesn't write
abbrev pub IsOther : List ℕ → Option (List ℕ) → Type 0
IsOther name None = Unit {0}
IsOther name (Some other) = bytes_eq other name ≡ false

other_name : (name other : List ℕ) (test : Bool) → bytes_eq name other ≡ test
    → bytes_eq other name ≡ false → test ≡ false
other_name name other true is differs =
    let same = (bytes_eq-Decides other name).1 (sym ((bytes_eq-Decides name other).0 is)) in
    let no : true ≡ false = sym same ∙ differs in
    cc
other_name name other false is differs = refl

pub insert_leaves : (files : Files) (name other text : List ℕ) → bytes_eq other name ≡ false
    → bytes_of (insert files other text) name ≡ bytes_of files name
insert_leaves files name other text differs =
    let test : bytes_eq name other ≡ false =
    other_name name other (bytes_eq name other) refl differs in
    ap (λ (found : Option (List ℕ)). unwrap_or found [])
    (get_inserted files other text name
    ∙ ap (λ same. cond same (Some text) (get files name)) test)

pub writes_leave : (files : Files) (name : List ℕ) (only : Option (List ℕ)) (writes : Writes)
    → OnlyWrites only writes → IsOther name only
    → bytes_of (written writes files) name ≡ bytes_of files name
writes_leave files name only [] all other = refl
writes_leave files name only (file ∷ writes) all other =
    writes_leave (insert files file.0 file.1) name only writes all.1 other
    ∙ insert_leaves files name file.0 file.1 (subst (IsOther name) all.0 other)

-- ---- a command of a script

pub not_true : (test : Bool) → not test ≡ true → test ≡ false
not_true true is = cc
not_true false is = refl

leaves_other : (name : List ℕ) (order : HouseWords) (only : Option (List ℕ))
    → only ≡ written_name_of order
    → not (option_map_or (λ written. bytes_eq written name) only false) ≡ true → IsOther name only
leaves_other name order None is leaves = tt
leaves_other name order (Some other) is leaves = not_true (bytes_eq other name) leaves

met_shows : (name : List ℕ) (other order : HouseWords) (test : Bool) → leaves_name name other ≡ test
    → (if test then Some other else None) ≡ Some order → leaves_name name order ≡ true
met_shows name other order true is same = ap (leaves_name name) (sym (same_Some other order same))
    ∙ is
met_shows name other order false is same = cc

meets_shows : (name : List ℕ) (found : Option HouseWords) (order : HouseWords)
    → (found >>? meets (leaves_name name)) ≡ Some order → leaves_name name order ≡ true
meets_shows name None order is = cc
meets_shows name (Some other) order is = met_shows name other order (leaves_name name other) refl is

pub order_leaves : (name : List ℕ) (words : List (List ℕ)) (order : HouseWords)
    → script_words name words ≡ Some order → IsOther name (written_name_of order)
unfolding script_words
order_leaves name words order is =
    leaves_other name order (written_name_of order) refl
    (meets_shows name (house_words words) order is)

effect_writes : (files : Option Files) (ledger : Option Ledger) (order : HouseWords)
    (effect : Effect) → house_effect files ledger order ≡ Some effect
    → OnlyWrites (written_name_of order) effect.writes
effect_writes files ledger order effect is =
    subst (λ o. IfSome o (λ e. OnlyWrites (written_name_of order) e.writes)) is
    (command_writes files ledger order)

-- the script's bytes stay
pub command_leaves : (name : List ℕ) (words : List (List ℕ)) (order : HouseWords)
    (held : Option Files) (ledger : Option Ledger) (effect : Effect) (files : Files)
    → script_words name words ≡ Some order → house_effect held ledger order ≡ Some effect
    → bytes_of (written effect.writes files) name ≡ bytes_of files name
command_leaves name words order held ledger effect files is told =
    writes_leave files name (written_name_of order) effect.writes
    (effect_writes held ledger order effect told) (order_leaves name words order is)
