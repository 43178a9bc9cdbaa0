-- What the commands of the house do, where nothing outside fails and memory is given.
use Rattle.std.specs.Prelude.{ℕ, List, [], ◌∷◌, Option, Some, option_map, option_and_then, Result, Ok, Err}
use Rattle.vk_io.specs.Files.{Files}
use Rattle.vk_reply.specs.declared.challenge.Challenge.{Challenge}
use Rattle.vk_keeper.specs.Ledgers.{Ledger}
use Rattle.vk_job.specs.Published.{board_of, reply_of}
use Rattle.vk_house.specs.Commands.{HouseCommand}
use Rattle.vk_house.specs.Commands as house
use Rattle.vk_house.specs.Replies.{HouseReply, Work}
use Rattle.vk_house.specs.Steps.{house_step}
use Rattle.vk_effect.specs.Effects.{Effect, SaidValue, says, writes_and_says}
use Rattle.vk_words.specs.Orders.{HouseWords, Announce, AnnounceReserve, Submit, Prove, Answer, Show}
use Rattle.vk_auctioneer.specs.Inputs.{challenge_in, row_in}
use Rattle.vk_auctioneer.specs.Lines.{reply_said}

-- ---- what is asked, and what is written

-- names and whole texts of files
abbrev pub Writes : Type 0
Writes = List (List ℕ × List ℕ)

abbrev pub no_file : HouseReply → Writes
no_file reply = []

-- the board of the auction that there is work on
abbrev pub board_file : List ℕ → HouseReply → Writes
board_file name (Work auction sale) = (name, board_of auction) ∷ []
board_file name _ = []

-- its reply to the challenge
abbrev pub reply_file : List ℕ → Challenge → HouseReply → Writes
reply_file name challenge (Work auction sale) = (name, reply_of auction challenge) ∷ []
reply_file name challenge _ = []

-- the effect of a reply and of the ledger that is left with it
abbrev pub effect_by : (HouseReply → Writes) → HouseCommand → HouseReply × Ledger → Effect
effect_by written command step =
    writes_and_says (Some step.1) (written step.0) (reply_said command step.0)

-- the effect of asking a house this: its reply is said, and files are written of it
abbrev pub asked : (HouseReply → Writes) → Ledger → HouseCommand → Effect
asked written ledger command = effect_by written command (house_step ledger command)

-- the effect by what was read; or that of saying why it wasn't
abbrev pub if_read : {X : Type 0} → Ledger → (X → Effect) → Result X SaidValue → Effect
if_read ledger effect (Ok x) = effect x
if_read ledger effect (Err said) = says (Some ledger) said

-- ---- the commands

abbrev pub announce_effect : Ledger → (id : List ℕ) (width lanes : ℕ) → Effect
announce_effect ledger id width lanes = asked no_file ledger (house.Announce id width lanes)

abbrev pub announce_reserve_effect : Ledger → (id : List ℕ) (width lanes reserve : ℕ) → Effect
announce_reserve_effect ledger id width lanes reserve =
    asked no_file ledger (house.AnnounceReserve id width lanes reserve)

abbrev pub submit_effect : Files → Ledger → (id seal secret : List ℕ) → Effect
submit_effect files ledger id seal secret =
    if_read ledger (λ row. asked no_file ledger (house.Submit id row.seal row.secret))
    (row_in files seal secret)

abbrev pub prove_effect : Ledger → (id seed board : List ℕ) → Effect
prove_effect ledger id seed board = asked (board_file board) ledger (house.Prove id seed)

abbrev pub answer_effect : Files → Ledger → (id challenge reply : List ℕ) → Effect
answer_effect files ledger id challenge reply =
    if_read ledger (λ given. asked (reply_file reply given) ledger (house.Answer id given))
    (challenge_in files challenge)

abbrev pub show_effect : Ledger → List ℕ → Effect
show_effect ledger id = asked no_file ledger (house.Show id)

-- ---- as far as the outside is modelled

-- the effect is known where the ledger is modelled
abbrev pub on_ledger : (Ledger → Effect) → Option Ledger → Option Effect
on_ledger effect ledger = option_map effect ledger

-- the effect of a command that reads is known where the files are modelled too
abbrev pub on_both : (Files → Ledger → Effect) → Option Files → Option Ledger → Option Effect
on_both effect files ledger = option_and_then (λ held. on_ledger (effect held) ledger) files

-- the effect of a command of the house
abbrev pub house_effect : Option Files → Option Ledger → HouseWords → Option Effect
house_effect files ledger (Announce id width lanes) =
    on_ledger (λ kept. announce_effect kept id width lanes) ledger
house_effect files ledger (AnnounceReserve id width lanes reserve) =
    on_ledger (λ kept. announce_reserve_effect kept id width lanes reserve) ledger
house_effect files ledger (Submit id seal secret) =
    on_both (λ held kept. submit_effect held kept id seal secret) files ledger
house_effect files ledger (Prove id seed board) =
    on_ledger (λ kept. prove_effect kept id seed board) ledger
house_effect files ledger (Answer id challenge reply) =
    on_both (λ held kept. answer_effect held kept id challenge reply) files ledger
house_effect files ledger (Show id) = on_ledger (λ kept. show_effect kept id) ledger
