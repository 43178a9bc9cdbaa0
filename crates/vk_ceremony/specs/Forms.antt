-- The form of a script: its texts, and what may stand next.
use Rattle.std.specs.Prelude.{◌≡◌, ℕ, ◌≤◌, ◌==◌, ◌&&◌, Bool, true, false, not, List, ◌++◌, length, map, codes, Option, Some, None, option_map, Result, Ok, Err, IsSome}
use Rattle.std.specs.List.{AllByRecursion, flat_map, list_all}
use Rattle.std.specs.Str.{is_utf8}
use Rattle.vk_lines.specs.Forms.{Table, line, spaced}
use Rattle.vk_lines.specs.Lines.{Rest}
use Rattle.vk_lines.specs.Tokens.{word_of}
use Rattle.vk_words.specs.Scripts.{script_words}
use Rattle.vk_ceremony.specs.Scripts.{ScriptLine, Order, Over, heading, heading_at, script_at, script_line}

-- ---- its texts

-- the text of a script of these commands, each given by its words
unfoldable pub script_text : List (List (List ℕ)) → List ℕ
script_text orders = line heading ++ flat_map (λ words. line (spaced words)) orders
    ++ line (codes "end")

-- neither a space nor a line feed stands in a word
abbrev pub is_apart : List ℕ → Bool
is_apart word = list_all (λ byte. not (byte == 32) && not (byte == 10)) word

-- words that may stand in the script of that name
pub record IsOrder (script : List ℕ) (words : List (List ℕ)) : Type 0 where
  pub order : IsSome (script_words script words)
  pub apart : list_all is_apart words ≡ true
  pub utf8 : is_utf8 (spaced words) ≡ true
  pub short : length (spaced words) ≤ 255

abbrev pub AreOrders : List ℕ → List (List (List ℕ)) → Type 0
AreOrders script orders = AllByRecursion (IsOrder script) orders

-- ---- what may stand next

pub data ScriptPlace : Type 0 where
  Heading : ScriptPlace
  Commands : ScriptPlace
  Ended : ScriptPlace

abbrev pub is_ended : ScriptPlace → Bool
is_ended Ended = true
is_ended _ = false

abbrev pub place_after : ScriptLine → ScriptPlace
place_after (Order order) = Commands
place_after Over = Ended

abbrev pub next_in : List ℕ → ScriptPlace → List ℕ → Option ScriptPlace
next_in script Heading text = option_map (λ _. Commands) (word_of heading text)
next_in script Commands text = option_map place_after (script_line script text)
next_in script Ended text = None

abbrev pub script_table : List ℕ → Table ScriptPlace
script_table script = record { first = Heading; next = next_in script; over = is_ended }

-- ---- the fault line

-- the fault line of a script, by the first line that was read, and by what is said behind it
abbrev pub fault_by : List ℕ → Result (Unit × Rest) ℕ → Option ℕ
fault_by script (Ok read) = (script_at script read.1).fault
fault_by script (Err number) = Some number

-- a script is the text of these commands, and says them behind its first line
abbrev pub SaysOrders : List ℕ → List (List (List ℕ)) → Rest → Type 0
SaysOrders script orders start =
    (rest : Rest) × (heading_at start ≡ Ok (tt, rest))
    × ((script_at script rest).fault ≡ None)
    × (map Some (script_at script rest).orders ≡ map (script_words script) orders)
