-- What a script says, line by line.
use Rattle.std.specs.Prelude.{ℕ, ◌+◌, ◌==◌, nat_lt, if◌then◌else◌, List, [], ◌∷◌, length, codes, Option, Some, None, option_map, Result, Ok, Err}
use Rattle.std.specs.FinMap.{get}
use Rattle.std.specs.List.{slice_split}
use Rattle.std.specs.Str.{bytes_eq}
use Rattle.vk_residue.specs.Steps.{◌>>=◌, ◌>>?◌}
use Rattle.vk_io.specs.Files.{Files}
use Rattle.vk_lines.specs.Lines.{Rest, line_by}
use Rattle.vk_lines.specs.Tokens.{word_of}
use Rattle.vk_words.specs.Orders.{HouseWords}
use Rattle.vk_words.specs.Scripts.{line_words, script_words}
use Rattle.vk_effect.specs.Effects.{SaidValue}
use Rattle.vk_effect.specs.NamedFiles.{malformed_said}
use Rattle.vk_effect.specs.Reading.{begun_in}

-- the first line of a script, and that line read
abbrev pub heading : List ℕ
heading = codes "vickrey-script 1"

abbrev pub heading_at : Rest → Result (Unit × Rest) ℕ
heading_at = line_by (word_of heading)

-- a line behind the first: a command, or the last line
pub data ScriptLine : Type 0 where
  Order : HouseWords → ScriptLine
  Over : ScriptLine

-- the command of a line in the script of that name
abbrev pub order_line : List ℕ → List ℕ → Option HouseWords
order_line script line = line_words line >>? script_words script

-- what a line behind the first says in the script of that name, where it may stand in it
abbrev pub script_line : List ℕ → List ℕ → Option ScriptLine
script_line script line = if bytes_eq line (codes "end") then Some Over
    else option_map Order (order_line script line)

-- what a script says behind its first line: the commands of its lines up to the first that is none,
-- and that line's number; None where it is `end` and nothing stands after it
pub record Script : Type 0 where
  pub orders : List HouseWords
  pub fault : Option ℕ

-- no command more
abbrev pub closes : Option ℕ → Script
closes fault = record { orders = []; fault = fault }

-- this command, and then those
abbrev pub with_order : HouseWords → Script → Script
with_order order later = record { orders = order ∷ later.orders; fault = later.fault }

-- ---- by the pieces between line feeds, of which the last is no line

-- the number of the line that stands after `end`, None where no byte does
abbrev pub over_from : ℕ → List (List ℕ) → Option ℕ
over_from taken (last ∷ []) = if length last == 0 then None else Some (taken + 1)
over_from taken pieces = Some (taken + 1)

-- by what a line says, the number of which is `taken`; and by what is said, and what stands, after
-- it
abbrev pub line_then : Option ScriptLine → ℕ → Script → Option ℕ → Script
line_then (Some (Order order)) taken later over = with_order order later
line_then (Some Over) taken later over = closes over
line_then None taken later over = closes (Some taken)

-- what a script of that name says, of which so many lines were taken
abbrev pub script_from : List ℕ → ℕ → List (List ℕ) → Script
script_from script taken [] = closes (Some (taken + 1))
script_from script taken (last ∷ []) = closes (Some (taken + 1))
script_from script taken (text ∷ piece ∷ more) =
    if nat_lt (length text) 256
    then line_then (script_line script text) (taken + 1)
    (script_from script (taken + 1) (piece ∷ more)) (over_from (taken + 1) (piece ∷ more))
    else closes (Some (taken + 1))

abbrev pub pieces : List ℕ → List (List ℕ)
pieces left = slice_split (λ byte. byte == 10) left

-- the same of what is left of the script
unfoldable pub script_at : List ℕ → Rest → Script
script_at script rest = script_from script rest.taken (pieces rest.left)

unfoldable pub over_at : Rest → Option ℕ
over_at rest = over_from rest.taken (pieces rest.left)

-- what is left behind the first line, where that is the heading
abbrev pub behind_heading : List ℕ → Result (Unit × Rest) ℕ → Result Rest SaidValue
behind_heading script (Ok read) = Ok read.1
behind_heading script (Err number) = Err (malformed_said script number)

-- the script of that name behind its first line; or what is said where it isn't held, is too long,
-- or begins otherwise
unfoldable pub script_begun : Files → List ℕ → Result Rest SaidValue
script_begun files script = ◌>>=◌ (begun_in script (get files script))
    (λ file. behind_heading script (heading_at file))
