-- The lines of a script.
use Rattle.std.specs.Prelude.{ℕ, Bool, false, not, if◌then◌else◌, List, Option, Some, None}
use Rattle.std.specs.Option.{option_map_or}
use Rattle.std.specs.Str.{bytes_eq, is_utf8}
use Rattle.vk_residue.specs.Steps.{◌>>?◌}
use Rattle.vk_lines.specs.Tokens.{fields_of, meets}
use Rattle.vk_words.specs.Commands.{house_words}
use Rattle.vk_words.specs.Orders.{HouseWords, Prove, Answer}

-- the name of the file that a command of the house writes
abbrev pub written_name_of : HouseWords → Option (List ℕ)
written_name_of (Prove id seed board) = Some board
written_name_of (Answer id challenge reply) = Some reply
written_name_of order = None

-- it writes no file of that name
abbrev pub leaves_name : List ℕ → HouseWords → Bool
leaves_name name order = not (option_map_or (λ written. bytes_eq written name)
    (written_name_of order) false)

-- the command that words are in the script of that name, which no command writes
unfoldable pub script_words : List ℕ → List (List ℕ) → Option HouseWords
script_words script words = house_words words >>? meets (leaves_name script)

-- the words of a line: its pieces between single spaces, where it is UTF-8
abbrev pub line_words : List ℕ → Option (List (List ℕ))
line_words line = if is_utf8 line then Some (fields_of line) else None
