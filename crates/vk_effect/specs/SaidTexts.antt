-- The text that is said.
use Rattle.std.specs.Prelude.{ℕ, List, string_bytes}
use Rattle.std.specs.List.{flat_map}
use Rattle.vk_effect.specs.declared.said.SaidText.{SaidText}
use Rattle.vk_effect.specs.declared.said.SaidText.TheVariants.{Lines, Short}

-- the lines one after another, or the one line
abbrev pub said_text : SaidText → List ℕ
said_text (Lines lines) = flat_map string_bytes lines.items
said_text (Short line) = line
