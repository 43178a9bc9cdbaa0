use Rattle.std.proofs.Common.{◌≡◌, ℕ, ◌*◌, List, take, length}
use Rattle.vk_lines.specs.Tokens.{AreDigits, hex_text}
use Rattle.vk_lines.proofs.digits.join_values.Given as goal

-- the text of the bytes so far is that of the values so far
abbrev pub invariant-loop-index : goal.invariant-loop-index
invariant-loop-index l = record {
  long : length l.values ≡ 2 * length l.bytes;
  digits : (text : List ℕ) → AreDigits text l.values
      → hex_text (take l.index l.bytes) ≡ take (2 * l.index) text;
}
