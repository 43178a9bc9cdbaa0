use Rattle.std.proofs.Common.{◌≡◌, ◌*◌, ◌++◌, length, take, drop}
use Rattle.vk_lines.specs.Tokens.{hex_text}
use Rattle.vk_lines.proofs.digits.write_hex.Given as goal

-- the digits so far, and those of what is left
abbrev pub invariant-loop-index : goal.invariant-loop-index
invariant-loop-index l = record {
  room : length l.text ≡ 2 * length l.bytes;
  digits : take (2 * l.index) l.text ++ hex_text (drop l.index l.bytes) ≡ hex_text l.bytes;
}
