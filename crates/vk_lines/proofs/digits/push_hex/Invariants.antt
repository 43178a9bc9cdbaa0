use Rattle.std.proofs.Common.{◌≡◌, ◌++◌, ◌-◌, ◌≤◌, length, take}
use Rattle.vk_lines.specs.Tokens.{hex_text}
use Rattle.vk_lines.proofs.digits.push_hex.Given as goal

abbrev pub invariant-loop-written : goal.invariant-loop-written
invariant-loop-written l = record {
  start : l.before ≡ length l.fn.out.items;
  within : l.written ≤ length l.bytes;
  digits : l.out.items ≡ l.fn.out.items ++ hex_text (take l.written l.bytes);
}

abbrev pub decreases-loop-written : goal.decreases-loop-written
decreases-loop-written l = length l.bytes - l.written
