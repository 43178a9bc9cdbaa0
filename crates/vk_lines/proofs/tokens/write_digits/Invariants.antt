use Rattle.std.proofs.Common.{◌≡◌, ◌≤◌, ◌++◌, length, drop, decimal}
use Rattle.vk_lines.proofs.tokens.write_digits.Given as goal

-- the digits that are written are the last ones of the number, and there is room for the others
abbrev pub invariant-loop-rest : goal.invariant-loop-rest
invariant-loop-rest l = record {
  room : length (decimal l.rest) ≤ l.start;
  within : l.start ≤ 20;
  less : l.rest ≤ l.number;
  written : decimal l.rest ++ drop l.start l.digits ≡ decimal l.number;
}

abbrev pub decreases-loop-rest : goal.decreases-loop-rest
decreases-loop-rest l = l.rest
