use Rattle.std.proofs.Common.{◌≡◌, length, All}
use Rattle.vk_residue.specs.Residue.{IsResidue}
use Rattle.vk_plan_tests.proofs.tests.range.five_values.Given as goal

-- one residue for each number so far
abbrev pub invariant-loop-number : goal.invariant-loop-number
invariant-loop-number l = record {
  count : length l.values.items ≡ l.number-index;
  residues : All IsResidue l.values.items;
}
