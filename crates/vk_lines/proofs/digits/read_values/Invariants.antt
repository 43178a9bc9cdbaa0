use Rattle.std.proofs.Common.{◌≡◌, ℕ, ◌<◌, ◌≤◌, length, slice_index, None}
use Rattle.vk_lines.specs.Tokens.{hex_of, digit_value}
use Rattle.vk_lines.proofs.digits.read_values.Given as goal

-- the values so far are those of the digits so far, and none is greater than the greatest
abbrev pub invariant-loop-index : goal.invariant-loop-index
invariant-loop-index l = record {
  size : length l.values ≡ length l.text;
  values : (k : ℕ) → k < l.index → slice_index l.values k ≡ digit_value (slice_index l.text k);
  below : (k : ℕ) → k < l.index → slice_index l.values k ≤ l.greatest;
  none : 15 < l.greatest → (count : ℕ) → hex_of count l.text ≡ None;
}
