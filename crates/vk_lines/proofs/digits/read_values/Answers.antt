use Rattle.std.proofs.Common.{◌≤◌, arith, ◌∙◌}
use Rattle.std.proofs.lemmas.Grind.{common_steps}
use Rattle.std.proofs.lemmas.List.{length-set}
use Rattle.vk_lines.specs.Tokens.{digit_value}
use Rattle.vk_lines.proofs.Hexadecimal.{items_more, none_more}
use Rattle.vk_lines.proofs.digits.read_values.Goals as goal

pub loop-index-init : goal.loop-index-init
loop-index-init c = record {
  size = c.requires;
  values = λ k below. absurd (omega arith);
  below = λ k below. absurd (omega arith);
  none = λ great. absurd (omega arith);
}

pub loop-index-preserved : goal.loop-index-preserved
loop-index-preserved c = record {
  size = length-set _ _ _ ∙ c.loop-index.invariant.size;
  values = λ k below. items_more digit_value c.loop-index.values c.args.text.now c.loop-index.index
      k c.digit_value-value.result (omega arith) below (c.loop-index.invariant.values k)
      c.digit_value-value.ensures;
  below = λ k below. let before = c.loop-index.invariant.below k in
      let old : c.loop-index.greatest ≤ c.max-greatest.result = omega (arith, c.max-greatest.ensures) in
      let new : c.digit_value-value.result ≤ c.max-greatest.result =
      omega (arith, c.max-greatest.ensures) in
      grind (arith, common_steps);
  none = λ great count. none_more count c.args.text.now c.loop-index.index c.loop-index.greatest
      c.loop-index-test.true (λ count great. c.loop-index.invariant.none great count)
      (omega (arith, c.max-greatest.ensures, c.digit_value-value.ensures));
}
