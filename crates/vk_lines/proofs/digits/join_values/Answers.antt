use Rattle.std.proofs.Common.{◌≡◌, ◌+◌, ◌*◌, arith, take, refl, sym, ap, ◌∙◌}
use Rattle.std.proofs.lemmas.List.{length-set, take_all}
use Rattle.vk_lines.specs.Tokens.{hex_text}
use Rattle.vk_lines.proofs.Hexadecimal.{hex_text_none, digits_more}
use Rattle.vk_lines.proofs.digits.join_values.Goals as goal

pub loop-index-init : goal.loop-index-init
loop-index-init c = record {
  long = c.requires;
  digits = λ text are. hex_text_none _ refl;
}

pub loop-index-preserved : goal.loop-index-preserved
loop-index-preserved c =
    let i = c.loop-index.index in
    record {
      long = c.loop-index.invariant.long ∙ ap (λ n. 2 * n) (sym (length-set _ _ _));
      digits = λ text are.
          let high = are.1 (2 * i) (omega (arith, are.0, c.loop-index.invariant.long)) in
          let low = are.1 (2 * i + 1) (omega (arith, are.0, c.loop-index.invariant.long)) in
          digits_more c.loop-index.bytes text i _ _ (omega arith)
          (omega (arith, are.0, c.loop-index.invariant.long)) high.0 low.0 high.1 low.1
          (c.loop-index.invariant.digits text are);
    }

pub returns : goal.returns
returns c = λ text are.
    let all = c.loop-index.index in
    let front : take all c.loop-index.bytes ≡ c.loop-index.bytes = take_all all _ (omega arith) in
    let whole : take (2 * all) text ≡ text =
    take_all (2 * all) text (omega (arith, are.0, c.loop-index.invariant.long)) in
    sym (ap hex_text front) ∙ c.loop-index.invariant.digits text are ∙ whole
