use Rattle.std.proofs.Common.{refl, rules, subst, ◌∙◌}
use Rattle.vk_matching.specs.Stability.{IsStable}
use Rattle.vk_claims.specs.Claims.{couples}
use Rattle.vk_claims.proofs.numbers.matching_of.Goals as goal

pub returns : goal.returns
returns c = record {
  may = record {
    matching = c.in_ok-matching.matching.items;
    permutation = c.in_ok-matching.ensures.permutation;
    stable = subst (λ ranks. IsStable couples ranks c.in_ok-matching.matching.items)
        c.as_slice.ensures c.in_ok-matching.ensures.stable;
    numbers_are = c.in_ok-numbers.ensures ∙ rw (c.from.ensures, c.as_slice-2.ensures.value) refl;
  };
  wanting = search rules;
}
