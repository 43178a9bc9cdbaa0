use Rattle.std.proofs.Common.{◌<◌, All, sym, ◌∙◌, subst, arith}
use Rattle.std.proofs.lemmas.List.{take_rest}
use Rattle.vk_uniform.specs.Outcomes.{IsPositionAmong, IsAscending}
use Rattle.vk_uniform.specs.UniformPlans.{price_of}
use Rattle.vk_uniform.proofs.numbers.are_in_limits.Goals as goal

pub returns-then-are_positions : goal.returns-then-are_positions
returns-then-are_positions c =
    let numbers = c.args.numbers.now in
    let rest = take_rest numbers 2 in (
      λ ascend. record {
        some_inputs = omega arith;
        most_inputs = omega arith;
        enough = omega arith;
        wide = record { least = omega arith; most = omega arith };
        within_width =
            subst (λ n. price_of numbers < n) (c.get.ensures.value ∙ c.pow2.ensures)
            c.if-numbers-get.false;
        are_positions =
            subst (All (IsPositionAmong c.args.inputs)) rest
            (c.are_positions.ensures.0 c.if-are_positions.true);
        ascending = subst IsAscending rest (c.ascend.ensures.0 ascend);
      },
      λ limits. c.ascend.ensures.1 (subst IsAscending (sym rest) limits.ascending),
    )
