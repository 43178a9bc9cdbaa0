use Rattle.std.proofs.Common.{ℕ, List, ◌≡◌, ◌<◌, ◌++◌, sym, ap, ◌∙◌, subst, arith}
use Rattle.vk_range.specs.Sets.{joined}
use Rattle.vk_range.specs.Ranged.{ranged_values}
use Rattle.vk_matching.specs.Eithers.{IsEitherAtLeast, either_values}
use Rattle.vk_matching.specs.EitherLaws.{either_for, either_behind, values_within}
use Rattle.vk_matching.specs.Blocks.{block_pushed}
use Rattle.vk_matching.specs.MatchingPlans.{pair_count, size_of, rank_ranges, either_at}
use Rattle.vk_matching.specs.MatchingLaws.{matching_filled, pair_true, values_fit, values_whole}
use Rattle.vk_matching.specs.Circuits.{inputs_of, numbers_of}
use Rattle.vk_matching.proofs.circuit.MatchingPlanCircuit.fill.Goals as goal

pub ranged_values-requires : goal.ranged_values-requires
ranged_values-requires c =
    let s = c.args.self.now in
    rw c.in_ok-ranges.ensures (matching_filled (inputs_of s) (numbers_of s) s.in_limits
    c.args.inputs.now c.requires)

pub fill-requires-clause-fits : goal.fill-requires-clause-fits
fill-requires-clause-fits c =
    let s = c.args.self.now in
    let pair = c.loop-pair.pair in
    let before = ranged_values c.args.inputs.now (rank_ranges (inputs_of s) (numbers_of s)) in
    let own : ℕ → List ℕ = λ k. either_values (either_at (inputs_of s) (numbers_of s) k) before in
    let inside : pair < pair_count (size_of (numbers_of s)) = omega arith in
    rw (c.either.ensures, c.loop-pair.invariant)
    (either_for (either_at (inputs_of s) (numbers_of s) pair) before (joined own pair)
    (values_fit (inputs_of s) (numbers_of s) s.in_limits c.args.inputs.now c.requires pair inside))

pub fill-requires-clause-true_of : goal.fill-requires-clause-true_of
fill-requires-clause-true_of c =
    let s = c.args.self.now in
    let pair = c.loop-pair.pair in
    let ranks = c.args.inputs.now in
    let before = ranged_values ranks (rank_ranges (inputs_of s) (numbers_of s)) in
    let own : ℕ → List ℕ = λ k. either_values (either_at (inputs_of s) (numbers_of s) k) before in
    let inside : pair < pair_count (size_of (numbers_of s)) = omega arith in
    let relation = either_at (inputs_of s) (numbers_of s) pair in
    subst (λ r. IsEitherAtLeast r c.loop-pair.values.items) (sym c.either.ensures)
    (subst (IsEitherAtLeast relation) (sym c.loop-pair.invariant)
    (either_behind relation before (joined own pair)
    (values_fit (inputs_of s) (numbers_of s) s.in_limits ranks c.requires pair inside)
    (pair_true (inputs_of s) (numbers_of s) s.in_limits ranks c.requires pair inside)))

pub loop-pair-preserved : goal.loop-pair-preserved
loop-pair-preserved c =
    let s = c.args.self.now in
    let pair = c.loop-pair.pair in
    let ranks = c.args.inputs.now in
    let now = c.loop-pair.values.items in
    let relation = either_at (inputs_of s) (numbers_of s) pair in
    let before = ranged_values ranks (rank_ranges (inputs_of s) (numbers_of s)) in
    let own : ℕ → List ℕ = λ k. either_values (either_at (inputs_of s) (numbers_of s) k) before in
    let inside : pair < pair_count (size_of (numbers_of s)) = omega arith in
    block_pushed before own now c.fill.new.values.items (either_values relation now) pair
    c.loop-pair.invariant
    (rw c.either.ensures at c.in_ok-fill.ensures.filled)
    (ap (either_values relation) c.loop-pair.invariant
    ∙ values_within relation before (joined own pair)
    (values_fit (inputs_of s) (numbers_of s) s.in_limits ranks c.requires pair inside))

pub returns : goal.returns
returns c =
    let s = c.args.self.now in
    let before = ranged_values c.args.inputs.now (rank_ranges (inputs_of s) (numbers_of s)) in
    let own : ℕ → List ℕ = λ k. either_values (either_at (inputs_of s) (numbers_of s) k) before in
    let all : c.loop-pair.pair ≡ pair_count (size_of (numbers_of s)) = omega arith in
    c.loop-pair.invariant ∙ ap (λ n. before ++ joined own n) all
    ∙ sym (values_whole (inputs_of s) (numbers_of s) c.args.inputs.now)
