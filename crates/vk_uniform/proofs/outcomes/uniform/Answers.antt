use Rattle.std.proofs.Common.{◌≡◌, ◌+◌, length, slice_index, ◌∙◌, arith}
use Rattle.std.proofs.lemmas.List.{get_or_default}
use Rattle.std.proofs.lemmas.List.Edits.{length-remove}
use Rattle.vk_range.specs.SetLaws.{length_listed}
use Rattle.vk_uniform.specs.OutcomeLaws.{IsWeakest, all_win, without_weakest, outcome_is_one}
use Rattle.vk_uniform.proofs.outcomes.uniform.Goals as goal

pub loop-taken-init : goal.loop-taken-init
loop-taken-init c =
    let bids = c.args.bids.now in
    rw c.in_ok-winners.ensures
    (all_win bids, omega (arith, length_listed (λ place. place + 1) (length bids)))

pub loop-taken-preserved : goal.loop-taken-preserved
loop-taken-preserved c =
    let winners = c.loop-taken.winners.items in
    let place = c.weakest-place.result in
    let weakest : IsWeakest c.args.bids.now winners (length winners) place =
    rw c.as_slice.ensures.value at c.weakest-place.ensures.weakest in
    let removed = c.remove-position in
    let read : removed.result ≡ slice_index winners place =
    removed.ensures.value ∙ get_or_default winners place removed.result 0 weakest.is_place in
    rw (removed.ensures.items, read) (
      without_weakest c.args.bids.now winners c.loop-taken.price place c.loop-taken.invariant.0
          weakest,
      omega (arith, c.loop-taken.invariant.1, length-remove winners place weakest.is_place),
    )

pub returns-clause-no_other : goal.returns-clause-no_other
returns-clause-no_other c = λ winners price is same.
    rw c.from_vec.ensures
    (outcome_is_one c.args.bids.now winners c.loop-taken.winners.items price c.loop-taken.price is
    c.loop-taken.invariant.0
    (omega (arith, same, c.loop-taken.invariant.1, c.loop-taken-test.false)))
