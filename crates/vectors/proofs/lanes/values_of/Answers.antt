use Rattle.std.proofs.Common.{◌≡◌, ◌∙◌, arith}
use Rattle.vk_vickrey.specs.VickreyPlans.{IsVickreyClaim}
use Rattle.vk_vickrey.specs.VickreyLaws.{vickrey_complete}
use Rattle.vectors.proofs.lanes.values_of.Goals as goal

pub returns : goal.returns
returns c =
    let circuit = c.args.circuit.now in
    let bids = c.args.bids.now in
    let inputs : c.as_slice.result.now ≡ bids = c.as_slice.ensures.value
    ∙ c.in_ok-inputs.ensures.same in
    let position : c.outcome-outcome.result.position ≡ circuit.position = omega arith in
    let price : c.outcome-outcome.result.price ≡ circuit.price = omega arith in
    let claim : IsVickreyClaim circuit.seals circuit.width circuit.position circuit.price bids =
    record {
      one_each = omega arith;
      within_width = c.in_ok-inputs.ensures.within;
      outcome = rw (position, price) at c.outcome-outcome.ensures.outcome;
    } in
    rw (c.in_ok-values.ensures.filled, inputs)
    (vickrey_complete circuit.seals circuit.width circuit.position circuit.price bids
    circuit.in_limits claim)
