use Rattle.std.proofs.Common.{◌≡◌, ℕ, ◌-◌, length, Err, rules, ap, arith, refl, subst}
use Rattle.vk_job.specs.Answers.{TapesAnswer}
use Rattle.vk_job.specs.Proofs.{source_with, tapes_in}
use Rattle.vk_job.proofs.Held.{have_tapes}
use Rattle.vk_prover.proofs.Wires.{inputs_within}
use Rattle.vk_sample_parts.specs.Auctions.{dry_of, of_job}
use Rattle.vk_sample_parts.proofs.Auctions.{all_rows}
use Rattle.vk_sample_parts.proofs.Rows.{bind_refuses}
use Rattle.vk_claims.proofs.Proofs.{tapes_pass, tapes_refuse}
use Rattle.vk_claims.specs.Claims.{proof_by, proof_unless_dry}
use Rattle.vk_claims.proofs.making.make_claim.Goals as goal

pub returns-in_err-rows-clause-proof : goal.returns-in_err-rows-clause-proof
unfolding proof_by
returns-in_err-rows-clause-proof c =
    let is : c.from_residual.result ≡ Err c.in_err-rows.field-0.0 = search rules in
    rw is (bind_refuses (dry_of c.in_err-rows.field-0.0) _
    (proof_unless_dry c.args.kind c.args.case.now c.args.numbers.now) c.in_err-rows.ensures)

pub overflow_sub-wires : goal.overflow_sub-wires
overflow_sub-wires c = omega (
  arith,
  c.wires.ensures.value,
  c.inputs.ensures.value,
  inputs_within c.in_ok-filled.filled.plan c.wires.ensures.plan,
)

pub draw_tapes-requires-clause-few : goal.draw_tapes-requires-clause-few
draw_tapes-requires-clause-few c =
    let all = all_rows c.args.case.now c.requires.right.right c.in_ok-rows.rows c.in_ok-rows.ensures
    in
    omega (
      arith,
      ap length c.as_slice.ensures,
      all.count,
      c.requires.right.right.few_seals,
      c.wires.ensures.value,
      c.wires.ensures.plan.wires,
    )

pub draw_tapes-requires-clause-secrets : goal.draw_tapes-requires-clause-secrets
draw_tapes-requires-clause-secrets c =
    let case = c.args.case.now in
    let all = all_rows case c.requires.right.right c.in_ok-rows.rows c.in_ok-rows.ensures in
    rw (c.as_slice.ensures)
    (have_tapes case.auction case.width case.lanes c.in_ok-rows.rows all.right)

pub returns-in_err-tapes-clause-proof : goal.returns-in_err-tapes-clause-proof
returns-in_err-tapes-clause-proof c =
    let case = c.args.case.now in
    let refused = c.in_err-tapes.field-0.0 in
    let further : ℕ = c.wires.result - c.inputs.result in
    let is : c.from_residual-in_err-tapes.result ≡ Err (of_job refused) = search rules in
    rw is
    (tapes_refuse c.args.kind case c.args.numbers.now c.in_ok-rows.rows
    c.in_ok-rows.ensures c.in_ok-filled.filled.plan c.in_ok-filled.ensures.plan
    further (rw (c.wires.ensures.value, c.inputs.ensures.value) refl)
    refused
    (subst (λ rows. TapesAnswer (Err refused)
    (source_with case.auction rows case.lanes case.seed further)) c.as_slice.ensures
    c.in_err-tapes.ensures))

pub returns-clause-proof : goal.returns-clause-proof
returns-clause-proof c =
    tapes_pass c.args.kind c.args.case.now c.args.numbers.now c.in_ok-rows.rows c.in_ok-rows.ensures
    c.in_ok-filled.filled.plan c.in_ok-filled.ensures.plan
    (c.wires.result - c.inputs.result) (rw (c.wires.ensures.value, c.inputs.ensures.value) refl)
    c.in_ok-filled.filled.values c.in_ok-filled.ensures.values
    (rw (c.as_slice.ensures) at c.in_ok-tapes.ensures.1)

pub returns-clause-prepared : goal.returns-clause-prepared
returns-clause-prepared c =
    let case = c.args.case.now in
    let tapes = c.in_ok-tapes.tapes in
    let plan = c.in_ok-filled.filled.plan in
    let further : ℕ = c.wires.result - c.inputs.result in
    let is : further ≡ length plan.kinds - plan.inputs =
    rw (c.wires.ensures.value, c.inputs.ensures.value) refl in
    record {
      table = c.in_ok-table.ensures;
      tapes = subst (λ f. tapes ≡ tapes_in (source_with case.auction c.in_ok-rows.rows case.lanes
          case.seed f)) is
          (subst (λ rows. tapes ≡ tapes_in (source_with case.auction rows case.lanes case.seed
          further)) c.as_slice.ensures c.in_ok-tapes.ensures.0);
    }
