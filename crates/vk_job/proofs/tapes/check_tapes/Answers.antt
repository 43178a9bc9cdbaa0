use Rattle.std.proofs.Common.{◌≡◌, ◌-◌, ◌+◌, Err, arith, rules, ap, sym, ◌∙◌}
use Rattle.vk_job.specs.Answers.{dry_refusal}
use Rattle.vk_job.specs.Proofs.{first_dry_in}
use Rattle.vk_job.specs.Sources.{source_seen}
use Rattle.vk_job.proofs.Dry.{dry_turn, dry_stop, dry_done}
use Rattle.vk_job.proofs.tapes.check_tapes.Goals as goal

pub returns-in_err-check_lane : goal.returns-in_err-check_lane
returns-in_err-check_lane c =
    let source = source_seen c.args.source.now in
    let refused : c.from_residual.result ≡ Err c.in_err-check_lane.field-0.0 = search rules in
    refused
    ∙ sym (dry_stop source (c.loop-before.before + 1) (source.lanes - c.loop-before.before)
    (first_dry_in source) c.in_err-check_lane.field-0.0 (omega arith)
    (sym c.in_err-check_lane.ensures) c.loop-before.invariant)

pub loop-before-preserved : goal.loop-before-preserved
loop-before-preserved c =
    let source = source_seen c.args.source.now in
    let lane = c.loop-before.before + 1 in
    dry_turn source lane (source.lanes - c.loop-before.before) (source.lanes - lane)
    (first_dry_in source) (omega arith) (sym c.in_ok-check_lane.ensures) c.loop-before.invariant

pub returns : goal.returns
returns c =
    let source = source_seen c.args.source.now in
    ap dry_refusal (sym (dry_done source (c.loop-before.before + 1)
    (source.lanes - c.loop-before.before) (first_dry_in source) (omega arith)
    c.loop-before.invariant))
