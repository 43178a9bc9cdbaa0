use Rattle.std.proofs.Common.{◌≡◌, ◌-◌, ◌+◌, [], ◌∷◌, ◌++◌, length, length-append, Err, None, arith, rules, ap, sym, ◌∙◌}
use Rattle.vk_range.specs.Sets.{listed}
use Rattle.vk_range.specs.SetLaws.{listed_push}
use Rattle.vk_job.specs.Answers.{dry_refusal}
use Rattle.vk_job.specs.Proofs.{dry_or, first_dry_in, tape_at, tape_or_none}
use Rattle.vk_job.specs.Sources.{source_seen}
use Rattle.vk_job.proofs.Dry.{dry_turn, dry_done, lane_told}
use Rattle.vk_job.proofs.tapes.draw_lanes.Goals as goal

pub returns-in_err-tape : goal.returns-in_err-tape
returns-in_err-tape c =
    let source = source_seen c.args.source.now in
    let refused : c.from_residual-in_err-tape.result ≡ Err c.in_err-tape.field-0.0 = search rules in
    rw refused (lane_told source (c.loop-before.before + 1) (source.lanes - c.loop-before.before)
    c.in_err-tape.field-0.0 (omega arith) c.in_err-tape.ensures.dry c.loop-before.invariant.dry)

pub loop-before-preserved : goal.loop-before-preserved
loop-before-preserved c =
    let source = source_seen c.args.source.now in
    let lane = c.loop-before.before + 1 in
    let drawn = c.in_ok-tape.ensures.tape in
    let pushed : c.push.new.self.items ≡ c.loop-before.tapes.items ++ c.in_ok-tape.tape ∷ [] =
    search rules in
    record {
      tapes = listed_push (tape_at source) [] c.loop-before.tapes.items c.push.new.self.items
          c.in_ok-tape.tape c.loop-before.before pushed c.loop-before.invariant.tapes
          (sym (ap (λ found. record { wires = tape_or_none found }) drawn));
      count = omega (
        arith,
        ap length pushed,
        length-append c.loop-before.tapes.items (c.in_ok-tape.tape ∷ []),
        c.loop-before.invariant.count,
      );
      room = omega (arith, c.push.ensures.capacity, c.loop-before.invariant.room);
      dry = dry_turn source lane (source.lanes - c.loop-before.before) (source.lanes - lane)
          (first_dry_in source) (omega arith)
          (ap (λ found. dry_refusal (dry_or found lane None)) drawn) c.loop-before.invariant.dry;
    }

pub returns : goal.returns
returns c =
    let source = source_seen c.args.source.now in
    let all : c.loop-before.before ≡ source.lanes = omega arith in (
      c.from_vec.ensures ∙ c.loop-before.invariant.tapes ∙ ap (listed (tape_at source)) all,
      dry_done source (c.loop-before.before + 1) (source.lanes - c.loop-before.before)
          (first_dry_in source) (omega arith) c.loop-before.invariant.dry,
    )
