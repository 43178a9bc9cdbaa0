use Rattle.std.proofs.Common.{◌≡◌, Err, rules, [], ◌+◌, ◌-◌, arith, length, length-append}
use Rattle.std.proofs.lemmas.Grind.{common_steps}
use Rattle.vk_sample_parts.specs.Auctions.{dry_of, rows_onto}
use Rattle.vk_sample_parts.proofs.Rows.{rows_done, rows_dry, rows_turn}
use Rattle.vk_sample_parts.proofs.making.seal_rows.Goals as goal

pub loop-index-preserved : goal.loop-index-preserved
loop-index-preserved c = record {
  count = grind (arith, common_steps, length-append);
  made = rows_turn c.args.sample.now c.loop-index.rows c.push.new.self c.in_ok-row.row
      c.loop-index.index (length c.args.sample.now.seats - c.loop-index.index)
      (length c.args.sample.now.seats - (c.loop-index.index + 1))
      (rows_onto c.args.sample.now [] (length c.args.sample.now.seats))
      (omega arith) c.loop-index.invariant.count c.in_ok-push.ensures.pushed c.in_ok-row.ensures
      c.loop-index.invariant.made;
}

pub returns-in_err-row : goal.returns-in_err-row
returns-in_err-row c =
    let refused = c.in_err-row.field-0.0 in
    let is : c.from_residual.result ≡ Err refused = search rules in
    rw is
    (rows_dry c.args.sample.now c.loop-index.rows c.loop-index.index
    (length c.args.sample.now.seats - c.loop-index.index) (dry_of refused)
    (rows_onto c.args.sample.now [] (length c.args.sample.now.seats))
    (omega arith) c.loop-index.invariant.count c.in_err-row.ensures c.loop-index.invariant.made)

pub returns : goal.returns
returns c = rows_done c.args.sample.now c.loop-index.rows
    (length c.args.sample.now.seats - c.loop-index.index)
    (rows_onto c.args.sample.now [] (length c.args.sample.now.seats)) (omega arith)
    c.loop-index.invariant.made
