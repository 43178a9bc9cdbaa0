use Rattle.std.proofs.Common.{◌∙◌, ◌<◌, length, sym, tests, rules}
use Rattle.vk_rows.proofs.Lists.{show_next}
use Rattle.vk_rows.proofs.standing.count_standing.Goals as goal
use Rattle.vk_rows.proofs.standing.count_standing.Goals.{in-Some, in-None}

pub loop-i-preserved : goal.loop-i-preserved
loop-i-preserved c = elim c.match-get.branch [
  | in-Some w ↦
      let within : c.loop-i.i < length c.args.held.now = search (tests, rules) in
      let shown = w.is_row_of-stands.ensures (sym w.stands-is ∙ c.if-not-stands.false) in
      show_next c.args.held.now c.args.seals.now c.loop-i.i w.in-Some.row.now c.index-seals-i.result
      within w.in-Some.ensures.lookup.1 c.loop-i-test.true c.index-seals-i.is c.loop-i.invariant
      shown
  | in-None w ↦ absurd (let e = sym w.stands-is ∙ c.if-not-stands.false in cc)
]
