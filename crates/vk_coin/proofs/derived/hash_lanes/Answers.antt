use Rattle.std.proofs.Common.{◌-◌, ◌+◌, Ok, arith, rules, ◌∙◌, refl, subst}
use Rattle.vk_lines.specs.Lines.{ReadsPart, rest_of}
use Rattle.vk_board.specs.Reading.{lane_lines_at}
use Rattle.vk_report.proofs.Lanes.{passed_stop, passed_done}
use Rattle.vk_coin.specs.Derived.{HashesLanes, lanes_gone}
use Rattle.vk_coin.proofs.Hashing.{shape_by, same_shape, as_passed, lanes_none, lanes_turn, lanes_done}
use Rattle.vk_coin.proofs.derived.hash_lanes.Goals as goal

pub loop-index-init : goal.loop-index-init
loop-index-init g c = record {
  lanes = lanes_none (g.S.Shelf.held c.args.shelf.now) (shape_by c.args.wires c.args.rows)
      c.args.front.now.head.lanes _ (λ files. rest_of c.args.lines.now files) c.args.hasher.now
      (search rules);
  file = record { name = refl; size = refl };
  held = search rules;
  kept = search rules;
}

pub returns-in_err-lane-clause-reads : goal.returns-in_err-lane-clause-reads
returns-in_err-lane-clause-reads g c = record {
  modelled = subst (λ shape. ReadsPart (lanes_gone c.args.front.now.head.lanes shape)
      (g.S.Shelf.held c.args.shelf.now) c.args.lines.now c.read_lane.new.lines
      c.from_residual.result)
      (same_shape c.args.wires c.args.rows c.args.front.now.head c.requires.wires c.requires.rows)
      (passed_stop (g.S.Shelf.held c.args.shelf.now) (g.S.Shelf.held c.loop-index.shelf)
      (shape_by c.args.wires c.args.rows)
      (λ files. lane_lines_at c.args.front.now.head.lanes (shape_by c.args.wires c.args.rows)
      (rest_of c.args.lines.now files))
      c.loop-index.index (c.args.front.now.head.lanes - c.loop-index.index)
      c.in_err-lane.field-0.0 c.from_residual.result (λ files. rest_of c.loop-index.lines files)
      (λ files. rest_of c.read_lane.new.lines files)
      c.loop-index.invariant.held (omega arith) (search rules)
      (as_passed c.loop-index.invariant.lanes) c.in_err-lane.ensures.reads.modelled);
  file = search rules;
  shelf = search rules;
}

pub loop-index-preserved : goal.loop-index-preserved
loop-index-preserved g c = record {
  lanes = lanes_turn (g.S.Shelf.held c.args.shelf.now) (g.S.Shelf.held c.loop-index.shelf)
      (shape_by c.args.wires c.args.rows)
      (λ files. lane_lines_at c.args.front.now.head.lanes (shape_by c.args.wires c.args.rows)
      (rest_of c.args.lines.now files))
      c.loop-index.index (c.args.front.now.head.lanes - c.loop-index.index)
      (c.args.front.now.head.lanes - (c.loop-index.index + 1)) c.in_ok-lane.lane
      (λ files. rest_of c.loop-index.lines files) (λ files. rest_of c.read_lane.new.lines files)
      c.args.hasher.now c.loop-index.hasher c.hash_lane.new.hasher
      c.loop-index.invariant.held (omega arith) c.loop-index.invariant.lanes
      c.in_ok-lane.ensures.reads.modelled c.in_ok-lane.ensures.reads.right c.in-Ok.ensures;
  file = search rules;
  held = c.in_ok-lane.ensures.reads.shelf.held ∙ c.loop-index.invariant.held;
  kept = c.in_ok-lane.ensures.reads.shelf.causes ∙ c.loop-index.invariant.kept;
}

pub returns-clause-reads : goal.returns-clause-reads
returns-clause-reads g c = record {
  modelled = subst (λ shape. ReadsPart (lanes_gone c.args.front.now.head.lanes shape)
      (g.S.Shelf.held c.args.shelf.now) c.args.lines.now c.loop-index.lines (Ok tt))
      (same_shape c.args.wires c.args.rows c.args.front.now.head c.requires.wires c.requires.rows)
      (passed_done (g.S.Shelf.held c.args.shelf.now) (shape_by c.args.wires c.args.rows)
      (λ files. lane_lines_at c.args.front.now.head.lanes (shape_by c.args.wires c.args.rows)
      (rest_of c.args.lines.now files))
      c.loop-index.index (c.args.front.now.head.lanes - c.loop-index.index)
      (λ files. rest_of c.loop-index.lines files) (omega arith)
      (as_passed c.loop-index.invariant.lanes));
  file = search rules;
  shelf = search rules;
}

pub returns-clause-hashed : goal.returns-clause-hashed
returns-clause-hashed g c =
    subst (λ shape. HashesLanes (g.S.Shelf.held c.args.shelf.now) c.args.front.now.head.lanes shape
    c.args.lines.now c.loop-index.lines c.args.hasher.now c.loop-index.hasher)
    (same_shape c.args.wires c.args.rows c.args.front.now.head c.requires.wires c.requires.rows)
    (lanes_done (g.S.Shelf.held c.args.shelf.now) c.args.front.now.head.lanes
    (shape_by c.args.wires c.args.rows) c.loop-index.index
    (c.args.front.now.head.lanes - c.loop-index.index) c.args.lines.now c.loop-index.lines
    c.args.hasher.now c.loop-index.hasher (omega arith) (omega arith)
    c.loop-index.invariant.lanes)
