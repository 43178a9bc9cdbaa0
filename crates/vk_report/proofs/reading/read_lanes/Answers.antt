use Rattle.std.proofs.Common.{◌-◌, ◌+◌, arith, rules, ◌∙◌, refl}
use Rattle.vk_lines.specs.Lines.{rest_of}
use Rattle.vk_board.specs.Reading.{lanes_at}
use Rattle.vk_report.specs.Reports.{shape_of}
use Rattle.vk_report.proofs.Lanes.{passed_none, passed_turn, passed_stop, passed_done}
use Rattle.vk_report.proofs.reading.read_lanes.Goals as goal

pub loop-index-init : goal.loop-index-init
loop-index-init g c = record {
  passed = passed_none (g.S.Shelf.held c.args.shelf.now) (shape_of c.args.report.now)
      c.args.report.now.head.lanes _ (λ files. rest_of c.args.lines.now files) (search rules);
  file = record { name = refl; size = refl };
  held = search rules;
  kept = search rules;
}

pub returns-in_err-read_lane : goal.returns-in_err-read_lane
returns-in_err-read_lane g c = record {
  reads = record {
    modelled = passed_stop (g.S.Shelf.held c.args.shelf.now) (g.S.Shelf.held c.loop-index.shelf)
        (shape_of c.args.report.now)
        (λ files. lanes_at (λ _. shape_of c.args.report.now) c.args.report.now.head
        (rest_of c.args.lines.now files))
        c.loop-index.index (c.args.report.now.head.lanes - c.loop-index.index)
        c.in_err-read_lane.field-0.0 _ (λ files. rest_of c.loop-index.lines files)
        (λ files. rest_of c.read_lane.new.lines files)
        c.loop-index.invariant.held (omega arith) (search rules) c.loop-index.invariant.passed
        c.in_err-read_lane.ensures.reads.modelled;
    file = search rules;
    shelf = search rules;
  };
}

pub loop-index-preserved : goal.loop-index-preserved
loop-index-preserved g c = record {
  passed = passed_turn (g.S.Shelf.held c.args.shelf.now) (g.S.Shelf.held c.loop-index.shelf)
      (shape_of c.args.report.now)
      (λ files. lanes_at (λ _. shape_of c.args.report.now) c.args.report.now.head
      (rest_of c.args.lines.now files))
      c.loop-index.index (c.args.report.now.head.lanes - c.loop-index.index)
      (c.args.report.now.head.lanes - (c.loop-index.index + 1)) c.in_ok-read_lane.field-0
      (λ files. rest_of c.loop-index.lines files) (λ files. rest_of c.read_lane.new.lines files)
      c.loop-index.invariant.held (omega arith) c.loop-index.invariant.passed
      c.in_ok-read_lane.ensures.reads.modelled;
  file = record {
    name = c.in_ok-read_lane.ensures.reads.file.name ∙ c.loop-index.invariant.file.name;
    size = c.in_ok-read_lane.ensures.reads.file.size ∙ c.loop-index.invariant.file.size;
  };
  held = c.in_ok-read_lane.ensures.reads.shelf.held ∙ c.loop-index.invariant.held;
  kept = c.in_ok-read_lane.ensures.reads.shelf.causes ∙ c.loop-index.invariant.kept;
}

pub returns : goal.returns
returns g c = record {
  reads = record {
    modelled = passed_done (g.S.Shelf.held c.args.shelf.now) (shape_of c.args.report.now)
        (λ files. lanes_at (λ _. shape_of c.args.report.now) c.args.report.now.head
        (rest_of c.args.lines.now files))
        c.loop-index.index (c.args.report.now.head.lanes - c.loop-index.index)
        (λ files. rest_of c.loop-index.lines files) (omega arith) c.loop-index.invariant.passed;
    file = search rules;
    shelf = search rules;
  };
}
