use Rattle.std.proofs.Common.{length, ◌-◌, ◌+◌, arith, rules, ◌∙◌, refl, ap}
use Rattle.vk_lines.specs.Forms.{many_at}
use Rattle.vk_lines.specs.Lines.{line_by, rest_of}
use Rattle.vk_lines.proofs.Each.{each_none, each_more, one_longer}
use Rattle.vk_lines.proofs.Loops.{numbered_begin, numbered_turn, numbered_stop, many_done}
use Rattle.vk_lines.proofs.many.read_many.Goals as goal

pub loop-number-init : goal.loop-number-init
loop-number-init g c = record {
  modelled = numbered_begin (g.S.Shelf.held c.args.shelf.now)
      (λ n. line_by (g.K.LineKind.item_of c.args.kind.now n)) c.in_ok-items.items.items _ _
      (λ files. rest_of c.args.lines.now files) c.in_ok-items.ensures.items (omega arith);
  count = ap length c.in_ok-items.ensures.items;
  room = omega (arith, c.in_ok-items.ensures.capacity);
  each = each_none (g.K.LineKind.is_item c.args.kind.now) c.in_ok-items.items.items
      c.in_ok-items.ensures.items;
  file = record { name = refl; size = refl };
  held = refl;
  kept = refl;
  wants = refl;
}

pub returns-in_err-item-clause-reads : goal.returns-in_err-item-clause-reads
returns-in_err-item-clause-reads g c = record {
  modelled = numbered_stop (g.S.Shelf.held c.args.shelf.now) (g.S.Shelf.held c.loop-number.shelf)
      (λ n. line_by (g.K.LineKind.item_of c.args.kind.now n))
      (λ files. many_at c.args.count
      (λ before. line_by (g.K.LineKind.item_of c.args.kind.now (length before)))
      (rest_of c.args.lines.now files))
      c.loop-number.items.items c.in_err-item.field-0.0 _ c.loop-number.number
      (c.args.count - c.loop-number.number) (λ files. rest_of c.loop-number.lines files)
      (λ files. rest_of c.read_item.new.lines files)
      c.loop-number.invariant.held c.loop-number.invariant.count (omega arith) (search rules)
      c.loop-number.invariant.modelled c.in_err-item.ensures.reads.modelled;
  file = search rules;
  shelf = search rules;
}

pub loop-number-preserved : goal.loop-number-preserved
loop-number-preserved g c =
    let l = c.loop-number in
    record {
      modelled = numbered_turn (g.S.Shelf.held c.args.shelf.now) (g.S.Shelf.held l.shelf)
          (λ n. line_by (g.K.LineKind.item_of c.args.kind.now n))
          (λ files. many_at c.args.count
          (λ before. line_by (g.K.LineKind.item_of c.args.kind.now (length before)))
          (rest_of c.args.lines.now files))
          l.items.items c.push.new.self.items c.in_ok-item.item l.number (c.args.count - l.number)
          (c.args.count - (l.number + 1)) (λ files. rest_of l.lines files)
          (λ files. rest_of c.read_item.new.lines files)
          l.invariant.held l.invariant.count (omega arith) c.in_ok-push.ensures.items
          l.invariant.modelled c.in_ok-item.ensures.reads.modelled;
      count = one_longer l.items.items c.push.new.self.items c.in_ok-item.item l.number
          l.invariant.count c.in_ok-push.ensures.items;
      each = each_more (g.K.LineKind.is_item c.args.kind.now) l.items.items c.push.new.self.items
          c.in_ok-item.item l.number l.invariant.count c.in_ok-push.ensures.items l.invariant.each
          c.in_ok-item.ensures.right;
      file = search rules;
      room = omega (arith, l.invariant.room, c.in_ok-push.ensures.capacity);
      held = c.in_ok-item.ensures.reads.shelf.held ∙ l.invariant.held;
      kept = c.in_ok-item.ensures.reads.shelf.causes ∙ l.invariant.kept;
      wants = c.in_ok-item.ensures.reads.wants ∙ l.invariant.wants;
    }

pub returns-clause-reads : goal.returns-clause-reads
returns-clause-reads g c = record {
  modelled = rw c.from_vec.ensures
      (many_done (g.S.Shelf.held c.args.shelf.now)
      (λ before. line_by (g.K.LineKind.item_of c.args.kind.now (length before)))
      (λ files. many_at c.args.count
      (λ before. line_by (g.K.LineKind.item_of c.args.kind.now (length before)))
      (rest_of c.args.lines.now files))
      c.loop-number.items.items (c.args.count - c.loop-number.number)
      (λ files. rest_of c.loop-number.lines files) (omega arith) c.loop-number.invariant.modelled);
  file = search rules;
  shelf = search rules;
}
