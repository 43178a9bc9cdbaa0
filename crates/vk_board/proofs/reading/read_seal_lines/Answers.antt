use Rattle.std.proofs.Common.{◌≡◌, ℕ, List, length, inl, inr, refl, ap, ◌-◌, ◌+◌, arith, rules, ◌∙◌, [], subst, IfSome, Ok, Err}
use Rattle.vk_lines.proofs.Each.{each_push, one_longer}
use Rattle.vk_io.specs.Faults.{Rose}
use Rattle.vk_lines.specs.Forms.{many_at}
use Rattle.vk_lines.specs.Lines.{GivesReading, rest_of}
use Rattle.vk_lines.proofs.Loops.{many_turn, many_stop}
use Rattle.vk_board.specs.declared.board.SealLines.{SealLines}
use Rattle.vk_board.specs.Values.{IsSealAfter}
use Rattle.vk_board.specs.Reading.{seal_at, seat_at, HasRead}
use Rattle.vk_board.proofs.Stops.{all_left, none_read, read_more, among_in}
use Rattle.vk_board.proofs.reading.read_seal_lines.Goals as goal

pub loop-index-preserved : goal.loop-index-preserved
loop-index-preserved g c =
    let l = c.loop-index in
    let P : List SealLines → Type 0 = λ before. IfSome (g.S.Shelf.held l.shelf)
    (λ files. seal_at c.args.lanes before (rest_of l.lines files)
    ≡ Ok (c.in_ok-seal.seal, rest_of c.read_seal.new.lines files)) in
    let step = subst P c.as_slice.ensures.value c.in_ok-seal.ensures.reads.modelled in
    let R : List SealLines → Type 0 = λ before.
    IsSealAfter c.args.lanes before c.in_ok-seal.seal in
    record {
      modelled = many_turn (g.S.Shelf.held c.args.shelf.now) (g.S.Shelf.held l.shelf)
          (seal_at c.args.lanes)
          (λ files. many_at c.args.count (seal_at c.args.lanes) (rest_of c.args.lines.now files))
          l.seals.items c.push.new.self.items c.in_ok-seal.seal (c.args.count - l.index)
          (c.args.count - (l.index + 1)) (rest_of l.lines) (rest_of c.read_seal.new.lines)
          l.invariant.held (omega arith) c.in_ok-push.ensures.items l.invariant.modelled step;
      read = read_more (g.S.Shelf.held c.args.shelf.now) (g.S.Shelf.held l.shelf)
          (seal_at c.args.lanes) l.seals.items c.push.new.self.items c.in_ok-seal.seal l.index
          (l.index + 1) (rest_of c.args.lines.now) (rest_of l.lines)
          (rest_of c.read_seal.new.lines) l.invariant.held (omega arith)
          c.in_ok-push.ensures.items l.invariant.read step;
      count = one_longer l.seals.items c.push.new.self.items c.in_ok-seal.seal l.index
          l.invariant.count c.in_ok-push.ensures.items;
      room = omega (arith, l.invariant.room, c.in_ok-push.ensures.capacity);
      right = rw c.in_ok-push.ensures.items
          (each_push (IsSealAfter c.args.lanes) [] l.seals.items c.in_ok-seal.seal
          l.invariant.right (subst R c.as_slice.ensures.value c.in_ok-seal.ensures.reads.right));
      held = c.in_ok-seal.ensures.reads.shelf.held ∙ l.invariant.held;
      kept = c.in_ok-seal.ensures.reads.shelf.causes ∙ l.invariant.kept;
      wants = c.in_ok-seal.ensures.wants ∙ l.invariant.wants;
      file = search rules;
    }

pub loop-index-init : goal.loop-index-init
loop-index-init g c = record {
  modelled = all_left (g.S.Shelf.held c.args.shelf.now) (seal_at c.args.lanes)
      c.in_ok-seals.seals.items _ _ (rest_of c.args.lines.now) c.in_ok-seals.ensures.items
      (omega arith);
  read = none_read (g.S.Shelf.held c.args.shelf.now) (seal_at c.args.lanes)
      c.in_ok-seals.seals.items (rest_of c.args.lines.now) c.in_ok-seals.ensures.items;
  count = ap length c.in_ok-seals.ensures.items;
  room = omega (arith, c.in_ok-seals.ensures.capacity);
  right = rw c.in_ok-seals.ensures.items tt;
  held = refl;
  kept = refl;
  wants = refl;
  file = record { name = refl; size = refl };
}

pub returns-in_err-seal-clause-reads : goal.returns-in_err-seal-clause-reads
returns-in_err-seal-clause-reads g c =
    let l = c.loop-index in
    let P : List SealLines → Type 0 = λ before. IfSome (g.S.Shelf.held l.shelf)
    (λ files. GivesReading {T = SealLines} {X = SealLines} (λ x. x) (Err c.in_err-seal.field-0.0)
    (rest_of c.read_seal.new.lines files) (seal_at c.args.lanes before (rest_of l.lines files))) in
    record {
      modelled = many_stop (g.S.Shelf.held c.args.shelf.now) (g.S.Shelf.held l.shelf)
          (seal_at c.args.lanes)
          (λ files. many_at c.args.count (seal_at c.args.lanes) (rest_of c.args.lines.now files))
          l.seals.items c.in_err-seal.field-0.0 _ (c.args.count - l.index) (rest_of l.lines)
          (rest_of c.read_seal.new.lines) l.invariant.held (omega arith) (search rules)
          l.invariant.modelled
          (subst P c.as_slice.ensures.value c.in_err-seal.ensures.reads.modelled);
      file = search rules;
      shelf = search rules;
      right = search rules;
    }

pub returns-in_err-seal-clause-behind : goal.returns-in_err-seal-clause-behind
returns-in_err-seal-clause-behind g c = λ is.
    let l = c.loop-index in
    let Q : List SealLines → Type 0 = λ before.
    HasRead (seat_at before) (g.S.Shelf.held l.shelf) l.lines c.read_seal.new.lines in
    let W : ℕ → Type 0 = λ n. Rose n (g.S.Shelf.wants c.read_seal.new.shelf) in
    elim (c.in_err-seal.ensures.behind (search rules)) [
      | inl stands ↦ inl (among_in (g.S.Shelf.held c.args.shelf.now) (g.S.Shelf.held l.shelf)
          c.args.lanes c.args.count l.seals.items l.index c.args.lines.now l.lines
          c.read_seal.new.lines l.invariant.held (omega arith) l.invariant.read
          (subst Q c.as_slice.ensures.value stands))
      | inr rose ↦ inr (subst W l.invariant.wants rose)
    ]
