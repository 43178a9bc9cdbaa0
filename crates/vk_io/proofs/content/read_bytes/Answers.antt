use Rattle.std.proofs.Common.{take, drop, ◌∙◌, arith}
use Rattle.std.proofs.lemmas.Grind.{common_steps}
use Rattle.vk_io.proofs.Reading.{read_more}
use Rattle.vk_io.proofs.content.read_bytes.Goals as goal

pub loop-at-preserved : goal.loop-at-preserved
loop-at-preserved g c = record {
  modelled = read_more (g.S.Shelf.held c.args.shelf.now) (g.S.Shelf.held c.loop-at.shelf)
      c.args.name.now c.loop-at.bytes.items c.put_behind.new.bytes.items
      (take c.room_of-room.result c.loop-at.piece) c.read_at.new.into
      (drop c.room_of-room.result c.loop-at.piece) c.loop-at.at c.in_ok-count.count
      c.loop-at.invariant.held c.loop-at.invariant.modelled c.in_ok-count.ensures.count
      c.in_ok-count.ensures.bytes c.in_ok-put_behind.ensures.put;
  taken = grind (arith, common_steps);
  within = grind (arith, common_steps);
  room = grind (arith, common_steps);
  held = c.in_ok-count.ensures.shelf.held ∙ c.loop-at.invariant.held;
  kept = c.in_ok-count.ensures.shelf.causes ∙ c.loop-at.invariant.kept;
  wants = c.in_ok-count.ensures.wants ∙ c.loop-at.invariant.wants;
}
