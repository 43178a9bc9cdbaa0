use Rattle.std.proofs.Common.{◌≡◌, ◌++◌, ◌∷◌, [], arith, length-append, rules}
use Rattle.std.proofs.lemmas.Grind.{common_steps}
use Rattle.std.proofs.lemmas.List.Elements.{All-push}
use Rattle.vk_seal.specs.Made.{lane_coms}
use Rattle.vk_wire.specs.Values.{IsCom}
use Rattle.vk_seal.proofs.Tapes.{coms_turn}
use Rattle.vk_seal.proofs.making.commit_lanes.Goals as goal

pub loop-index-preserved : goal.loop-index-preserved
loop-index-preserved c =
    let pushed : c.push.new.self.items ≡ c.loop-index.coms.items ++ c.commit_lane-com.result ∷ [] =
    search rules in
    record {
      made = coms_turn c.args.auction.now c.args.seat c.args.bid c.args.tapes.now c.loop-index.index
          c.index-tapes-index.result c.loop-index.coms.items c.push.new.self.items
          c.commit_lane-com.result
          (lane_coms c.args.auction.now c.args.seat c.args.bid 1 c.args.tapes.now)
          (omega arith) c.index-tapes-index.is c.commit_lane-com.ensures.made pushed
          c.loop-index.invariant.made;
      count = grind (arith, common_steps, length-append);
      room = omega (arith, c.loop-index.invariant.room, c.push.ensures.capacity);
      right = rw pushed (All-push IsCom c.loop-index.coms.items c.commit_lane-com.result
          c.loop-index.invariant.right c.commit_lane-com.ensures.digests);
    }
