use Rattle.std.proofs.Common.{◌≡◌, length, arith, ◌∙◌, ap}
use Rattle.std.proofs.lemmas.List.Elements.{recursion_from_All}
use Rattle.vk_wire.specs.Values.{IsCom}
use Rattle.vk_seal.specs.Values.{IsXTape}
use Rattle.vk_seal.proofs.Tapes.{length-lane_coms}
use Rattle.vk_seal.proofs.SealsMatch.{made_matches}
use Rattle.vk_seal.proofs.making.seal_tapes.Goals as goal

pub returns-clause-secret : goal.returns-clause-secret
returns-clause-secret c = record {
  id = (c.told-auction, λ k. omega (arith, c.fits-auction k));
  some_seat = c.requires.some_seat;
  last_seat = omega arith;
  small_bid = c.requires.small_bid;
  count = record { least = c.requires.some_lane; most = c.requires.few_lanes };
  tapes = recursion_from_All IsXTape c.args.tapes c.requires.tapes;
}

pub returns-clause-seal : goal.returns-clause-seal
returns-clause-seal c =
    let coms = rw c.as_slice.ensures at c.commit_lanes-lanes.ensures.coms in
    let count : length c.commit_lanes-lanes.result ≡ length c.args.tapes =
    ap length coms ∙ length-lane_coms c.args.auction.now c.args.seat c.args.bid 1 c.args.tapes
    in
    record {
      id = (c.told-auction, λ k. omega (arith, c.fits-auction k));
      some_seat = c.requires.some_seat;
      last_seat = omega arith;
      count = record { least = omega arith; most = omega arith };
      coms = recursion_from_All IsCom c.commit_lanes-lanes.result
          c.commit_lanes-lanes.ensures.digests;
    }

pub returns-clause-matched : goal.returns-clause-matched
returns-clause-matched c =
    let coms = rw c.as_slice.ensures at c.commit_lanes-lanes.ensures.coms in
    rw coms (made_matches (record {
      auction = c.args.auction.now;
      seat = c.args.seat;
      bid = c.args.bid;
      lanes = c.args.tapes;
    }))
