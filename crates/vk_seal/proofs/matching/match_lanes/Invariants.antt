use Rattle.std.proofs.Common.{◌≡◌, ◌+◌, drop}
use Rattle.vk_seal.specs.Match.{coms_match}
use Rattle.vk_seal.proofs.matching.match_lanes.Given as goal

-- the lanes left give the answer
abbrev pub invariant-loop-index : goal.invariant-loop-index
invariant-loop-index l =
    coms_match l.secret.auction l.secret.seat l.secret.bid (l.index + 1) (drop l.index l.tapes)
    (drop l.index l.coms)
    ≡ coms_match l.secret.auction l.secret.seat l.secret.bid 1 l.tapes l.coms
