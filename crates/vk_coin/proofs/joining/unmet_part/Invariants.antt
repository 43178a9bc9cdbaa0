use Rattle.std.proofs.Common.{◌≡◌, ◌+◌, drop}
use Rattle.vk_coin.specs.Coins.{unmet_from}
use Rattle.vk_coin.proofs.joining.unmet_part.Given as goal

-- none of the auditors so far is found
abbrev pub invariant-loop-index : goal.invariant-loop-index
invariant-loop-index l = unmet_from (l.index + 1) (drop l.index l.coin.parts)
    (drop l.index l.coin.shares) ≡ unmet_from 1 l.coin.parts l.coin.shares
