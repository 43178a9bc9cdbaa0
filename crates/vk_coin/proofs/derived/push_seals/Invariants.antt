use Rattle.std.proofs.Common.{◌≡◌, ◌++◌, take, flat_map}
use Rattle.vk_board.specs.Texts.{seal_lines_text}
use Rattle.vk_coin.proofs.derived.push_seals.Given as goal

-- the texts so far are those of the seals so far
abbrev pub invariant-loop-seal : goal.invariant-loop-seal
invariant-loop-seal l =
    l.out.items ≡ l.fn.out.items ++ flat_map seal_lines_text (take l.seal-index l.seals)
