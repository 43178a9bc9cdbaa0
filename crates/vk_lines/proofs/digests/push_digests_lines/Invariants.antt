use Rattle.std.proofs.Common.{◌≡◌, ◌++◌, take, flat_map}
use Rattle.vk_lines.specs.Forms.{digests_text, line}
use Rattle.vk_lines.proofs.digests.push_digests_lines.Given as goal

-- the lines so far are those of the items so far
abbrev pub invariant-loop-item : goal.invariant-loop-item
invariant-loop-item g l =
    l.out.items ≡ l.fn.out.items
    ++ flat_map (λ item. line (digests_text l.word (g.C.TwoDigests.first_of item)
    (g.C.TwoDigests.second_of item))) (take l.item-index l.items)
