use Rattle.std.proofs.Common.{◌≡◌, ◌++◌, take, flat_map}
use Rattle.vk_lines.specs.Forms.{line}
use Rattle.vk_seal.specs.Texts.{tape_text}
use Rattle.vk_seal.proofs.writing.push_tapes.Given as goal

-- the lines so far are those of the lanes so far
abbrev pub invariant-loop-tape : goal.invariant-loop-tape
invariant-loop-tape l = l.out.items
    ≡ l.fn.out.items ++ flat_map (λ tape. line (tape_text tape)) (take l.tape-index l.tapes)
