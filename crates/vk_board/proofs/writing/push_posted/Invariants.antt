use Rattle.std.proofs.Common.{◌≡◌, ◌++◌, take, flat_map}
use Rattle.vk_lines.specs.Forms.{line}
use Rattle.vk_board.specs.Texts.{posted_text}
use Rattle.vk_board.proofs.writing.push_posted.Given as goal

-- the lines so far are those of the numbers so far
abbrev pub invariant-loop-number : goal.invariant-loop-number
invariant-loop-number l = l.out.items
    ≡ l.fn.out.items ++ flat_map (λ number. line (posted_text number))
    (take l.number-index l.posted)
