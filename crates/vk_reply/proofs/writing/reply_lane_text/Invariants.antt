use Rattle.std.proofs.Common.{◌≡◌, ◌++◌, ◌∷◌, [], codes, decimal, flat_map, take}
use Rattle.vk_lines.specs.Forms.{line, spaced}
use Rattle.vk_reply.specs.Texts.{shown_text}
use Rattle.vk_reply.proofs.writing.reply_lane_text.Given as goal

-- the text so far is the line of the lane's number and those of the wires so far
abbrev pub invariant-loop-one : goal.invariant-loop-one
invariant-loop-one l = l.text.items
    ≡ line (spaced (codes "lane" ∷ decimal l.fn.lane ∷ []))
    ++ flat_map (λ one. line (shown_text one)) (take l.one-index l.shown)
