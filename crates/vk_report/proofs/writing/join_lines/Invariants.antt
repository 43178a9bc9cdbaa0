use Rattle.std.proofs.Common.{◌≡◌, take, flat_map, string_bytes}
use Rattle.vk_report.proofs.writing.join_lines.Given as goal

-- the text so far is that of the lines so far
abbrev pub invariant-loop-line : goal.invariant-loop-line
invariant-loop-line l = l.text.items ≡ flat_map string_bytes (take l.line-index l.lines)
