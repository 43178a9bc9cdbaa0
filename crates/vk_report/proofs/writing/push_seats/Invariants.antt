use Rattle.std.proofs.Common.{◌≡◌, ◌++◌, take, flat_map, string_bytes}
use Rattle.vk_lines.specs.Forms.{line}
use Rattle.vk_report.specs.Reports.{seat_text}
use Rattle.vk_report.proofs.writing.push_seats.Given as goal

-- the lines so far are those of the seats so far
abbrev pub invariant-loop-seat : goal.invariant-loop-seat
invariant-loop-seat l = flat_map string_bytes l.lines.items ≡ flat_map string_bytes l.fn.lines.items
    ++ flat_map (λ seat. line (seat_text seat)) (take l.seat-index l.seats)
