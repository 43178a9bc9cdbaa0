use Rattle.std.proofs.Common.{◌≡◌, map, take}
use Rattle.vk_seal.specs.Values.{wire_tape}
use Rattle.vk_extractor.specs.Confronting.{tape_in}
use Rattle.vk_job.proofs.tapes.given_tapes.Given as goal

abbrev pub invariant-loop-row : goal.invariant-loop-row
invariant-loop-row l = l.given.items
    ≡ map (λ row. wire_tape (tape_in row.secret l.lane)) (take l.row-index l.rows)
