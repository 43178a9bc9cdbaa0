use Rattle.std.proofs.Common.{◌≡◌, map, take}
use Rattle.vk_job.proofs.sale.inputs_of.Given as goal

abbrev pub invariant-loop-row : goal.invariant-loop-row
invariant-loop-row l = l.inputs.items ≡ map (λ row. row.secret.bid) (take l.row-index l.rows)
