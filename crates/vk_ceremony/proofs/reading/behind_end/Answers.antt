use Rattle.vk_ceremony.proofs.Taking.{over_told}
use Rattle.vk_ceremony.proofs.reading.behind_end.Goals as goal

pub returns-clause-modelled : goal.returns-clause-modelled
returns-clause-modelled g c =
    over_told (g.S.Shelf.held c.args.shelf.now) c.args.lines.now c.next_line.new.self
    c.in_ok-step.step c.number-number.result c.over_by-fault.result
    c.number-number.ensures.count c.over_by-fault.ensures c.in_ok-step.ensures.modelled
