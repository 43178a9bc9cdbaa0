use Rattle.std.proofs.Common.{refl}
use Rattle.vk_plan.specs.Tables.{rows_from}
use Rattle.vk_plan.proofs.Tables.{flat_none}
use Rattle.vk_plan.proofs.flat.Flat.new.Goals as goal

-- src/flat.rt:21:5
pub returns-clause-flat : goal.returns-clause-flat
returns-clause-flat c =
    rw (c.new.ensures.items, c.new-2.ensures.items, c.new-3.ensures.items, c.new-4.ensures.items)
    flat_none

-- src/flat.rt:21:5
pub returns-clause-rows : goal.returns-clause-rows
unfolding rows_from
returns-clause-rows c = rw (c.new-3.ensures.items) refl
