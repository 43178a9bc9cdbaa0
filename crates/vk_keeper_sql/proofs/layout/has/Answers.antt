use Rattle.std.proofs.Common.{sym, subst}
use Rattle.std.proofs.lemmas.List.Elements.{All-more}
use Rattle.vk_keeper_sql.specs.Layouts.{HasShape, shape_named}
use Rattle.vk_keeper_sql.proofs.layout.has.Goals as goal

pub loop-table-preserved : goal.loop-table-preserved
loop-table-preserved c =
    All-more (λ table. ¬ HasShape (shape_named c.args.name) table) c.args.tables.now
    c.loop-table.table-index c.table-item.result c.loop-table-test.true c.loop-table.invariant
    (λ it. absurd (let e = c.if-is_table.ensures.1
    (subst (HasShape (shape_named c.args.name)) (sym c.table-item.is) it) in cc))
