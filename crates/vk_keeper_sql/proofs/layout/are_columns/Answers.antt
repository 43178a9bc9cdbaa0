use Rattle.std.proofs.Common.{◌<◌, length, refl, arith}
use Rattle.vk_keeper_sql.specs.Layouts.{shape_of}
use Rattle.vk_keeper_sql.proofs.Shapes.{alike_at, alike_next}
use Rattle.vk_keeper_sql.proofs.layout.are_columns.Goals as goal

pub loop-i-preserved : goal.loop-i-preserved
loop-i-preserved c =
    let within : c.loop-i.i < length c.args.wanted.now =
    omega (arith, c.if-columns-wanted.false, c.loop-i-test.true) in
    alike_next shape_of _ c.args.columns.now c.args.wanted.now c.loop-i.i c.index-columns-i.result _
    c.loop-i-test.true within c.index-columns-i.is c.loop-i.invariant
    (c.if-not-is_column.ensures.0 refl)

pub returns-then-not-is_column : goal.returns-then-not-is_column
returns-then-not-is_column c =
    let within : c.loop-i.i < length c.args.wanted.now =
    omega (arith, c.if-columns-wanted.false, c.loop-i-test.true) in (
      λ never. absurd (let e = never in cc),
      λ same. c.if-not-is_column.ensures.1
          (alike_at shape_of _ c.args.columns.now c.args.wanted.now c.loop-i.i
          c.index-columns-i.result _ c.loop-i-test.true within c.index-columns-i.is same),
    )
