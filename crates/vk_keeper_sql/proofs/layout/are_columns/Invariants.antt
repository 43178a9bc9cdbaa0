use Rattle.std.proofs.Common.{◌≡◌, map, take, false}
use Rattle.vk_keeper_sql.specs.Layouts.{shape_of}
use Rattle.vk_keeper_sql.proofs.layout.are_columns.Given as goal

-- the columns so far are as wanted
abbrev pub invariant-loop-i : goal.invariant-loop-i
invariant-loop-i l = map shape_of (take l.i l.columns)
    ≡ map (λ w. record { name = w.0.now; kind = w.1; not_null = w.2; is_strict = false })
    (take l.i l.wanted)
