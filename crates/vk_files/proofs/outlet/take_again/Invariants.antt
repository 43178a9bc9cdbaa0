use Rattle.std.proofs.Common.{◌≡◌}
use Rattle.vk_files.proofs.outlet.take_again.Given as goal

-- interrupted calls took nothing
abbrev pub invariant-loop-turn : goal.invariant-loop-turn
invariant-loop-turn g l = g.O.Outlet.taken l.outlet ≡ g.O.Outlet.taken l.fn.outlet
