use Rattle.std.proofs.Common.{◌≡◌, ◌-◌, ◌≤◌, ◌++◌, length, take}
use Rattle.std.specs.Option.{option_map}
use Rattle.vk_files.proofs.outlet.take_whole.Given as goal

-- so many bytes of the piece were taken
abbrev pub invariant-loop-done : goal.invariant-loop-done
invariant-loop-done g l = record {
  within : l.done ≤ length l.piece;
  taken : g.O.Outlet.taken l.outlet
      ≡ option_map (λ taken. taken ++ take l.done l.piece) (g.O.Outlet.taken l.fn.outlet);
}

abbrev pub decreases-loop-done : goal.decreases-loop-done
decreases-loop-done g l = length l.piece - l.done
