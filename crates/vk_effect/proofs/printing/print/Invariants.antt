use Rattle.std.proofs.Common.{◌≡◌, ◌++◌, take, string_bytes}
use Rattle.std.specs.Prelude.{option_map}
use Rattle.std.specs.List.{flat_map}
use Rattle.vk_effect.proofs.printing.print.Given as goal

-- the lines so far were taken
abbrev pub invariant-loop-line : goal.invariant-loop-line
invariant-loop-line g l = record {
  taken : g.W.Sink.taken l.out
      ≡ option_map (λ before. before ++ flat_map string_bytes (take l.line-index l.lines))
      (g.W.Sink.taken l.fn.out);
  kept : g.W.Sink.faults l.out ≡ g.W.Sink.faults l.fn.out;
}
