use Rattle.std.specs.Io.KnownBytes.{Keeps}
use Rattle.vk_files.proofs.pieces.read_some.Given as goal

-- interrupted calls took nothing
abbrev pub invariant-loop-turn : goal.invariant-loop-turn
invariant-loop-turn g l = Keeps (g.R.Read.remaining l.fn.reader) (g.R.Read.remaining l.reader)
