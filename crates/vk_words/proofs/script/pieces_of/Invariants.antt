use Rattle.std.proofs.Common.{◌≡◌, map, string_bytes}
use Rattle.vk_words.proofs.script.pieces_of.Given as goal

-- the pieces are those that were given
abbrev pub invariant-loop-piece : goal.invariant-loop-piece
invariant-loop-piece l = map string_bytes l.pieces.items ≡ map (λ piece. piece.now) l.yielded
