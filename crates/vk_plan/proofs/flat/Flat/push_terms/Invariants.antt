use Rattle.std.proofs.Common.{◌≡◌, ◌++◌, take, map}
use Rattle.vk_plan.proofs.flat.Flat.push_terms.Given as goal

abbrev pub invariant-loop-term : goal.invariant-loop-term
invariant-loop-term l =
    (l.self.wires.items ≡ l.fn.self.wires.items
    ++ map (λ term. term.wire) (take l.term-index l.terms))
    × (l.self.factors.items ≡ l.fn.self.factors.items
    ++ map (λ term. term.factor) (take l.term-index l.terms))
    × (l.self.ends ≡ l.fn.self.ends)
    × (l.self.constants ≡ l.fn.self.constants)
