-- Bytes that are known, given piece by piece.
use Rattle.std.proofs.Common.{◌≡◌, ℕ, ◌+◌, List, ◌++◌, length, take, Option, Some, None, append_assoc, sym, ap, subst, ◌∙◌}
use Rattle.std.proofs.Math.Seq.{take-append-add}
use Rattle.std.specs.Io.KnownBytes.{Consumes}

Consumes_chain : (a b c : Option (List ℕ)) (xs ys : List ℕ) → Consumes a b xs → Consumes b c ys
    → Consumes a c (xs ++ ys)
Consumes_chain None b c xs ys p q = tt
Consumes_chain (Some x) None c xs ys p q = absurd p
Consumes_chain (Some x) (Some y) None xs ys p q = absurd q
Consumes_chain (Some x) (Some y) (Some z) xs ys p q = p ∙ ap (λ l. xs ++ l) q
    ∙ sym (append_assoc xs ys z)

-- what was filled before and then the first of the rest
pub filled_more : (a b c : Option (List ℕ)) (front rest : List ℕ) (filled count : ℕ)
    → length front ≡ filled → Consumes a b front → Consumes b c (take count rest)
    → Consumes a c (take (filled + count) (front ++ rest))
filled_more a b c front rest filled count own p q =
    subst (Consumes a c) (sym (ap (λ n. take (n + count) (front ++ rest)) (sym own)
    ∙ take-append-add front rest count)) (Consumes_chain a b c front (take count rest) p q)
