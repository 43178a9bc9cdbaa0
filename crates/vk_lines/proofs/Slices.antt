-- Parts of an array between two places: `take (b - a) (drop a bytes)`.
use Rattle.std.proofs.Common.{◌≡◌, ℕ, ◌+◌, ◌-◌, ◌≤◌, List, ◌++◌, length, take, drop, ap, sym, ◌∙◌, arith, take-take}
use Rattle.std.specs.List.{copy_within}
use Rattle.std.proofs.lemmas.List.{drop-take, drop-drop, length-drop, take-append-drop}
use Rattle.std.proofs.lemmas.List.Edits.{take-paste}

-- a part within the front of some bytes
part_of_front : (m k n : ℕ) (bytes : List ℕ) → k + m ≤ n
    → take m (drop k (take n bytes)) ≡ take m (drop k bytes)
part_of_front m k n bytes within =
    let more : n ≡ k + (n - k) = omega arith in
    ap (λ c. take m (drop k (take c bytes))) more ∙ ap (take m) (drop-take k (n - k) bytes)
    ∙ take-take m (n - k) (drop k bytes) (omega arith)

-- bytes with the same front have the same parts in it
pub part_kept : (old new : List ℕ) (a b end : ℕ) → take end new ≡ take end old → a ≤ b → b ≤ end
    → take (b - a) (drop a new) ≡ take (b - a) (drop a old)
part_kept old new a b end same order within =
    sym (part_of_front (b - a) a end new (omega arith))
    ∙ ap (λ front. take (b - a) (drop a front)) same
    ∙ part_of_front (b - a) a end old (omega arith)

-- a part that was moved to the front with all from `first` to `end`
pub part_moved : (bytes : List ℕ) (first a b end : ℕ) → first ≤ a → a ≤ b → b ≤ end
    → end ≤ length bytes
    → take (b - first - (a - first)) (drop (a - first) (copy_within bytes first end 0))
    ≡ take (b - a) (drop a bytes)
part_moved bytes first a b end before order within inside =
    let count : b - first - (a - first) ≡ b - a = omega arith in
    let moved : take (end - first) (copy_within bytes first end 0)
    ≡ take (end - first) (drop first bytes) =
    ap (λ m. take m (copy_within bytes first end 0)) (omega arith)
    ∙ take-paste bytes 0 (drop first bytes) (end - first) (omega arith)
    (omega (arith, length-drop first bytes)) in
    ap (λ m. take m (drop (a - first) (copy_within bytes first end 0))) count
    ∙ sym (part_of_front (b - a) (a - first) (end - first) (copy_within bytes first end 0)
    (omega arith))
    ∙ ap (λ front. take (b - a) (drop (a - first) front)) moved
    ∙ part_of_front (b - a) (a - first) (end - first) (drop first bytes) (omega arith)
    ∙ ap (take (b - a)) (drop-drop (a - first) first bytes ∙ ap (λ p. drop p bytes) (omega arith))

take_sum : (m n : ℕ) (bytes : List ℕ) → take (m + n) bytes ≡ take m bytes ++ take n (drop m bytes)
take_sum m n bytes =
    sym (take-append-drop m (take (m + n) bytes))
    ∙ ap (λ front. front ++ drop m (take (m + n) bytes)) (take-take m (m + n) bytes (omega arith))
    ∙ ap (λ back. take m bytes ++ back) (drop-take m n bytes)

-- a part that grew at its end
pub part_grown : (old new : List ℕ) (next end count : ℕ) → take end new ≡ take end old → next ≤ end
    → take (end + count - next) (drop next new)
    ≡ take (end - next) (drop next old) ++ take count (drop end new)
part_grown old new next end count same order =
    let longer : end + count - next ≡ (end - next) + count = omega arith in
    let place : next + (end - next) ≡ end = omega arith in
    ap (λ m. take m (drop next new)) longer
    ∙ take_sum (end - next) count (drop next new)
    ∙ ap (λ front. front ++ take count (drop (end - next) (drop next new)))
    (part_kept old new next end end same order (omega arith))
    ∙ ap (λ back. take (end - next) (drop next old) ++ take count back)
    (drop-drop (end - next) next new ∙ ap (λ p. drop p new) place)
