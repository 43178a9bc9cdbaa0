use Rattle.std.proofs.Common.{◌≡◌, ◌++◌, ◌∷◌, [], codes, decimal, flat_map, take}
use Rattle.vk_lines.specs.Forms.{line, spaced}
use Rattle.vk_claim.proofs.front.push_each.Given as goal

abbrev pub invariant-loop-number : goal.invariant-loop-number
invariant-loop-number l =
    l.out.items ≡ l.fn.out.items
    ++ flat_map (λ number. line (spaced (codes "n" ∷ decimal number ∷ [])))
    (take l.number-index l.fn.numbers)
