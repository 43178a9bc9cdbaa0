-- Which words of 64 bits draw a residue, and which are rejected.
use Rattle.std.proofs.Common.{◌≡◌, ℕ, ◌+◌, ◌*◌, ◌/◌, ◌%◌, ◌^◌, ◌<◌, Some, None, arith}
use Rattle.std.proofs.lemmas.Bool.Decides.{nat_tests}
use Rattle.vk_residue.specs.Residue.{modulus}
use Rattle.vk_dice.specs.Draws.{drawn_by, IsOneOfEight}

-- a word by its low 61 bits and the rest
pub parts : (word number : ℕ) → word < 2 ^ 64 → word % 2 ^ 61 ≡ number → IsOneOfEight number word
parts word number h e = (word / 2 ^ 61, omega arith, omega arith)

pub drawn_some : (word r : ℕ) → drawn_by word ≡ Some r → word % 2 ^ 61 ≡ r
drawn_some word r h = grind (arith, nat_tests)

pub some_drawn : (word r : ℕ) → word % 2 ^ 61 ≡ r → r < modulus → drawn_by word ≡ Some r
some_drawn word r e h = grind (arith, nat_tests)

pub drawn_none : (word : ℕ) → drawn_by word ≡ None → word % 2 ^ 61 ≡ modulus
drawn_none word h = grind (arith, nat_tests)

pub none_drawn : (word : ℕ) → word % 2 ^ 61 ≡ modulus → drawn_by word ≡ None
none_drawn word e = grind (arith, nat_tests)

-- one of the eight, by its size and its low bits
pub one_of_eight : (word number : ℕ) → number < 2 ^ 61 → IsOneOfEight number word
    → (word < 2 ^ 64) × (word % 2 ^ 61 ≡ number)
one_of_eight word number h w = let j : ℕ = w.0 in let l : j < 8 = w.1 in
    let e : word ≡ number + j * 2 ^ 61 = w.2 in (omega arith, omega arith)
