-- Arithmetic modulo 2^61 - 1, on whole numbers.
use Rattle.std.specs.Prelude.{ℕ, ◌+◌, ◌-◌, ◌*◌, ◌%◌, ◌<◌}

-- 2^61 - 1
abbrev pub modulus : ℕ
modulus = 2305843009213693951

-- a residue is a whole number below the modulus
abbrev pub IsResidue : ℕ → Type 0
IsResidue n = n < modulus

abbrev pub sum : ℕ → ℕ → ℕ
sum a b = (a + b) % modulus

-- of residues: the number that b has to be added to for a
abbrev pub difference : ℕ → ℕ → ℕ
difference a b = (a + (modulus - b)) % modulus

-- of a residue: the number whose sum with it is 0
abbrev pub negative : ℕ → ℕ
negative a = (modulus - a) % modulus

abbrev pub product : ℕ → ℕ → ℕ
product a b = (a * b) % modulus
