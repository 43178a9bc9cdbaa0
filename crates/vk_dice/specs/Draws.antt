-- What is drawn from the words ahead: residues, keys and bits.
use Rattle.std.specs.Prelude.{◌≡◌, ℕ, suc, zero, ◌+◌, ◌*◌, ◌%◌, ◌^◌, ◌<◌, ◌==◌, List, ◌++◌, Bool, Option, Some, None, if◌then◌else◌}
use Rattle.std.specs.Int.{w64, to_be_bytes}
use Rattle.vk_residue.specs.Residue.{modulus}
use Rattle.vk_dice.specs.Words.{later}

-- the residue that a word draws: its low 61 bits, and none where these are all set
abbrev pub drawn_by : ℕ → Option ℕ
drawn_by word = if word % 2 ^ 61 == modulus then None else Some (word % 2 ^ 61)

-- a value, and where there is none another
abbrev pub first_of : {A : Type 0} → Option A → Option A → Option A
first_of None other = other
first_of (Some x) other = Some x

-- the residue of the first of so many words that draws one
abbrev pub residue_within : ℕ → (ℕ → ℕ) → Option ℕ
residue_within zero ahead = None
residue_within (suc more) ahead =
    first_of (drawn_by (ahead 0)) (residue_within more (later 1 ahead))

-- one word was looked at where it drew a residue, else the rest besides
abbrev pub one_and : Option ℕ → ℕ → ℕ
one_and None rest = 1 + rest
one_and (Some residue) rest = 1

-- how many of so many words are looked at for it: up to the first that draws one, else all
abbrev pub looked_at : ℕ → (ℕ → ℕ) → ℕ
looked_at zero ahead = 0
looked_at (suc more) ahead = one_and (drawn_by (ahead 0)) (looked_at more (later 1 ahead))

-- a residue is drawn from one of the next four words; where none of them draws one there is none
abbrev pub drawn_residue : (ℕ → ℕ) → Option ℕ
drawn_residue ahead = residue_within 4 ahead

-- the words ahead after that draw: those after the last word that it looked at
abbrev pub after_residue : (ℕ → ℕ) → ℕ → ℕ
after_residue ahead = later (looked_at 4 ahead) ahead

-- a key is four words, each as 8 bytes from the highest to the lowest
abbrev pub drawn_key : (ℕ → ℕ) → List ℕ
drawn_key ahead =
    (to_be_bytes w64 (ahead 0) ++ to_be_bytes w64 (ahead 1))
    ++ (to_be_bytes w64 (ahead 2) ++ to_be_bytes w64 (ahead 3))

-- a bit is the lowest bit of one word
abbrev pub drawn_bit : (ℕ → ℕ) → Bool
drawn_bit ahead = ahead 0 % 2 == 1

-- the word is one of the eight whose low 61 bits are that number
abbrev pub IsOneOfEight : ℕ → ℕ → Type 0
IsOneOfEight number word = (j : ℕ) × (j < 8) × (word ≡ number + j * 2 ^ 61)
