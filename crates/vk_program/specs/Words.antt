-- The words of a command line, as they were handed in.
use Rattle.std.specs.Prelude.{◌≡◌, ℕ, List, [], Option, Result, Ok, Err, String, drop, map}
use Rattle.std.specs.String.{string_bytes}
use Rattle.std.specs.Iterator.{Drains}

-- all that is yielded, one after another, and nothing where it can't be had
abbrev pub AreYielded : {S X E : Type 0} → (steps : S → Option X → S → Type 0) → Result S E → List X
    → Type 0
AreYielded steps (Ok items) all = Drains steps items all
AreYielded steps (Err refusal) all = all ≡ []

-- all words that are yielded but the first, which is the program's own name
abbrev pub AreWordsBehind : {S E Z : Type 0} → (steps : S → Option (String Z) → S → Type 0)
    → Result S E → List (List ℕ) → Type 0
AreWordsBehind {Z = Z} steps args words = (all : List (String Z)) × AreYielded steps args all
    × (words ≡ map string_bytes (drop 1 all))
