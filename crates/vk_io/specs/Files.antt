-- Named files as a finite map, and what the calls of a shelf and of a sink do to what is held and
-- taken.
use Rattle.std.specs.Prelude.{◌≡◌, ℕ, ◌≤◌, List, [], ◌++◌, length, take, drop, Option, Some, None, Result, Ok, Err, unwrap_or, IsSomeAnd, ◌⊎◌}
use Rattle.std.specs.Ordering.{nat_cmp}
use Rattle.std.specs.Cmp.Lexicographic.{slice_cmp}
use Rattle.std.specs.FinMap.{FinMap, get, insert}

-- files: from names, as their bytes, to what they hold
abbrev pub Files : Type 0
Files = FinMap (slice_cmp nat_cmp) (List ℕ)

-- what the named file holds, and no bytes where the name isn't held
abbrev pub bytes_of : Files → List ℕ → List ℕ
bytes_of files name = unwrap_or (get files name) []

-- the bytes from a place on, as many as there is room for
abbrev pub part_of : List ℕ → ℕ → ℕ → List ℕ
part_of bytes at room = take room (drop at bytes)

-- content that is modelled stays modelled and makes this step; content that isn't modelled stays so
abbrev pub Modelled : {X : Type 0} → (X → X → Type 0) → Option X → Option X → Type 0
Modelled step None new = new ≡ None
Modelled step (Some old) new = IsSomeAnd new (step old)

-- `create` empties the named file; refused, it may have left it as it was. All other files stay
abbrev pub Creates : {E : Type 0} → List ℕ → Result Unit E → Files → Files → Type 0
Creates name (Ok done) old new = new ≡ insert old name []
Creates name (Err refusal) old new = (new ≡ old) ⊎ (new ≡ insert old name [])

-- the named file has grown by the first k bytes of the piece
abbrev pub Grows : List ℕ → List ℕ → ℕ → Files → Files → Type 0
Grows name piece k old new = new ≡ insert old name (bytes_of old name ++ take k piece)

-- `append` adds the piece to the named file; refused, a prefix of it or nothing. All other files
-- stay
abbrev pub Appends : {E : Type 0} → List ℕ → List ℕ → Result Unit E → Files → Files → Type 0
Appends name piece (Ok done) old new = new ≡ insert old name (bytes_of old name ++ piece)
Appends name piece (Err refusal) old new = (new ≡ old)
    ⊎ ((k : ℕ) × (k ≤ length piece) × Grows name piece k old new)

-- `put` takes the piece; refused, a prefix of it
abbrev pub Takes : {E : Type 0} → List ℕ → Result Unit E → List ℕ → List ℕ → Type 0
Takes piece (Ok done) old new = new ≡ old ++ piece
Takes piece (Err refusal) old new = (k : ℕ) × (k ≤ length piece) × (new ≡ old ++ take k piece)
