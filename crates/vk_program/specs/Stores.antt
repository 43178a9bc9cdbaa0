-- Which files become no store, and beside which none is opened.
use Rattle.std.specs.Prelude.{ℕ, ◌==◌, ◌&&◌, ◌||◌, not, bit_and, bit_or, nat_lt, if◌then◌else◌, Bool, false, Option, Some, None, Result, Ok, Err}
use Rattle.vk_program.specs.declared.house.Unopened.{Unopened}
use Rattle.vk_program.specs.declared.house.Unopened.TheVariants.{Exposed, Anothers, Linked}
use Rattle.vk_program.specs.declared.store.Access.{Access}
use Rattle.vk_program.specs.declared.store.OwnFile.{OwnFile}

-- what others than the owner may do by a mode: its last six bits
abbrev pub others : ℕ → ℕ
others mode = bit_and mode 63

-- who else may write: two of these bits
abbrev pub writers : ℕ → ℕ
writers mode = bit_and mode 18

-- a file that is empty, or of one byte, which SQLite takes for empty, and that others than its
-- owner may read, write or run
abbrev pub is_exposed : (length mode : ℕ) → Bool
is_exposed length mode = nat_lt length 2 && not (others mode == 0)

-- such a file that another user owns than who runs the program, where it was there before
abbrev pub is_anothers : OwnFile → Option ℕ → Bool
is_anothers file None = false
is_anothers file (Some runner) = nat_lt file.length 2 && not (file.access.owner == runner)

-- why the store's own file is refused: by the first of these that holds, and by nothing else
abbrev pub own_refusal : OwnFile → Option ℕ → Result Unit Unopened
own_refusal file runner =
    if is_exposed file.length file.access.mode then Err Exposed
    else (if is_anothers file runner then Err Anothers
    else (if nat_lt 1 file.names then Err Linked else Ok tt))

-- a file beside a store lets in whom the store doesn't: others may do more by its mode; or nobody
-- but its owner may write into the store, and the file is another user's
abbrev pub lets_in : (side store : Access) → Bool
lets_in side store =
    not (bit_or (others side.mode) (others store.mode) == others store.mode)
    || (writers store.mode == 0 && not (side.owner == store.owner))
