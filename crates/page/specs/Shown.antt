-- What is handed back: the room's bytes.
use Rattle.std.specs.Prelude.{◌≡◌, ℕ, ◌+◌, ◌-◌, ◌^◌, ◌<◌, ◌≤◌, List, ◌++◌, length, take, Option, Some, None, if◌then◌else◌}
use Rattle.std.specs.FinMap.{get}
use Rattle.std.specs.Int.{w64, to_be_bytes}
use Rattle.std.specs.List.{flat_map}
use Rattle.std.specs.Str.{is_utf8}
use Rattle.vk_io.specs.Files.{Files}
use Rattle.page.specs.declared.room.WantedName.{WantedName}

-- a number in 8 bytes, the highest first
abbrev pub number_bytes : ℕ → List ℕ
number_bytes number = to_be_bytes w64 number

-- how many bytes there are, and then these
abbrev pub sized_bytes : List ℕ → List ℕ
sized_bytes bytes = number_bytes (length bytes) ++ bytes

-- what a file of that name holds. No file has a name that isn't UTF-8
abbrev pub held_under : Files → List ℕ → Option (List ℕ)
held_under files name = if is_utf8 name then get files name else None

-- a file that is wanted; 2^64 - 1 in the place of a length says that there is none
abbrev pub wanted_bytes : Option (List ℕ) → List ℕ
wanted_bytes None = number_bytes (2 ^ 64 - 1)
wanted_bytes (Some bytes) = sized_bytes bytes

-- the text that was printed, and then each file that is wanted, in order
abbrev pub shown_bytes : (text : List ℕ) → Files → List WantedName → List ℕ
shown_bytes text files wanted =
    sized_bytes text ++ flat_map (λ file. wanted_bytes (held_under files file.name.now)) wanted

-- the room begins with these bytes
abbrev pub BeginsWith : (bytes room : List ℕ) → Type 0
BeginsWith bytes room = (rest : List ℕ) × (room ≡ bytes ++ rest)

-- the length of no text, as far as the room has bytes for it
abbrev pub IsBare : List ℕ → Type 0
IsBare room = take 8 room ≡ take (length room) (number_bytes 0)

-- ---- one piece

-- the bytes stand at that place of the room, and before them what stood there
pub record IsPut (bytes : List ℕ) (at end : ℕ) (old new : List ℕ) : Type 0 where
  pub place : end ≡ at + length bytes
  pub within : end ≤ length old
  pub front : take end new ≡ take at old ++ bytes

-- the bytes are put at that place, and the place behind them is answered; or the room is too small
-- for them
abbrev pub Puts : (bytes : List ℕ) → (at : ℕ) → Option ℕ → (old new : List ℕ) → Type 0
Puts bytes at (Some end) old new = IsPut bytes at end old new
Puts bytes at None old new = length old < at + length bytes
