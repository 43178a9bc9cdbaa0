-- Bytes of a file that were read ahead of what is asked for.
use Rattle.std.specs.Prelude.{◌≡◌, ℕ, ◌-◌, nat_le, List, [], length, take, drop, if◌then◌else◌}

-- what is held of a file: its bytes from a place on
pub record AheadValue : Type 0 where
  pub from : ℕ
  pub held : List ℕ

-- what is held from another place on
abbrev pub held_from : AheadValue → ℕ → List ℕ
held_from ahead at = if nat_le ahead.from at then drop (at - ahead.from) ahead.held else []

-- at most so many bytes of it
abbrev pub part_held : AheadValue → ℕ → ℕ → List ℕ
part_held ahead at room = take room (held_from ahead at)

-- so many bytes are held from that place on
abbrev pub Holds : AheadValue → ℕ → ℕ → Type 0
Holds ahead at room = length (part_held ahead at room) ≡ room
