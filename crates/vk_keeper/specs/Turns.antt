-- How many calls of a keeper were made, and in which order.
use Rattle.std.specs.Prelude.{◌≡◌, ℕ, ◌≤◌, List, [], ◌∷◌}
use Rattle.vk_io.specs.Faults.{one_more}

-- a call of a keeper
pub data Call : Type 0 where
  Get : Call
  Put : Call

-- the number of calls, and the number of the last `get` among them, from 1. Both stand still at the
-- greatest u64, and from there on say nothing of later calls
pub record Turns : Type 0 where
  pub calls : ℕ
  pub last_get : ℕ

-- the numbers after one call more
abbrev pub turns_after : Call → Turns → Turns
turns_after Get turns = record { calls = one_more turns.calls; last_get = one_more turns.calls }
turns_after Put turns = record { calls = one_more turns.calls; last_get = turns.last_get }

-- the numbers after these calls, one after another
abbrev pub turns_after_all : List Call → Turns → Turns
turns_after_all [] turns = turns
turns_after_all (call ∷ later) turns = turns_after_all later (turns_after call turns)

-- there was one call more, a `get`
abbrev pub AfterGet : Turns → Turns → Type 0
AfterGet old new = new ≡ turns_after Get old

-- there was one call more, a `put`
abbrev pub AfterPut : Turns → Turns → Type 0
AfterPut old new = new ≡ turns_after Put old

-- the first call was a `get` and none after it, and there was at most one call more
pub record GetsOnce (old new : Turns) : Type 0 where
  pub get : new.last_get ≡ one_more old.calls
  pub few : new.calls ≤ one_more (one_more old.calls)
