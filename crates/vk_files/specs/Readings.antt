-- What a reading of a file gives that is kept open.
use Rattle.std.specs.Prelude.{◌≡◌, ℕ, ◌≤◌, List, take, length, slice_index_or, Option, Result, Ok, IfOk, OnOk}
use Rattle.vk_files.specs.Ahead.{Holds, part_held}
use Rattle.vk_files.specs.Moves.{GivesFrom}
use Rattle.vk_files.specs.declared.file_shelf.KeptFile.{KeptFile}

-- as many bytes were asked for from that place on, no more than are read at once. They are those
-- that the file has ahead then: which it had before, if all of them were there; and else those that
-- it gave from that place on
pub record IsRead {F E : Type 0} (position : F → Option ℕ) (remaining : F → Option (List ℕ))
    (at room : ℕ) (result : Result ℕ E) (into : List ℕ) (old new : KeptFile F) : Type 0 where
  pub held : room ≤ 65536 → Holds old.ahead at room → (result ≡ Ok room) × (new ≡ old)
  pub anew : OnOk result (room ≤ 65536 → (Holds old.ahead at room → ⊥)
      → (new.ahead.from ≡ at) × GivesFrom position remaining at 65536 new.ahead.held
      old.named.file new.named.file)
  pub bytes : IfOk result (λ n. room ≤ 65536 → take n into ≡ part_held new.ahead at room)
  pub count : IfOk result (λ n. room ≤ 65536 → n ≡ length (part_held new.ahead at room))

-- so it is of what stands at that place before and after
abbrev pub AtPlace : {X : Type 0} → ℕ → (X → X → Type 0) → (old new : List X) → Type 0
AtPlace {X} place step old new =
    (d : X) → step (slice_index_or old place d) (slice_index_or new place d)
