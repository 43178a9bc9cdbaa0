-- A file read whole, by a reader that takes at most so many bytes.
use Rattle.std.specs.Prelude.{ℕ, ◌≤◌, ⊤, List, length, Option, Some, None, nat_lt, if◌then◌else◌}
use Rattle.std.specs.FinMap.{get}
use Rattle.vk_io.specs.declared.content.Content.{Content}
use Rattle.vk_io.specs.declared.content.Content.TheVariants.{Missing, TooLong, Held}
use Rattle.vk_io.specs.Files.{Files}

-- no file, one of more than `most` bytes, or the bytes
abbrev pub content_by : ℕ → Option (List ℕ) → Content
content_by most None = Missing
content_by most (Some bytes) = if nat_lt most (length bytes) then TooLong else Held bytes

-- what the named file is to such a reader
abbrev pub content_of : Files → List ℕ → ℕ → Content
content_of files name most = content_by most (get files name)

-- where bytes were taken, no more than `most`
abbrev pub IsWithin : ℕ → Content → Type 0
IsWithin most Missing = ⊤
IsWithin most TooLong = ⊤
IsWithin most (Held bytes) = length bytes ≤ most

-- where no bytes are taken, and so no memory
abbrev pub TakesNone : Content → Type 0
TakesNone Missing = ⊤
TakesNone TooLong = ⊤
TakesNone (Held bytes) = ⊥
