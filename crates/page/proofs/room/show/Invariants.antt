use Rattle.std.proofs.Common.{◌≡◌, ◌≤◌, ◌++◌, drop, length, take, flat_map}
use Rattle.page.specs.Shown.{held_under, shown_bytes, wanted_bytes}
use Rattle.page.proofs.room.show.Given as goal

-- the bytes so far, with those of the files that are left, are all of them
abbrev pub invariant-loop-file : goal.invariant-loop-file
invariant-loop-file l = record {
  within : l.at ≤ length l.room;
  bytes : take l.at l.room ++ flat_map
      (λ file. wanted_bytes (held_under l.shelf.files file.name.now)) (drop l.file-index l.wanted)
      ≡ shown_bytes l.text l.shelf.files l.wanted;
}
