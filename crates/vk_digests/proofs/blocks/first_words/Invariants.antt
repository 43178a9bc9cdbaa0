use Rattle.std.proofs.Common.{◌≡◌, ℕ, ◌<◌, [], length, take, slice_index_or}
use Rattle.sha2.specs.Sha256.{first_words}
use Rattle.vk_digests.specs.Lanes.{lane}
use Rattle.vk_digests.proofs.blocks.first_words.Given as goal

abbrev pub invariant-load : goal.invariant-load
invariant-load l = record {
  size : length l.words ≡ 16;
  loaded : (j : ℕ) → j < 4 → take l.i (lane j l.words)
      ≡ first_words (slice_index_or l.messages j []) l.i;
}
