use Rattle.std.proofs.Common.{◌≡◌, ◌*◌, length, take}
use Rattle.sha2.specs.Sha256.{digest_bytes}
use Rattle.vk_digests.specs.Lanes.{lane}
use Rattle.vk_digests.proofs.hashing.digest.Given as goal

abbrev pub invariant-words : goal.invariant-words
invariant-words l = record {
  size : length l.out ≡ 32;
  written : take (4 * l.i) l.out ≡ digest_bytes (lane l.j l.hash) l.i;
}
