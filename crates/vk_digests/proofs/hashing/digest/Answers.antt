use Rattle.std.proofs.Common.{◌∙◌, refl, arith, rules}
use Rattle.std.proofs.lemmas.Slice.{overwrites}
use Rattle.sha2.specs.Sha256.{digest_bytes}
use Rattle.sha2.proofs.Absorbing256.{digest_more}
use Rattle.vk_digests.specs.Lanes.{lane}
use Rattle.vk_digests.proofs.Lanes.{lane_at}
use Rattle.vk_digests.proofs.hashing.digest.Goals as goal

pub words-init : goal.words-init
unfolding digest_bytes
words-init c = record { size = refl; written = refl }

pub words-preserved : goal.words-preserved
words-preserved c = record {
  size = search (rules, overwrites);
  written = digest_more c.words.out (lane c.args.j c.args.hash.now) _ c.words.i _
      c.words.invariant.written (omega arith)
      (c.copy_from_slice.ensures.after ∙ rw lane_at c.to_be_bytes.ensures);
}
