use Rattle.std.proofs.Common.{refl, sym, ◌∙◌}
use Rattle.vk_job.proofs.Joined.{length_reply_pieces}
use Rattle.vk_job.proofs.proof.HonestProof.reply_pieces.Goals as goal

pub returns : goal.returns
returns c = sym (length_reply_pieces c.args.self.now c.args.challenge.now.bits
    ∙ rw (c.requires, c.lanes.ensures.value) refl)
