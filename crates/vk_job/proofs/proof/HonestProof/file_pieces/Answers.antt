use Rattle.std.proofs.Common.{refl, sym, ◌∙◌}
use Rattle.vk_job.proofs.Joined.{length_file_pieces}
use Rattle.vk_job.proofs.proof.HonestProof.file_pieces.Goals as goal

pub returns : goal.returns
returns c head = sym (length_file_pieces head c.args.self.now
    ∙ rw (c.seals.ensures.value, c.lanes.ensures.value) refl)
