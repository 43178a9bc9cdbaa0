use Rattle.std.proofs.Common.{ap, sym, ◌∙◌, ◌-◌, arith, false}
use Rattle.std.specs.Prelude.{slice_index_or}
use Rattle.vk_reply.specs.Texts.{reply_lane_text}
use Rattle.vk_job.specs.Proofs.{lane_shown_in}
use Rattle.vk_job.proofs.Joined.{reply_piece_is, reply_end_is}
use Rattle.vk_job.proofs.proof.HonestProof.reply_piece.Goals as goal

pub returns-then-index-lanes : goal.returns-then-index-lanes
returns-then-index-lanes c =
    let proof = c.args.self.now in
    let lanes = c.lanes-lanes.ensures.value in
    c.in_ok-piece-2.ensures
    ∙ ap (λ bits. reply_lane_text c.args.index
    (lane_shown_in proof c.args.index (slice_index_or bits (c.args.index - 1) false)))
    c.as_slice.ensures
    ∙ sym (reply_piece_is proof c.args.challenge.now.bits c.args.index (omega arith) (omega arith))

pub returns : goal.returns
returns c =
    let lanes = c.lanes-lanes.ensures.value in
    c.in_ok-piece-3.ensures ∙ sym
    (reply_end_is c.args.self.now c.args.challenge.now.bits c.args.index (omega arith)
    c.requires.index)
