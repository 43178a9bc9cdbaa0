use Rattle.std.proofs.Common.{ap, sym, ◌∙◌, ◌-◌, arith}
use Rattle.vk_board.specs.Texts.{lane_text}
use Rattle.vk_job.specs.Proofs.{lane_in}
use Rattle.vk_job.proofs.Joined.{lane_piece_is, file_end_is}
use Rattle.vk_job.proofs.proof.HonestProof.file_piece.Goals as goal

pub returns-then-index-seals-2 : goal.returns-then-index-seals-2
returns-then-index-seals-2 c =
    let proof = c.args.self.now in
    let seals = c.seals-seals.ensures.value in
    let lanes = c.lanes-lanes.ensures.value in
    c.in_ok-piece-3.ensures
    ∙ ap (λ before. lane_text (c.args.index - before) (lane_in proof (c.args.index - before))) seals
    ∙ sym (lane_piece_is c.args.head.now proof c.args.index (omega arith) (omega arith))

pub returns : goal.returns
returns c =
    let seals = c.seals-seals.ensures.value in
    let lanes = c.lanes-lanes.ensures.value in
    c.in_ok-piece-4.ensures ∙ sym
    (file_end_is c.args.head.now c.args.self.now c.args.index (omega arith) c.requires)
