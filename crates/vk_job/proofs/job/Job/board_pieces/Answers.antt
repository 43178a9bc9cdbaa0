use Rattle.std.proofs.Common.{ap, ◌∙◌, length}
use Rattle.vk_board.specs.Texts.{head_text}
use Rattle.vk_job.specs.Proofs.{file_pieces}
use Rattle.vk_job.specs.Published.{head_of}
use Rattle.vk_job.proofs.job.Job.board_pieces.Goals as goal

pub returns : goal.returns
returns c =
    let head = head_text (head_of c.args.self.now.auction) in
    c.file_pieces.ensures head ∙ ap (λ proof. length (file_pieces head proof)) c.proof.ensures
