use Rattle.vk_job.proofs.Joined.{file_is_joined, shown_is_joined, board_is_joined, reply_is_joined}
use Rattle.vk_job.proofs.laws.pieces_are_texts.Goals as goal

pub returns-clause-file : goal.returns-clause-file
returns-clause-file c = file_is_joined

pub returns-clause-shown : goal.returns-clause-shown
returns-clause-shown c proof challenge = shown_is_joined proof challenge.bits

pub returns-clause-board : goal.returns-clause-board
returns-clause-board c = board_is_joined

pub returns-clause-reply : goal.returns-clause-reply
returns-clause-reply c = reply_is_joined
