use Rattle.std.proofs.lemmas.Result.{err_from_is_err_and}
use Rattle.vk_job.specs.Published.{board_of, board_pieces}
use Rattle.vk_job.proofs.Joined.{board_is_joined}
use Rattle.vk_auctioneer.proofs.Asking.{text_done, text_stopped}
use Rattle.vk_auctioneer.proofs.publishing.publish.Goals as goal

pub returns-in_err-write_files-clause-written : goal.returns-in_err-write_files-clause-written
returns-in_err-write_files-clause-written g c =
    let auction = c.args.job.now.auction in
    let stop = err_from_is_err_and c.from_residual.result c.from_residual.ensures.1 in
    rw stop.1 (text_stopped c.args.name.now (board_of auction) (board_pieces auction) stop.0
    (g.S.Shelf.held c.args.shelf.now) (g.S.Shelf.held c.write_files.new.shelf)
    (board_is_joined auction) c.in_err-write_files.ensures.written)

pub returns-clause-written : goal.returns-clause-written
returns-clause-written g c =
    let auction = c.args.job.now.auction in
    text_done c.args.name.now (board_of auction) (board_pieces auction) c.of_short-said.result
    (g.S.Shelf.held c.args.shelf.now) (g.S.Shelf.held c.write_files.new.shelf)
    (board_is_joined auction) c.in_ok-write_files.ensures.written
