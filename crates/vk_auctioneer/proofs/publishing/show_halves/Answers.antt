use Rattle.std.proofs.lemmas.Result.{err_from_is_err_and}
use Rattle.vk_job.specs.Published.{reply_of, reply_pieces}
use Rattle.vk_job.proofs.Joined.{reply_is_joined}
use Rattle.vk_auctioneer.proofs.Asking.{text_done, text_stopped}
use Rattle.vk_auctioneer.proofs.publishing.show_halves.Goals as goal

pub returns-in_err-write_files-clause-written : goal.returns-in_err-write_files-clause-written
returns-in_err-write_files-clause-written g c =
    let auction = c.args.job.now.auction in
    let challenge = c.args.challenge.now in
    let stop = err_from_is_err_and c.from_residual-in_err-write_files.result
    c.from_residual-in_err-write_files.ensures.1 in
    rw stop.1 (text_stopped c.args.name.now (reply_of auction challenge)
    (reply_pieces auction challenge) stop.0 (g.S.Shelf.held c.args.shelf.now)
    (g.S.Shelf.held c.write_files.new.shelf) (reply_is_joined auction challenge)
    c.in_err-write_files.ensures.written)

pub returns-clause-written : goal.returns-clause-written
returns-clause-written g c =
    let auction = c.args.job.now.auction in
    let challenge = c.args.challenge.now in
    text_done c.args.name.now (reply_of auction challenge) (reply_pieces auction challenge)
    c.in_ok-said.said (g.S.Shelf.held c.args.shelf.now) (g.S.Shelf.held c.write_files.new.shelf)
    (reply_is_joined auction challenge) c.in_ok-write_files.ensures.written
