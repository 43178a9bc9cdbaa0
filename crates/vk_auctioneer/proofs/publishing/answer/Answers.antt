use Rattle.vk_house.specs.Commands.{Answer}
use Rattle.vk_auctioneer.specs.Effects.{asked, reply_file}
use Rattle.vk_auctioneer.specs.Inputs.{challenge_in}
use Rattle.vk_auctioneer.proofs.Asking.{read_acts}
use Rattle.vk_words.specs.Orders as Words
use Rattle.vk_auctioneer.proofs.Leaving.{after_reading, unread_left}
use Rattle.vk_auctioneer.proofs.publishing.answer.Goals as goal

pub returns-in-Ok-clause-acts : goal.returns-in-Ok-clause-acts
returns-in-Ok-clause-acts g c =
    read_acts (λ kept challenge. asked (reply_file c.args.reply.now challenge) kept
    (Answer c.args.id.now challenge)) (λ files. challenge_in files c.args.challenge.now)
    c.in-Ok.challenge (g.S.Shelf.held c.args.shelf.now)
    (g.S.Shelf.held c.asked_challenge.new.shelf) _ _ _ c.answer_challenge-said.result
    c.in-Ok.ensures.shelf.held c.in-Ok.ensures.modelled c.answer_challenge-said.ensures.acts

pub returns-in-Ok-clause-files : goal.returns-in-Ok-clause-files
returns-in-Ok-clause-files g c =
    after_reading (Words.Answer c.args.id.now c.args.challenge.now c.args.reply.now)
    c.args.challenge.now c.in-Ok.challenge c.answer_challenge-said.result
    (g.S.Shelf.held c.args.shelf.now) (g.S.Shelf.held c.asked_challenge.new.shelf) _
    c.in-Ok.ensures.shelf.held c.in-Ok.ensures.modelled
    (c.answer_challenge-said.ensures.files c.args.challenge.now)

pub returns-in-Err-clause-files : goal.returns-in-Err-clause-files
returns-in-Err-clause-files g c =
    rw c.said_or_stopped.ensures
    (unread_left (Words.Answer c.args.id.now c.args.challenge.now c.args.reply.now)
    c.args.challenge.now c.in-Err.unread (g.S.Shelf.held c.args.shelf.now)
    (g.S.Shelf.held c.asked_challenge.new.shelf)
    c.in-Err.ensures.shelf.held c.in-Err.ensures.modelled)
