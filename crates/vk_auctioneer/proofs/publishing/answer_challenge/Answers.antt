use Rattle.std.proofs.Common.{refl, rules}
use Rattle.vk_house.specs.Answers.{as_reply, work_of}
use Rattle.vk_house.specs.Commands.{Answer}
use Rattle.vk_auctioneer.specs.Effects.{reply_file}
use Rattle.vk_auctioneer.proofs.Asking.{asked_acts, calls_keep}
use Rattle.vk_auctioneer.proofs.Leaving.{reply_left}
use Rattle.vk_auctioneer.proofs.publishing.answer_challenge.Goals as goal

pub returns-clause-acts : goal.returns-clause-acts
returns-clause-acts g c =
    let challenge = c.args.challenge.now in
    asked_acts (reply_file c.args.reply.now challenge) (Answer c.args.id.now challenge)
    (as_reply work_of c.answer-answer.result) _ _ _ _ c.say_answered-said.result (λ _. refl)
    (search rules)
    (c.say_answered-said.ensures.said c.args.id.now) c.say_answered-said.ensures.written

pub returns-clause-once : goal.returns-clause-once
returns-clause-once g c =
    calls_keep (Answer c.args.id.now c.args.challenge.now) (as_reply work_of c.answer-answer.result)
    _ _ (search rules)

pub returns-clause-files : goal.returns-clause-files
returns-clause-files g c = λ name.
    reply_left c.args.id.now name c.args.reply.now c.args.challenge.now c.answer-answer.result
    c.say_answered-said.result (g.S.Shelf.held c.args.shelf.now)
    (g.S.Shelf.held c.say_answered-said.new.shelf)
    (c.say_answered-said.ensures.said c.args.id.now) c.say_answered-said.ensures.written
    c.answer-answer.ensures.id c.answer-answer.ensures.answered c.say_answered-said.ensures.proved
