use Rattle.std.proofs.Common.{refl, rules}
use Rattle.vk_house.specs.Answers.{as_reply, work_of}
use Rattle.vk_house.specs.Commands.{Prove}
use Rattle.vk_auctioneer.specs.Effects.{board_file}
use Rattle.vk_auctioneer.proofs.Asking.{asked_acts, calls_keep}
use Rattle.vk_auctioneer.proofs.Leaving.{board_left}
use Rattle.vk_auctioneer.proofs.publishing.prove.Goals as goal

pub returns-clause-acts : goal.returns-clause-acts
returns-clause-acts g c =
    asked_acts (board_file c.args.board.now) (Prove c.args.id.now c.args.seed.now)
    (as_reply work_of c.prove.result) _ _ _ _ c.say_proved-said.result (λ _. refl)
    (search rules)
    (c.say_proved-said.ensures.said c.args.id.now c.args.seed.now) c.say_proved-said.ensures.written

pub returns-clause-once : goal.returns-clause-once
returns-clause-once g c =
    calls_keep (Prove c.args.id.now c.args.seed.now) (as_reply work_of c.prove.result) _ _
    (search rules)

pub returns-clause-files : goal.returns-clause-files
returns-clause-files g c =
    board_left c.args.id.now c.args.seed.now c.args.board.now c.prove.result
    c.say_proved-said.result (g.S.Shelf.held c.args.shelf.now)
    (g.S.Shelf.held c.say_proved-said.new.shelf)
    (c.say_proved-said.ensures.said c.args.id.now c.args.seed.now) c.say_proved-said.ensures.written
    c.prove.ensures.id c.prove.ensures.seed c.say_proved-said.ensures.proved
