use Rattle.std.specs.FinMap.{get}
use Rattle.vk_lines.specs.Lines.{rest_of}
use Rattle.vk_judge.specs.Two.{of_two}
use Rattle.vk_judge.specs.Begun.{five_rests}
use Rattle.vk_judge.proofs.Attempts.{file_begun}
use Rattle.vk_bids.proofs.Leading.{both_held}
use Rattle.vk_form_tests.proofs.Opening.{sums_of_begun, sums_of_file}
use Rattle.vk_form_tests.proofs.judging.extract.Goals as goal

pub returns-clause-of_file : goal.returns-clause-of_file
returns-clause-of_file g c =
    let names = c.args.names.now in
    let two = c.in_ok-two.two in
    let found = c.in_ok-found.found in
    both_held (g.S.Shelf.held c.args.shelf.now) (g.S.Shelf.held c.begin.new.shelf)
    c.in_ok-two.ensures.shelf.held
    (λ files begun told. sums_of_begun (get files names.file.now)
    (rest_of two.readers.pair.file files) found
    (file_begun files names.file.now names.challenge1.now names.reply1.now names.challenge2.now
    names.reply2.now (of_two five_rests two files) begun)
    (sums_of_file (rest_of two.readers.pair.file files) (rest_of c.open.new.lines files)
    c.in_ok-opened.opened found told c.in_ok-found.ensures.opens))
    c.in_ok-two.ensures.modelled c.in_ok-opened.ensures.modelled
