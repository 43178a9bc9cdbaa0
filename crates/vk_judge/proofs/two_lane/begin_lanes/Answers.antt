use Rattle.std.proofs.Common.{rules}
use Rattle.vk_lines.specs.Lines.{rest_of}
use Rattle.vk_judge.specs.Parts.{attempt_at}
use Rattle.vk_judge.specs.Two.{base_behind}
use Rattle.vk_judge.proofs.TwoFound.{first_refused}
use Rattle.vk_judge.proofs.two_lane.begin_lanes.Goals as goal

pub returns-in_err-first_bits-clause-modelled : goal.returns-in_err-first_bits-clause-modelled
unfolding base_behind
returns-in_err-first_bits-clause-modelled g c =
    first_refused _ _ _ _ (λ files. rest_of c.read_attempt.new.reply files)
    (λ files. attempt_at c.args.statement.lanes (rest_of c.args.first.now files)
    (rest_of c.args.readers.now.pair.reply files)) _ _ (search rules)
    c.in_err-first_bits.ensures.found (search rules)
