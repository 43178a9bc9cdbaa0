use Rattle.std.proofs.Common.{◌+◌, Bool, List, drop, IfSome, IsTrue, subst}
use Rattle.vk_lines.specs.Lines.{rest_of}
use Rattle.vk_judge.specs.Behind.{Judges}
use Rattle.vk_judge.specs.Parts.{rest_judged}
use Rattle.vk_judge.proofs.TwoFound.{second_found}
use Rattle.vk_judge.proofs.two_lane.read_second.Goals as goal

pub returns-clause-modelled : goal.returns-clause-modelled
returns-clause-modelled g c =
    let P : List Bool → Type 0 =
    λ bits. IfSome (g.S.Shelf.held c.read_checked-judged.new.shelf)
    (λ files. IsTrue c.is_refused-asked.result
    → Judges (λ (done : Unit {0}). done) c.judge_on-first.result
    (rest_judged c.args.base.now.statement (c.args.lane + 1) (drop c.args.lane bits)
    (rest_of c.args.readers.now.pair.file files) (rest_of c.args.readers.now.pair.reply files))) in
    second_found _ _ _ _ _ _ _ _ _ c.read_checked-judged.ensures.shelf.held
    c.is_refused-asked.ensures
    c.of_second-second.ensures.found c.read_checked-judged.ensures.modelled
    (subst P c.as_slice.ensures c.judge_on-first.ensures.modelled)
