use Rattle.std.proofs.Common.{rules, refl, Err}
use Rattle.vk_judge.specs.Behind.{Judges}
use Rattle.vk_judge.specs.Two.{two_lane_at, rests_of}
use Rattle.vk_judge.specs.declared.stage.TwoLane.{TwoLane}
use Rattle.vk_judge.specs.declared.stage.TwoReaders.{TwoReaders}
use Rattle.vk_judge.proofs.TwoFound.{returned, first_refused, first_stop, first_past}
use Rattle.vk_judge.proofs.two_lane.read_two.Goals as goal

pub returns-in_err-case-clause-modelled : goal.returns-in_err-case-clause-modelled
unfolding two_lane_at
returns-in_err-case-clause-modelled g c =
    first_refused _ _ _ _ _ _ _ _ (search rules) c.in_err-case.ensures.found
    c.read_case.ensures.modelled

pub returns-in_err-first-clause-modelled : goal.returns-in_err-first-clause-modelled
unfolding two_lane_at
returns-in_err-first-clause-modelled g c =
    let readers : TwoReaders =
    record {
      pair = record { file = c.read_case.new.file; reply = c.read_checked.new.reply };
      second = c.args.readers.now.second;
    } in
    returned _ _ _ _ _ (search rules)
    (first_past _ _ _ _ _ _ _
    (λ files. Judges {T = TwoLane} (λ two. (two, rests_of readers files))
    (Err c.in_err-first.field-0.0))
    refl c.in_ok-case.ensures.value c.read_case.ensures.modelled
    (first_stop {T = TwoLane} _ _ _ _ _ _ _ (λ files two. (two, rests_of readers files))
    c.read_case.ensures.shelf.held c.in_err-first.ensures.found c.read_checked.ensures.modelled))
