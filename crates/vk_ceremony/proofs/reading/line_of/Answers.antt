use Rattle.std.proofs.Common.{subst}
use Rattle.vk_lines.specs.Lines.{IsNext, rest_of}
use Rattle.vk_ceremony.proofs.Taking.{next_number, next_text, no_line_stands}
use Rattle.vk_ceremony.proofs.reading.line_of.Goals as goal

pub returns-in_ok-line-in-Text-clause-modelled : goal.returns-in_ok-line-in-Text-clause-modelled
returns-in_ok-line-in-Text-clause-modelled c = λ script files old new count same next.
    let here = subst (λ step. IsNext step old new files) c.in-Text.is next in
    c.in_ok-line-in-Text.ensures script (rest_of old files) (rest_of new files)
    (next_text files old new c.args.text.now same here)
    (next_number files old new c.args.before count here)

pub returns-in-End : goal.returns-in-End
returns-in-End c = record {
  modelled = λ script files old new count same next. no_line_stands script files old new c.args.step
      c.args.before count c.in-End.is next;
  taken = λ never. absurd never;
}
