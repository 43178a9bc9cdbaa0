use Rattle.vk_words.proofs.ScriptLemmas.{line_words-text, line_words-none}
use Rattle.vk_words.proofs.script.words_of_line.Goals as goal

pub returns-in_ok-words-in-Ok : goal.returns-in_ok-words-in-Ok
returns-in_ok-words-in-Ok c =
    line_words-text c.args.line.now c.in-Ok.text.now c.in-Ok.ensures.cases.0 c.in-Ok.ensures.cases.1
    _ c.in_ok-words-in-Ok.ensures

pub returns-in-Err : goal.returns-in-Err
returns-in-Err c = line_words-none c.args.line.now c.in-Err.ensures.cases.0
