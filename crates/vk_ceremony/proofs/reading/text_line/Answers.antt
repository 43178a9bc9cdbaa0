use Rattle.std.proofs.Common.{map, string_bytes}
use Rattle.vk_ceremony.proofs.Taking.{end_says, words_say, no_words_say}
use Rattle.vk_ceremony.proofs.reading.text_line.Goals as goal

pub returns-then-eq : goal.returns-then-eq
returns-then-eq c = λ script rest behind taken count. end_says script rest c.args.text.now
    c.as_slice.result.now behind taken c.as_slice.ensures c.if-eq.ensures

pub returns-in-Some : goal.returns-in-Some
returns-in-Some c = λ script rest behind taken count.
    words_say script rest c.args.text.now c.as_slice.result.now behind taken c.as_slice.ensures
    (map string_bytes c.in-Some.words.items) c.if-eq.ensures
    (rw c.in-Some.is at c.in_ok-words.ensures)

pub returns-in-None : goal.returns-in-None
returns-in-None c = λ script rest behind taken count.
    no_words_say script rest c.args.text.now c.as_slice.result.now behind taken c.as_slice.ensures
    c.args.number c.if-eq.ensures
    (rw c.in-None.is at c.in_ok-words.ensures) count
