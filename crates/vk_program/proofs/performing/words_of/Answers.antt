use Rattle.vk_program.proofs.performing.words_of.Goals as goal

pub returns-in_ok-words-in-Ok : goal.returns-in_ok-words-in-Ok
returns-in_ok-words-in-Ok c =
    let ran = c.in_ok-words-in-Ok.ensures.ran in
    let last = ran.3.2 tt in
    rw (c.in-Ok.is, ran.4.0, ← ran.2) (last.0, (ran.3.0, ran.3.1, last.1))
