-- What two replies come to behind a front: by judging each to its end.
use Rattle.std.specs.Prelude.{◌≡◌, ℕ, Bool, List, [], Result, Ok, Err}
use Rattle.vk_lines.specs.Lines.{Rest}
use Rattle.vk_reply.specs.declared.challenge.Challenge.{Challenge}
use Rattle.vk_reply.specs.Reading.{challenge_at}
use Rattle.vk_judge.specs.declared.answers.Fault.{Fault}
use Rattle.vk_judge.specs.Statement.{StatementValue}
use Rattle.vk_judge.specs.Behind.{behind_judged}
use Rattle.vk_judge.specs.Begun.{from_start}
use Rattle.vk_judge.specs.Two.{accepted_of, ahead_behind, two_result}

abbrev pub bits_read : Result (Challenge × Rest) ℕ → List Bool
bits_read (Ok challenge) = challenge.0.bits
bits_read (Err line) = []

-- of every statement: what is found behind a front is what judging each reply to its end in this
-- way comes to
abbrev pub FindsBy : (StatementValue → Rest → Rest → Rest → Result Unit Fault) → Type 0
FindsBy judged = (s : StatementValue)
    (file first_challenge first_reply second_challenge second_reply : Rest)
    → (ahead_behind s file first_challenge first_reply second_challenge second_reply).finding
    ≡ two_result (accepted_of (bits_read (challenge_at first_challenge))
    (bits_read (challenge_at second_challenge)))
    (judged s file first_challenge first_reply) (judged s file second_challenge second_reply)

abbrev pub FindsByJudging : Type 0
FindsByJudging = FindsBy behind_judged

-- the bits of a challenge; none where the bytes aren't one
abbrev pub bits_in : List ℕ → List Bool
bits_in challenge = bits_read (challenge_at (from_start challenge))
