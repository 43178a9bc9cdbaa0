use Rattle.std.proofs.Common.{rules}
use Rattle.vk_audit.proofs.Telling.{says_by}
use Rattle.vk_audit.proofs.auditing.audit.Goals as goal

pub returns-in-Confront : goal.returns-in-Confront
returns-in-Confront g c = rw c.in-Confront.is (says_by c.confronted_in-answer.ensures.modelled
    (λ files. c.confront_answered-said.ensures.said _)
    c.confront_answered-said.ensures.wanting (search rules))

pub returns-in-Extract : goal.returns-in-Extract
returns-in-Extract g c = rw c.in-Extract.is (says_by c.extract-answer.ensures.modelled
    (λ files. c.extract_answered-said.ensures.said _)
    c.extract_answered-said.ensures.wanting (search rules))
