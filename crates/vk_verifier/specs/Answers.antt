-- What was read of a board before its first lane, as it is judged. Want of memory and a failure are
-- handed on as they are: it takes no memory.
use Rattle.std.specs.Prelude.{Result, Ok, Err}
use Rattle.vk_lines.specs.declared.errors.ReadErr.TheVariants as read
use Rattle.vk_board.specs.declared.front.FrontErr.{FrontErr}
use Rattle.vk_board.specs.declared.front.FrontErr.TheVariants as unread
use Rattle.vk_judge.specs.declared.answers.Part.TheVariants as part
use Rattle.vk_judge.specs.declared.answers.Fault.TheVariants.{Malformed}
use Rattle.vk_judge.specs.declared.halt.Halt.{Halt}
use Rattle.vk_judge.specs.declared.halt.Halt.TheVariants.{Refused, Failed, NoMemory}
use Rattle.vk_judge.specs.declared.opened.Refusal.{Refusal}
use Rattle.vk_judge.specs.declared.opened.Refusal.TheVariants.{Fault, Front}
use Rattle.vk_verifier.specs.declared.answers.BoardRefusal.{BoardRefusal}
use Rattle.vk_verifier.specs.declared.answers.BoardRefusal.TheVariants.{Price, Winner}

abbrev pub front_answer : {X : Type 0} → Result X FrontErr → Result X (Halt (Refusal BoardRefusal))
front_answer (Ok x) = Ok x
front_answer (Err (unread.Unread (read.Malformed line))) =
    Err (Refused (Fault (Malformed part.Board line)))
front_answer (Err (unread.Unread read.Failed)) = Err Failed
front_answer (Err (unread.Unread read.NoMemory)) = Err NoMemory
front_answer (Err unread.Price) = Err (Refused (Front Price))
front_answer (Err unread.Winner) = Err (Refused (Front Winner))
