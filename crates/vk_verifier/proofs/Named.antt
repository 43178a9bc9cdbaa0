-- What the named files of a board come to, from what is read of their first lines on.
use Rattle.std.proofs.Common.{◌≡◌, ℕ, List, Option, Some, None, IfSome, IfOk, Result, Ok, subst}
use Rattle.vk_residue.specs.Steps.{◌>>=◌}
use Rattle.vk_io.specs.Files.{Files}
use Rattle.vk_judge.specs.declared.opened.Opened.{Opened}
use Rattle.vk_judge.specs.declared.opened.Refusal.{Refusal}
use Rattle.vk_judge.specs.declared.stage.Finding.{Finding}
use Rattle.vk_judge.specs.Begun.{five_rests, of_attempt, of_files, three_rests}
use Rattle.vk_judge.specs.Opened.{FileBase, file_coming, opened_in}
use Rattle.vk_judge.specs.Two.{BothAreAccepted}
use Rattle.vk_judge.proofs.Attempts.{attempt_begun, files_begun}
use Rattle.vk_judge.proofs.Found.{told_accepted}
use Rattle.vk_verifier.specs.declared.answers.BoardRefusal.{BoardRefusal}
use Rattle.vk_verifier.specs.declared.boards.PlacedHead.{PlacedHead}
use Rattle.vk_verifier.specs.TwoBoards.{IsOfBoard, as_two, two_on}
use Rattle.vk_verifier.specs.Verdicts.{IsBoard, board_front_at, refused_verdict, verdict_at, verdict_on}

pub verdict_begun : (files : Files) (board challenge reply : List ℕ)
    → verdict_on files board challenge reply
    ≡ (of_attempt three_rests files board challenge reply >>= λ rests.
    Ok (verdict_at rests.0 rests.1 rests.2))
unfolding verdict_on
verdict_begun = attempt_begun verdict_at

-- ---- two replies

pub two_begun : (files : Files) (board challenge reply other second : List ℕ)
    → two_on files board challenge reply other second
    ≡ (of_files five_rests files board challenge reply other second >>= λ rests.
    Ok (file_coming board_front_at rests.0 rests.1 rests.2 rests.3 rests.4))
unfolding two_on
two_begun = files_begun (file_coming board_front_at)

-- what was read before the first lane is what was opened
pub board_known : (opened : Result (Opened PlacedHead) (Refusal BoardRefusal))
    (base : Option (FileBase PlacedHead)) → IfOk opened IsBoard
    → IfSome base (λ known. opened ≡ Ok (opened_in known)) → IsOfBoard base
board_known opened None right is = tt
board_known opened (Some known) right is = subst (λ o. IfOk o IsBoard) is right

pub found_accepted : (finding : Finding (Refusal BoardRefusal)) → BothAreAccepted (as_two finding)
    → BothAreAccepted finding
found_accepted = told_accepted refused_verdict
