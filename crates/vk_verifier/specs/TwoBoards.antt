-- Two replies to a board, side by side.
use Rattle.std.specs.Prelude.{ℕ, List, Option, IfSome, option_map, Result}
use Rattle.vk_io.specs.Files.{Files}
use Rattle.vk_judge.specs.declared.answers.VErr.{VErr}
use Rattle.vk_judge.specs.declared.opened.Refusal.{Refusal}
use Rattle.vk_judge.specs.declared.stage.Finding.{Finding}
use Rattle.vk_judge.specs.declared.named.TwoReplies.{TwoReplies}
use Rattle.vk_judge.specs.Begun.{of_files}
use Rattle.vk_judge.specs.Found.{told_by}
use Rattle.vk_judge.specs.Opened.{Checked, Coming, FileBase, IsChecked, checked_base, checked_finding, file_coming, opened_in}
use Rattle.vk_verifier.specs.declared.answers.BoardRefusal.{BoardRefusal}
use Rattle.vk_verifier.specs.declared.answers.BoardVerdict.{BoardVerdict}
use Rattle.vk_verifier.specs.declared.boards.PlacedHead.{PlacedHead}
use Rattle.vk_verifier.specs.Verdicts.{IsBoard, board_front_at, refused_verdict}

-- what is found, as the verdict on a board
abbrev pub as_two : Finding (Refusal BoardRefusal) → Finding BoardVerdict
as_two = told_by refused_verdict

-- what is to come of the named files: of a board, a challenge and the reply to it, and another
-- challenge and reply
unfoldable pub two_on : Files → List ℕ → List ℕ → List ℕ → List ℕ → List ℕ
    → Result (Coming PlacedHead BoardRefusal) VErr
two_on = of_files (file_coming board_front_at)

abbrev pub two_named : Files → TwoReplies → Result (Coming PlacedHead BoardRefusal) VErr
two_named files names = two_on files names.file.now names.challenge1.now names.reply1.now
    names.challenge2.now names.reply2.now

-- how far two replies to a board were read
abbrev pub BoardChecked : Type 0
BoardChecked = Checked PlacedHead BoardRefusal

-- what was read before the first lane is a board whose front may stand
abbrev pub IsOfBoard : Option (FileBase PlacedHead) → Type 0
IsOfBoard base = IfSome base (λ known. IsBoard (opened_in known))

pub record IsBoardChecked (board : BoardChecked) : Type 0 where
  pub lanes : IsChecked board
  pub base : IsOfBoard (checked_base board)

-- what was found, where no lane is given any more
abbrev pub board_finding : BoardChecked → Option (Finding BoardVerdict)
board_finding checked = option_map as_two (checked_finding checked)
