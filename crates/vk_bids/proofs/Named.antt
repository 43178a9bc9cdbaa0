-- The extraction of named files is that of their bytes.
use Rattle.std.proofs.Common.{◌≡◌, ℕ, List, Result, Ok, Err, refl, ap, sym, ◌∙◌}
use Rattle.vk_residue.specs.Steps.{◌>>=◌}
use Rattle.vk_io.specs.Files.{Files}
use Rattle.vk_lines.specs.Gives.{Gives}
use Rattle.vk_judge.specs.declared.answers.VErr.{VErr}
use Rattle.vk_judge.specs.declared.answers.VErr.TheVariants.{Missing, TooLong, Failed, NoMemory}
use Rattle.vk_judge.specs.Begun.{five_rests, of_files, unread_file}
use Rattle.vk_judge.specs.Opened.{Checked, coming_of, file_coming}
use Rattle.vk_judge.proofs.Attempts.{files_begun}
use Rattle.vk_judge.proofs.HeldFiles.{are_of_held}
use Rattle.vk_verifier.specs.declared.answers.BoardRefusal.{BoardRefusal}
use Rattle.vk_verifier.specs.declared.boards.PlacedHead.{PlacedHead}
use Rattle.vk_verifier.specs.TwoBoards.{two_on}
use Rattle.vk_verifier.specs.Verdicts.{board_front_at}
use Rattle.vk_bids.specs.Extraction.{board_extraction, extraction_at, extraction_on}
use Rattle.vk_bids.specs.Headline.{FilesAreExtracted}

pub files_are_extracted : FilesAreExtracted
unfolding extraction_on
files_are_extracted = are_of_held extraction_at

-- ---- from what is to come of the files

pub step_after : {A X Y E : Type 0} (read : Result A E) (first : A → X) (next : X → Y)
    → (read >>= λ a. Ok (next (first a))) ≡ ((read >>= λ a. Ok (first a)) >>= λ x. Ok (next x))
step_after (Ok a) first next = refl
step_after (Err e) first next = refl

module _ (files : Files) (board challenge reply other second : List ℕ) where
  extracted_after : extraction_on files board challenge reply other second
      ≡ (two_on files board challenge reply other second >>= λ coming.
      Ok (board_extraction coming))
  unfolding extraction_on two_on
  extracted_after =
      files_begun extraction_at files board challenge reply other second
      ∙ (step_after (of_files five_rests files board challenge reply other second)
      (λ rests. file_coming board_front_at rests.0 rests.1 rests.2 rests.3 rests.4)
      board_extraction
      ∙ sym (ap (λ read. read >>= λ coming. Ok (board_extraction coming))
      (files_begun (file_coming board_front_at) files board challenge reply other second)))

  pub begun : (started : Result (Checked PlacedHead BoardRefusal) VErr)
      → Gives unread_file (λ checker. coming_of checker files) started
      (two_on files board challenge reply other second)
      → Gives unread_file (λ checker. board_extraction (coming_of checker files)) started
      (extraction_on files board challenge reply other second)
  begun (Ok checker) gives =
      extracted_after ∙ ap (λ read. read >>= λ coming. Ok (board_extraction coming)) gives
  begun (Err (Missing part)) gives =
      extracted_after ∙ ap (λ read. read >>= λ coming. Ok (board_extraction coming)) gives
  begun (Err (TooLong part)) gives =
      extracted_after ∙ ap (λ read. read >>= λ coming. Ok (board_extraction coming)) gives
  begun (Err Failed) gives = tt
  begun (Err NoMemory) gives = tt
