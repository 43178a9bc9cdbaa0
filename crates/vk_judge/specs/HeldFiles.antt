-- What named files come to is what their bytes do, where all are held and none is too long.
use Rattle.std.specs.Prelude.{◌≡◌, ◌↔◌, ℕ, ◌^◌, ◌≤◌, List, length, Some, Ok}
use Rattle.std.specs.FinMap.{get}
use Rattle.vk_io.specs.Files.{Files}
use Rattle.vk_lines.specs.Lines.{Rest}
use Rattle.vk_judge.specs.Begun.{from_start, of_files}

-- the file is held with these bytes, at most 2^30
pub record IsHeldFile (files : Files) (name bytes : List ℕ) : Type 0 where
  pub is : get files name ≡ Some bytes
  pub short : length bytes ≤ 2 ^ 30

-- the files of a challenge and of the reply to it are held
pub record HeldAttempt (files : Files) (challenge reply : List ℕ) : Type 0 where
  pub challenge_bytes : List ℕ
  pub reply_bytes : List ℕ
  pub challenge_is : IsHeldFile files challenge challenge_bytes
  pub reply_is : IsHeldFile files reply reply_bytes

-- so are a file, and those of two challenges and the replies to them
pub record HeldFiles (files : Files)
    (file first_challenge first_reply second_challenge second_reply : List ℕ) : Type 0 where
  pub file_bytes : List ℕ
  pub file_is : IsHeldFile files file file_bytes
  pub first : HeldAttempt files first_challenge first_reply
  pub second : HeldAttempt files second_challenge second_reply

-- what five files come to, by their bytes
abbrev pub of_bytes : {X : Type 0} → (Rest → Rest → Rest → Rest → Rest → X) → List ℕ → List ℕ
    → List ℕ → List ℕ → List ℕ → X
of_bytes whole file challenge reply other second =
    whole (from_start file) (from_start challenge) (from_start reply) (from_start other)
    (from_start second)

-- the five files are held, and this is what their bytes come to
pub record ComesOfHeld {X : Type 0} (whole : Rest → Rest → Rest → Rest → Rest → X) (files : Files)
    (file challenge reply other second : List ℕ) (x : X) : Type 0 where
  pub held : HeldFiles files file challenge reply other second
  pub is : x ≡ of_bytes whole held.file_bytes held.first.challenge_bytes held.first.reply_bytes
      held.second.challenge_bytes held.second.reply_bytes

-- named files come to that, and to nothing else
abbrev pub AreOfHeld : {X : Type 0} → (Rest → Rest → Rest → Rest → Rest → X) → Type 0
AreOfHeld {X} whole = (files : Files) (file challenge reply other second : List ℕ) (x : X)
    → (of_files whole files file challenge reply other second ≡ Ok x)
    ↔ ComesOfHeld whole files file challenge reply other second x
