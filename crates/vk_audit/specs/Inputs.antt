-- Of the named files of a command, the first that can't be read.
use Rattle.std.specs.Prelude.{◌≡◌, ℕ, ◌^◌, ◌<◌, List, [], ◌∷◌, ◌++◌, length, None, Some}
use Rattle.std.specs.List.{AllByRecursion}
use Rattle.std.specs.FinMap.{get}
use Rattle.vk_io.specs.Files.{Files}
use Rattle.vk_judge.specs.HeldFiles.{HeldFiles, IsHeldFile}
use Rattle.vk_words.specs.Names.{ConfrontWords, ExtractWords, VerifyWords}

-- a file of that name is held, with at most 2^30 bytes
abbrev pub CanBeRead : Files → List ℕ → Type 0
CanBeRead files name = (bytes : List ℕ) × IsHeldFile files name bytes

-- none is held
abbrev pub IsUnheld : Files → List ℕ → Type 0
IsUnheld files name = get files name ≡ None

-- one is held, with more bytes
abbrev pub IsLong : Files → List ℕ → Type 0
IsLong files name = (bytes : List ℕ) × (get files name ≡ Some bytes) × (2 ^ 30 < length bytes)

-- of these names, in their order, this is the first whose file can't be read, and that is why
pub record IsFirstUnread (files : Files) (names : List (List ℕ)) (name : List ℕ)
    (Why : Files → List ℕ → Type 0) : Type 0 where
  pub earlier : List (List ℕ)
  pub later : List (List ℕ)
  pub names_are : names ≡ earlier ++ name ∷ later
  pub read : AllByRecursion (CanBeRead files) earlier
  pub why : Why files name

abbrev pub IsMissing : Files → List (List ℕ) → List ℕ → Type 0
IsMissing files names name = IsFirstUnread files names name IsUnheld

abbrev pub IsTooLong : Files → List (List ℕ) → List ℕ → Type 0
IsTooLong files names name = IsFirstUnread files names name IsLong

-- ---- the names that a command reads, in their order

abbrev pub verify_inputs : VerifyWords → List (List ℕ)
verify_inputs names = names.board ∷ names.attempt.challenge ∷ names.attempt.reply ∷ []

abbrev pub extract_inputs : ExtractWords → List (List ℕ)
extract_inputs names = names.board ∷ names.first.challenge ∷ names.first.reply
    ∷ names.second.challenge ∷ names.second.reply ∷ []

abbrev pub confront_inputs : ConfrontWords → List (List ℕ)
confront_inputs names = extract_inputs names.replies ++ names.secret ∷ []

-- the named files of `extract` are held
abbrev pub HoldsFiles : Files → ExtractWords → Type 0
HoldsFiles files names = HeldFiles files names.board names.first.challenge names.first.reply
    names.second.challenge names.second.reply
