-- The files that a command of the house is given by name.
use Rattle.std.specs.Prelude.{ℕ, List, Result, Ok}
use Rattle.std.specs.FinMap.{get}
use Rattle.vk_residue.specs.Steps.{◌>>=◌}
use Rattle.vk_io.specs.Files.{Files}
use Rattle.vk_reply.specs.declared.challenge.Challenge.{Challenge}
use Rattle.vk_reply.specs.Reading.{challenge_at}
use Rattle.vk_seal.specs.Reading.{seal_at, secret_at}
use Rattle.vk_keeper.specs.declared.auction.SealRow.{SealRow}
use Rattle.vk_effect.specs.Effects.{SaidValue}
use Rattle.vk_effect.specs.Reading.{begun_in, named_in, value_in}

-- the seal and the secret that `submit` names; or what is said of the first of these tests that
-- fails: both files are held and not too long, then both are of their forms
unfoldable pub row_in : Files → (seal_name secret_name : List ℕ) → Result SealRow SaidValue
row_in files seal_name secret_name = do
  seal_file ← begun_in seal_name (get files seal_name)
  secret_file ← begun_in secret_name (get files secret_name)
  seal ← value_in seal_name (seal_at seal_file)
  secret ← value_in secret_name (secret_at secret_file)
  Ok (record { seal = seal; secret = secret })

-- the challenge that `answer` names; or what is said of its file
abbrev pub challenge_in : Files → List ℕ → Result Challenge SaidValue
challenge_in files name = named_in challenge_at files name
