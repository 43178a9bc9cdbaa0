-- What an error of the system says of a path.
use Rattle.std.specs.Prelude.{◌≡◌, ◌⊎◌}
use Rattle.std.specs.IoError.{error_kind}
use Rattle.std.specs.declared.io.Error.{Error}
use Rattle.std.specs.declared.io.ErrorKind.TheVariants.{InvalidInput, NotFound, NotADirectory}

-- nothing is at the path, or a part of it is no folder
abbrev pub IsMissing : Error → Type 0
IsMissing error = (error_kind error ≡ NotFound) ⊎ (error_kind error ≡ NotADirectory)

-- what was written has no place where it is synced to, as that of a device
abbrev pub HasNoPlace : Error → Type 0
HasNoPlace error = error_kind error ≡ InvalidInput
