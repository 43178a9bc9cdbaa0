-- What kind of file it is that the system tells of.
use Rattle.std.specs.Prelude.{◌≡◌, ℕ, Bool, ◌&&◌, ◌||◌, ◌==◌, Option, Some, None, Result, IsOk, IsErrAnd, bit_and, if◌then◌else◌}
use Rattle.std.specs.IoError.{error_kind}
use Rattle.std.specs.declared.io.Error.{Error}
use Rattle.std.specs.declared.io.ErrorKind.{ErrorKind}
use Rattle.std.specs.declared.io.ErrorKind.TheVariants.{IsADirectory, Unsupported}
use Rattle.vk_files.specs.declared.kinds.Kind.{Kind}

-- the bits of its mode that tell its kind
abbrev pub kind_bits : Kind → ℕ
kind_bits kind = bit_and kind.mode 0o170000

abbrev pub is_folder : Kind → Bool
is_folder kind = kind_bits kind == 0o040000

abbrev pub is_regular : Kind → Bool
is_regular kind = kind_bits kind == 0o100000

-- it is `/dev/null` or `/dev/full`, by the kind and the number that they have on Linux
abbrev pub is_null_or_full : Kind → Bool
is_null_or_full kind = (kind_bits kind == 0o020000)
    && ((kind.device == 0x103) || (kind.device == 0x107))

-- a regular file may be written, and one of these two devices
abbrev pub may_be_written : Kind → Bool
may_be_written kind = is_regular kind || is_null_or_full kind

-- what is said of a file that may not be written
abbrev pub refusal_to_write : Kind → Option ErrorKind
refusal_to_write kind = if may_be_written kind then None
    else (if is_folder kind then Some IsADirectory else Some Unsupported)

-- an error of that kind, if there is a refusal, and else none
abbrev pub IsRefusal : {T : Type 0} → Option ErrorKind → Result T Error → Type 0
IsRefusal None outcome = IsOk outcome
IsRefusal (Some refusal) outcome = IsErrAnd outcome (λ error. error_kind error ≡ refusal)
