-- The version of a store's tables.
use Rattle.std.specs.Prelude.{ℕ, ℤ, pos, ◌==◌, ◌&&◌, if◌then◌else◌, List, [], ◌∷◌, Option, Some, None, Result, Ok, Err}
use Rattle.std.specs.Ordering.{int_eq}
use Rattle.sqlite.specs.Order.{Row, column}
use Rattle.sqlite.specs.declared.types.Value.{Value}
use Rattle.sqlite.specs.declared.types.Value.TheVariants.{Int}
use Rattle.vk_keeper_sql.specs.declared.errors.OpenErr.{OpenErr}
use Rattle.vk_keeper_sql.specs.declared.errors.OpenErr.TheVariants.{Refused, Version}

-- the table `about` is to hold one row, with the number 1 or 2
abbrev pub version_of : ℕ → ℤ → Result ℕ OpenErr
version_of rows number =
    if rows == 1 && int_eq number (pos 1) then Ok 1
    else (if rows == 1 && int_eq number (pos 2) then Ok 2 else Err (Version rows number))

-- the integer that a value is
abbrev pub int_of : Value → Option ℤ
int_of (Int number) = Some number
int_of _ = None

-- by how many rows there are, and the number in the first of them, each where it is an integer
abbrev pub number_by : Option ℤ → Option ℤ → Result ℕ OpenErr
number_by (Some (pos rows)) (Some number) = version_of rows number
number_by _ _ = Err Refused

-- the number that the rows show with which the query for it is answered
abbrev pub number_of : List Row → Result ℕ OpenErr
number_of [] = Err (Version 0 (pos 0))
number_of (row ∷ rows) = number_by (int_of (column row 0)) (int_of (column row 1))
