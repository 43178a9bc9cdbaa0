-- Why words are no command: the first of them that isn't what the command wants there.
use Rattle.std.specs.Prelude.{ℕ, ◌==◌, ◌+◌, ◌-◌, ◌^◌, ◌&&◌, ◌||◌, nat_le, not, Bool, if◌then◌else◌, List, [], ◌∷◌, ◌++◌, length, codes, decimal, Option, Some, None, is_some, unwrap_or}
use Rattle.std.specs.Str.{bytes_eq}
use Rattle.vk_lines.specs.Tokens.{decimal_of, number_token}
use Rattle.vk_words.specs.declared.hints.Hint.{Hint}
use Rattle.vk_words.specs.declared.hints.Hint.TheVariants.{Command, Count, Word}
use Rattle.vk_words.specs.declared.kinds.WordKind.{WordKind}
use Rattle.vk_words.specs.declared.kinds.WordKind.TheVariants.{Id, Seed, Seat, Auditor, Width, Lanes, Number, Reserve, Name, OtherName, Kind}
use Rattle.vk_words.specs.declared.table.Verb.{Verb}
use Rattle.vk_words.specs.declared.table.Verb.TheVariants as verbs
use Rattle.vk_words.specs.Claims.{kind_named}
use Rattle.vk_words.specs.Commands.{may_have}
use Rattle.vk_words.specs.Names.{is_name, nth_word}
use Rattle.vk_words.specs.Orders.{id_at, seed_at}
use Rattle.vk_words.specs.Table.{Row, row_of}

-- what the words behind the first of a command have to be, one after another
abbrev pub kinds_of : Verb → List WordKind
kinds_of verbs.Seal = Id ∷ Seat ∷ Number ∷ Width ∷ Lanes ∷ Seed ∷ Name ∷ OtherName ∷ []
kinds_of verbs.Announce = Id ∷ Width ∷ Lanes ∷ Reserve ∷ []
kinds_of verbs.Submit = Id ∷ Name ∷ Name ∷ []
kinds_of verbs.Prove = Id ∷ Seed ∷ Name ∷ []
kinds_of verbs.Answer = Id ∷ Name ∷ OtherName ∷ []
kinds_of verbs.Show = Id ∷ []
kinds_of verbs.Verify = Name ∷ Name ∷ Name ∷ []
kinds_of verbs.Extract = Name ∷ Name ∷ Name ∷ Name ∷ Name ∷ []
kinds_of verbs.Confront = Name ∷ Name ∷ Name ∷ Name ∷ Name ∷ Name ∷ []
kinds_of verbs.Report = Name ∷ []
kinds_of verbs.Sample = Number ∷ []
kinds_of verbs.Ceremony = Name ∷ []
kinds_of verbs.ClaimVerify = Name ∷ Name ∷ Name ∷ []
kinds_of verbs.ClaimExtract = Name ∷ Name ∷ Name ∷ Name ∷ Name ∷ []
kinds_of verbs.ClaimSample = Kind ∷ Number ∷ []
kinds_of verbs.CoinPart = Id ∷ Auditor ∷ Lanes ∷ Seed ∷ Name ∷ []
kinds_of verbs.CoinJoin = Name ∷ OtherName ∷ []
kinds_of verbs.CoinBoard = Name ∷ OtherName ∷ []

-- the greatest reserve under the width that stands in the third word, 0 where no width stands there
abbrev pub most_reserve : List (List ℕ) → ℕ
most_reserve words = 2 ^ unwrap_or (number_token 1 40 (nth_word words 2)) 0 - 1

-- whether the word at that place is of the kind; a reserve may be left out
abbrev pub is_of_kind : WordKind → List (List ℕ) → ℕ → Bool
is_of_kind Id words place = is_some (id_at words place)
is_of_kind Seed words place = is_some (seed_at words place)
is_of_kind Seat words place = is_some (number_token 1 65535 (nth_word words place))
is_of_kind Auditor words place = is_some (number_token 1 16 (nth_word words place))
is_of_kind Width words place = is_some (number_token 1 40 (nth_word words place))
is_of_kind Lanes words place = is_some (number_token 1 64 (nth_word words place))
is_of_kind Number words place = is_some (decimal_of (2 ^ 64 - 1) (nth_word words place))
is_of_kind Reserve words place =
    nat_le (length words) place || is_some (decimal_of (most_reserve words) (nth_word words place))
is_of_kind Name words place = is_name (nth_word words place)
is_of_kind OtherName words place =
    is_name (nth_word words place)
    && not (bytes_eq (nth_word words (place - 1)) (nth_word words place))
is_of_kind Kind words place = is_some (kind_named (nth_word words place))

-- the first word, from that place on, that isn't of the kind which stands for it
unfoldable pub first_unfit : List WordKind → List (List ℕ) → ℕ → Option Hint
first_unfit [] words place = None
first_unfit (kind ∷ kinds) words place = if is_of_kind kind words place
    then first_unfit kinds words (place + 1) else Some (Word place kind)

-- why words whose first names that command are none, if they are
abbrev pub hint_on : List (List ℕ) → Row → Option Hint
hint_on words row =
    if may_have row (length words) then first_unfit (kinds_of row.verb) words 1
    else Some (Count row.words row.most (length words))

-- why words are no command, by the row that their first names: none where they are one
abbrev pub hint_by : List (List ℕ) → Option Row → Option Hint
hint_by words None = Some Command
hint_by words (Some row) = hint_on words row

unfoldable pub hint_in : List (List ℕ) → Option Hint
hint_in words = hint_by words (row_of (nth_word words 0))

-- ---- in words, for a person

-- what a word of the kind is
abbrev pub kind_text : WordKind → List ℕ
kind_text Id = codes "an id, 32 hexadecimal digits in lower case"
kind_text Seed = codes "a seed, 64 hexadecimal digits in lower case"
kind_text Seat = codes "a seat, a whole number from 1 to 65535 with no 0 in front"
kind_text Auditor = codes "an auditor's number, from 1 to 16 with no 0 in front"
kind_text Width = codes "a width, a whole number from 1 to 40 with no 0 in front"
kind_text Lanes = codes "a number of lanes, from 1 to 64 with no 0 in front"
kind_text Number = codes "a whole number below 2^64 with no 0 in front"
kind_text Reserve = codes "a reserve, a whole number below 2^WIDTH with no 0 in front"
kind_text Name = codes "the name of a file, of 1 to 255 bytes"
kind_text OtherName = codes "the name of a file, of 1 to 255 bytes, and not the word before it"
kind_text Kind = codes "a kind of claims, which is uniform or matching"

-- how many words stand behind a command's name
abbrev pub many_text : (fewest most : ℕ) → List ℕ
many_text fewest most =
    if fewest == most then codes "vickrey: words behind this command's name: " ++ decimal most
    else ((codes "vickrey: words behind this command's name: " ++ decimal fewest) ++ codes " or ")
    ++ decimal most

abbrev pub count_text : (fewest most given : ℕ) → List ℕ
count_text fewest most given =
    ((many_text fewest most ++ codes " wanted, ") ++ decimal given)
    ++ codes " given; see `man vickrey`\n"

-- the line of a hint, with the program's version where no command is named. The word that names the
-- command isn't counted
abbrev pub hint_text : Hint → List ℕ
hint_text Command =
    (codes "vickrey " ++ codes "1.0")
    ++ codes ": the first word names no command; see `man vickrey`\n"
hint_text (Count fewest most given) = count_text (fewest - 1) (most - 1) (given - 1)
hint_text (Word place kind) =
    (((codes "vickrey: word " ++ decimal place) ++ codes " behind the command's name has to be ")
    ++ kind_text kind) ++ codes "; see `man vickrey`\n"
