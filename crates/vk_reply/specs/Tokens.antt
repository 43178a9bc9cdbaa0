-- The fields of the lines of a challenge and a reply.
use Rattle.std.specs.Prelude.{ℕ, ◌==◌, ◌&&◌, ◌||◌, nat_le, Bool, true, false, if◌then◌else◌, List, length, map, codes, Option, Some, None}
use Rattle.std.specs.List.{list_all}
use Rattle.std.specs.Str.{bytes_eq}
use Rattle.vk_residue.specs.Steps.{◌>>?◌}
use Rattle.vk_commit.specs.declared.place.Opening.{Opening}
use Rattle.vk_lines.specs.Tokens.{residue_of, hex_of, one_field, two_of}

-- ---- bits

-- whether a character is `0` or `1`
abbrev pub is_bit : ℕ → Bool
is_bit character = character == 48 || character == 49

-- whether a text is 1 to 64 such characters
abbrev pub are_bits : List ℕ → Bool
are_bits text = nat_le 1 (length text) && (nat_le (length text) 64 && list_all is_bit text)

-- the bits that a text is
abbrev pub bits_of : List ℕ → Option (List Bool)
bits_of text = if are_bits text then Some (map (λ character. character == 49) text) else None

abbrev pub bits_line : List ℕ → Option (List Bool)
bits_line text = one_field (codes "bits") bits_of text

-- ---- what opens an entry

-- `0` for the first entry, `1` for the second
abbrev pub entry_of : List ℕ → Option Bool
entry_of text = if bytes_eq text (codes "0") then Some false
    else (if bytes_eq text (codes "1") then Some true else None)

abbrev pub opening_by : List ℕ → ℕ → Opening
opening_by key value = record { key = key; value = value }

abbrev pub opening_of : List ℕ → List ℕ → Option Opening
opening_of key value =
    hex_of 32 key >>? λ bytes.
    residue_of value >>? λ number.
    Some (opening_by bytes number)

-- the opening whose key and value are the only fields
abbrev pub last_opening : List (List ℕ) → Option Opening
last_opening fields = two_of fields >>? λ both. opening_of both.0 both.1
