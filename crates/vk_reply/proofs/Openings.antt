-- The line of both openings of a pair, whose fields are read one after another.
use Rattle.std.proofs.Common.{◌≡◌, ℕ, List, [], ◌∷◌, Option, Some, None, refl, ◌∙◌}
use Rattle.std.specs.Prelude.{codes, option_map}
use Rattle.vk_residue.specs.Steps.{◌>>?◌}
use Rattle.vk_lines.specs.Tokens.{behind_word, fields_of, first_by, four_of, hex_of, residue_of}
use Rattle.vk_wire.specs.declared.wire.Shown.{Shown}
use Rattle.vk_wire.specs.declared.wire.Shown.TheVariants.{Whole}
use Rattle.vk_reply.specs.Reading.{openings_by, whole_by, whole_line}
use Rattle.vk_reply.specs.Tokens.{last_opening, opening_by}

-- a key of a first opening and the fields behind it, and what both openings come to then
abbrev pub Key : Type 0
Key = List ℕ × List (List ℕ)

abbrev pub from_key : Key → Option Shown
from_key key = first_by Some key.1 >>? λ field. residue_of field.0 >>? λ value.
    last_opening field.1 >>? λ second. Some (Whole (opening_by key.0 value) second)

-- no value comes of steps of which the last gives none
abbrev no_wire : Option Shown
no_wire = None

nothing : (key : Option (List ℕ)) (value : Option ℕ)
    → no_wire ≡ (key >>? λ a. value >>? λ b. no_wire)
nothing (Some a) (Some b) = refl
nothing (Some a) None = refl
nothing None value = refl

paired : (key : Option (List ℕ)) (fields : List (List ℕ)) (next : Key → Option Shown)
    → (key >>? λ a. next (a, fields)) ≡ ((key >>? λ a. Some (a, fields)) >>? next)
paired (Some a) fields next = refl
paired None fields next = refl

four_steps : (key next_key : Option (List ℕ)) (value next_value : Option ℕ)
    → option_map whole_by (key >>? λ a. value >>? λ b. next_key >>? λ c. next_value >>? λ d.
    Some (openings_by a b c d))
    ≡ (key >>? λ a. value >>? λ b.
    (next_key >>? λ c. next_value >>? λ d. Some (opening_by c d)) >>? λ second.
    Some (Whole (opening_by a b) second))
four_steps (Some a) (Some c) (Some b) (Some d) = refl
four_steps (Some a) (Some c) (Some b) None = refl
four_steps (Some a) None (Some b) next_value = refl
four_steps (Some a) next_key None next_value = refl
four_steps None next_key value next_value = refl

from_fields : (fields : List (List ℕ))
    → option_map whole_by (four_of fields >>? λ all.
    hex_of 32 all.0 >>? λ a. residue_of all.1 >>? λ b.
    hex_of 32 all.2 >>? λ c. residue_of all.3 >>? λ d. Some (openings_by a b c d))
    ≡ (first_by (hex_of 32) fields >>? from_key)
from_fields [] = refl
from_fields (key ∷ []) = refl
from_fields (key ∷ value ∷ []) =
    nothing (hex_of 32 key) None ∙ paired (hex_of 32 key) (value ∷ []) from_key
from_fields (key ∷ value ∷ next_key ∷ []) =
    nothing (hex_of 32 key) (residue_of value)
    ∙ paired (hex_of 32 key) (value ∷ next_key ∷ []) from_key
from_fields (key ∷ value ∷ next_key ∷ next_value ∷ []) =
    four_steps (hex_of 32 key) (hex_of 32 next_key) (residue_of value) (residue_of next_value)
    ∙ paired (hex_of 32 key) (value ∷ next_key ∷ next_value ∷ []) from_key
from_fields (key ∷ value ∷ next_key ∷ next_value ∷ more ∷ rest) =
    nothing (hex_of 32 key) (residue_of value)
    ∙ paired (hex_of 32 key) (value ∷ next_key ∷ next_value ∷ more ∷ rest) from_key

from_behind : (behind : Option (List (List ℕ)))
    → option_map whole_by ((behind >>? four_of) >>? λ all.
    hex_of 32 all.0 >>? λ a. residue_of all.1 >>? λ b.
    hex_of 32 all.2 >>? λ c. residue_of all.3 >>? λ d. Some (openings_by a b c d))
    ≡ (behind >>? λ fields. first_by (hex_of 32) fields >>? from_key)
from_behind (Some fields) = from_fields fields
from_behind None = refl

pub whole_in_turn : (text : List ℕ) → whole_line text
    ≡ (behind_word (codes "a") (fields_of text) >>? λ fields.
    first_by (hex_of 32) fields >>? from_key)
whole_in_turn text = from_behind (behind_word (codes "a") (fields_of text))
