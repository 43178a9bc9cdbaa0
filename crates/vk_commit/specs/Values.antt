-- Which bytes and openings there are.
use Rattle.std.specs.Prelude.{◌≡◌, ℕ, ◌<◌, Bool, ◌&&◌, ◌==◌, nat_lt, List, length, slice_index}
use Rattle.std.specs.List.{list_all}
use Rattle.vk_residue.specs.Residue.{modulus, IsResidue}
use Rattle.vk_commit.specs.declared.place.Opening.{Opening}

-- so many bytes
abbrev pub AreBytes : ℕ → List ℕ → Type 0
AreBytes count bytes = (length bytes ≡ count) × ((i : ℕ) → slice_index bytes i < 256)

-- a key of 32 bytes and a residue
pub record IsOpening (opening : Opening) : Type 0 where
  pub key : AreBytes 32 opening.key
  pub value : IsResidue opening.value

-- the same as a test, for definitions that compute
unfoldable pub is_opening : Opening → Bool
is_opening opening =
    length opening.key == 32 && list_all (λ byte. nat_lt byte 256) opening.key
    && nat_lt opening.value modulus
