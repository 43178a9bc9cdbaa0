-- The message of a commitment, its digest, and what it is to open one.
use Rattle.std.specs.Prelude.{◌≡◌, ◌≢◌, ℕ, Bool, ◌&&◌, List, ◌++◌, codes}
use Rattle.std.specs.Int.{w16, w32, w64, to_be_bytes}
use Rattle.std.specs.Str.{bytes_eq}
use Rattle.sha2.specs.Sha256.{sha256}
use Rattle.vk_commit.specs.declared.place.Place.{Place}
use Rattle.vk_commit.specs.declared.place.Opening.{Opening}
use Rattle.vk_commit.specs.Values.{IsOpening, is_opening}

-- the 68 bytes that a commitment hashes, numbers big-endian
abbrev pub message : Place → Opening → List ℕ
message place opening =
    codes "VKC1" ++ place.auction ++ to_be_bytes w16 place.seat ++ to_be_bytes w16 place.lane
    ++ to_be_bytes w32 place.slot ++ opening.key ++ to_be_bytes w64 opening.value

-- the commitment: SHA-256 of the message (FIPS 180-4, 6.2)
abbrev pub digest_of : Place → Opening → List ℕ
digest_of place opening = sha256 (message place opening)

-- an opening that opens the digest at the place
pub record Opens (place : Place) (digest : List ℕ) (opening : Opening) : Type 0 where
  pub opening_is : IsOpening opening
  pub digest_is : digest_of place opening ≡ digest

-- the same as a test, for definitions that compute
unfoldable pub opens_test : Place → List ℕ → Opening → Bool
opens_test place digest opening = is_opening opening && bytes_eq (digest_of place opening) digest

-- two openings of different values open one digest at one place
pub record AreTwoOpenings (place : Place) (digest : List ℕ) (first second : Opening) : Type 0 where
  pub first_opens : Opens place digest first
  pub second_opens : Opens place digest second
  pub values_differ : first.value ≢ second.value

-- what contracts see of two openings
pub record TwoOpeningsSeen : Type 0 where
  pub place : Place
  pub digest : List ℕ
  pub first : Opening
  pub second : Opening
