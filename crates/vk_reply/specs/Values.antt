-- Challenges and replies: which there are.
use Rattle.std.specs.Prelude.{◌≡◌, ℕ, ◌+◌, ◌≤◌, Bool, true, List, length, Some, slice_get}
use Rattle.vk_residue.specs.Limits.{IsLaneCount}
use Rattle.vk_commit.specs.Values.{IsOpening}
use Rattle.vk_plan.specs.declared.wire.WireKind.{WireKind}
use Rattle.vk_wire.specs.declared.wire.Shown.{Shown}
use Rattle.vk_wire.specs.declared.wire.Shown.TheVariants.{Half, Whole, Spent}
use Rattle.vk_wire.specs.Reads.{has_form}
use Rattle.vk_reply.specs.declared.challenge.Challenge.{Challenge}

-- a challenge: the bit of each of up to 64 lanes
pub record IsChallenge (challenge : Challenge) : Type 0 where
  pub some_bit : 1 ≤ length challenge.bits
  pub few_bits : length challenge.bits ≤ 64

-- each opening that is shown has a key of 32 bytes and a residue
abbrev pub ShowsOpenings : Shown → Type 0
ShowsOpenings (Half opening) = IsOpening opening
ShowsOpenings (Whole first second) = IsOpening first × IsOpening second
ShowsOpenings (Spent second opening) = IsOpening opening

-- what is shown of a wire of this kind for this bit: it has their form
pub record IsShown (kind : WireKind) (bit : Bool) (shown : Shown) : Type 0 where
  pub form : has_form kind shown bit ≡ true
  pub openings : ShowsOpenings shown

-- what is shown of a lane for this bit: one for each wire, each of its kind
pub record AreShown (kinds : List WireKind) (bit : Bool) (shown : List Shown) : Type 0 where
  pub one_each : length shown ≡ length kinds
  pub each : (wire : ℕ) (kind : WireKind) (one : Shown) → slice_get kinds wire ≡ Some kind
      → slice_get shown wire ≡ Some one → IsShown kind bit one

-- a reply: what is shown of each of up to 64 lanes, of which the first is lane 1, each for its bit
pub record IsReply (kinds : List WireKind) (bit_of : ℕ → Bool) (lanes : List (List Shown)) : Type 0
  where
    pub count : IsLaneCount (length lanes)
    pub each : (index : ℕ) (shown : List Shown) → slice_get lanes index ≡ Some shown
        → AreShown kinds (bit_of (index + 1)) shown
