-- What a shown wire opens, and the digests that this makes. Of a wire that opens one entry, that
-- entry is both the first and the last.
use Rattle.std.specs.Prelude.{ℕ, Bool, true, false, List}
use Rattle.vk_commit.specs.Commitment.{digest_of}
use Rattle.vk_commit.specs.declared.place.Place.{Place}
use Rattle.vk_commit.specs.declared.place.Opening.{Opening}
use Rattle.vk_wire.specs.declared.wire.Shown.{Shown}
use Rattle.vk_wire.specs.declared.wire.Shown.TheVariants.{Half, Whole, Spent}
use Rattle.vk_wire.specs.declared.wire.Opened.{Opened}
use Rattle.vk_wire.specs.declared.hashing.Which.{Which}
use Rattle.vk_wire.specs.declared.hashing.Which.TheVariants.{First, Last}
use Rattle.vk_wire.specs.Places.{entry_place}

-- the entry that is opened first or last, and what opens it
abbrev pub opened_entry : Shown → Bool → Which → Bool × Opening
opened_entry (Half opening) bit which = (bit, opening)
opened_entry (Whole first second) bit First = (false, first)
opened_entry (Whole first second) bit Last = (true, second)
opened_entry (Spent second opening) bit which = (second, opening)

-- whether these are two
abbrev pub opens_two : Shown → Bool
opens_two (Half opening) = false
opens_two (Whole first second) = true
opens_two (Spent second opening) = false

-- the digest that the opening of an entry makes
abbrev pub entry_made : Place → Bool × Opening → List ℕ
entry_made place entry = digest_of (entry_place place entry.0) entry.1

-- the digests of what the shown wire opens
unfoldable pub opened_by : Place → Shown → Bool → Opened
opened_by place shown bit = record {
  first = entry_made place (opened_entry shown bit First);
  last = entry_made place (opened_entry shown bit Last);
}
