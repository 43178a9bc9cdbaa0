-- The bids that what is shown of a lane for bit 0 and for bit 1 opens.
use Rattle.std.specs.Prelude.{ℕ, List, [], ◌∷◌, ◌++◌, Option, Some, None}
use Rattle.std.specs.Option.{option_to_list}
use Rattle.vk_residue.specs.Residue.{sum}
use Rattle.vk_wire.specs.declared.wire.Shown.{Shown}
use Rattle.vk_wire.specs.declared.wire.Shown.TheVariants.{Half}
use Rattle.vk_bids.specs.declared.bids.OpenedBid.{OpenedBid}

-- the bid of the seal of that seat: the sum of its two halves, where a half is shown for both bits
abbrev pub opened_bid : ℕ → Shown → Shown → Option OpenedBid
opened_bid seat (Half first) (Half second) =
    Some (record {
      seat = seat;
      bid = sum first.value second.value;
      first = first;
      second = second;
    })
opened_bid seat _ _ = None

-- the bids of seals, whose wires are the first of the lane: their seats, and what is shown for bit
-- 0 and for bit 1
abbrev pub opened_bids : List ℕ → List Shown → List Shown → List OpenedBid
opened_bids (seat ∷ seats) (zero ∷ zeros) (one ∷ ones) =
    option_to_list (opened_bid seat zero one) ++ opened_bids seats zeros ones
opened_bids _ _ _ = []
