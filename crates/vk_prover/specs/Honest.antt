-- What an honest prover commits to, posts and shows of one lane, and the halves that it shows.
use Rattle.std.specs.Prelude.{ℕ, ◌+◌, Bool, false, List, [], ◌∷◌, map, drop}
use Rattle.vk_plan.specs.Forms.{linear_part}
use Rattle.vk_plan.specs.Plans.{PlanValue}
use Rattle.vk_plan.specs.declared.form.Form.{Form}
use Rattle.vk_plan.specs.declared.wire.WireKind.{WireKind}
use Rattle.vk_wire.specs.Made.{made_com, shown_wire, half_of}
use Rattle.vk_wire.specs.Places.{place_of_wire}
use Rattle.vk_wire.specs.declared.wire.WireCom.{WireCom}
use Rattle.vk_wire.specs.declared.wire.WireTape.{WireTape}
use Rattle.vk_wire.specs.declared.wire.Shown.{Shown}
use Rattle.vk_row.specs.declared.case.LaneCase.{LaneCase}
use Rattle.vk_board.specs.declared.board.LaneLines.{LaneLines}

-- the tape that a list has past its end
abbrev pub no_tape : WireTape
no_tape = record { mask = 0; swap = false; first_key = []; second_key = [] }

-- what f gives of the number, the kind, the value and the tape of each wire, where the first in the
-- lists has that number
unfoldable pub each_wire : {A : Type 0} → (ℕ → WireKind → ℕ → WireTape → A) → ℕ → List WireKind
    → List ℕ → List WireTape → List A
each_wire f wire (kind ∷ kinds) (value ∷ values) (tape ∷ tapes) =
    f wire kind value tape ∷ each_wire f (wire + 1) kinds values tapes
each_wire f wire _ _ _ = []

-- the commitments to a wire, at its place
abbrev pub com_of : List ℕ → ℕ → List ℕ → ℕ → WireKind → ℕ → WireTape → WireCom
com_of auction lane seats wire kind value tape =
    made_com kind (place_of_wire auction lane seats wire) value tape

-- the commitments to each wire
abbrev pub honest_coms : List ℕ → ℕ → List ℕ → List WireKind → List ℕ → List WireTape → List WireCom
honest_coms auction lane seats kinds values tape =
    each_wire (com_of auction lane seats) 0 kinds values tape

-- the first half of each wire
abbrev pub masks : List WireTape → List ℕ
masks tape = map (λ wire. wire.mask) tape

-- what is posted for a row: the row without its constant on the first halves
abbrev pub posted_on : List ℕ → Form → ℕ
posted_on firsts row = linear_part row.terms firsts

-- what is posted for each row
abbrev pub honest_posted : List Form → List WireTape → List ℕ
honest_posted rows tape = map (posted_on (masks tape)) rows

-- what is published of the lane: the commitments to each wire after the inputs, none of which
-- stands at a bidder's seat, and the posted numbers
abbrev pub honest_lane : PlanValue → List ℕ → ℕ → List ℕ → List WireTape → LaneLines
honest_lane plan auction lane values tape = record {
  coms = each_wire (com_of auction lane []) plan.inputs (drop plan.inputs plan.kinds)
      (drop plan.inputs values) (drop plan.inputs tape);
  posted = honest_posted plan.rows tape;
}

-- all that is public of the lane, where the inputs are those of bidders at these seats
abbrev pub honest_case : PlanValue → List ℕ → ℕ → List ℕ → List ℕ → List WireTape → LaneCase
honest_case plan auction lane seats values tape = record {
  auction = auction;
  lane = lane;
  seats = seats;
  coms = honest_coms auction lane seats plan.kinds values tape;
  posted = honest_posted plan.rows tape;
}

-- what is shown of a wire for the bit
abbrev pub shown_of : Bool → ℕ → WireKind → ℕ → WireTape → Shown
shown_of bit wire kind value tape = shown_wire kind value tape bit

-- what is shown of each wire for the bit
abbrev pub honest_reply : List WireKind → List ℕ → List WireTape → Bool → List Shown
honest_reply kinds values tape bit = each_wire (shown_of bit) 0 kinds values tape

-- the half of each wire that the bit names
unfoldable pub honest_halves : List ℕ → List WireTape → Bool → List ℕ
honest_halves (value ∷ values) (wire ∷ tape) bit =
    half_of value wire bit ∷ honest_halves values tape bit
honest_halves _ _ bit = []
