-- The view of one lane with the tape moved.
use Rattle.std.proofs.Common.{◌≡◌, ℕ, ◌<◌, ◌≤◌, Bool, List, All, length, take, slice_index, slice_index_or, sym, ap, subst, ◌∙◌, arith}
use Rattle.std.proofs.lemmas.List.{same_lists, get_or-map, get_or_default, length-map, take_all}
use Rattle.std.proofs.lemmas.List.Elements.{All-from_get_or}
use Rattle.vk_plan.specs.Plans.{PlanValue, IsPlan, Holds}
use Rattle.vk_plan.specs.declared.wire.WireKind.{WireKind}
use Rattle.vk_plan.specs.declared.wire.WireKind.TheVariants.{Split}
use Rattle.vk_wire.specs.Made.{shown_wire}
use Rattle.vk_wire.specs.Values.{IsTape}
use Rattle.vk_wire.specs.declared.wire.WireTape.{WireTape}
use Rattle.vk_plan.specs.Forms.{no_row}
use Rattle.vk_prover.specs.Honest.{honest_reply, honest_posted, masks, posted_on, shown_of, no_tape}
use Rattle.vk_prover.specs.Laws.{IsTapeOf}
use Rattle.vk_prover.proofs.Wires.{get_or-each_wire, length-each_wire}
use Rattle.vk_views.specs.Moved.{moved_wire, moved_tape}
use Rattle.vk_views.specs.Views.{view_of}
use Rattle.vk_views.specs.Laws.{OfWires, WhereBothHold, ViewsAreTheSame, TapesComeBack, MovedTapesAreTapes, TapesStayForBit0}
use Rattle.vk_views.proofs.Wires.{shows_the_same, wire_comes_back, moved_is_tape}
use Rattle.vk_views.proofs.Rows.{length-moved, get_or-moved, stays_for_0, row_posts_the_same}

-- a law of wires, of one wire of a lane
at_wire : (Law : WireKind → ℕ → ℕ → Bool → WireTape → Type 0) → OfWires Law
    → (plan : PlanValue) (values others : List ℕ) (bit : Bool) (tape : List WireTape) (k : ℕ)
    → IsPlan plan → Holds plan values → Holds plan others → IsTapeOf plan tape
    → k < length plan.kinds
    → Law (slice_index_or plan.kinds k Split) (slice_index values k) (slice_index others k) bit
    (slice_index_or tape k no_tape)
at_wire Law law plan values others bit tape k is_plan holds holds_others is lt =
    law (slice_index_or plan.kinds k Split) (slice_index values k) (slice_index others k) bit
    (slice_index_or tape k no_tape)
    (is_plan.weights k Split lt) (holds.pairs k lt) (holds_others.pairs k lt)
    (holds.residues k 0 (omega (arith, holds.one_each)))
    (holds_others.residues k 0 (omega (arith, holds_others.one_each)))
    (is.each k no_tape (omega (arith, is.one_each)))

-- what is shown
shown_stays : (plan : PlanValue) (values others : List ℕ) (bit : Bool) (tape : List WireTape)
    → IsPlan plan → Holds plan values → Holds plan others → IsTapeOf plan tape
    → honest_reply plan.kinds others (moved_tape plan.kinds values others bit tape) bit
    ≡ honest_reply plan.kinds values tape bit
shown_stays plan values others bit tape is_plan holds holds_others is =
    let moved = moved_tape plan.kinds values others bit tape in
    let long : length moved ≡ length plan.kinds =
    length-moved plan.kinds values others bit tape holds.one_each is.one_each in
    let left = length-each_wire (shown_of bit) 0 plan.kinds others moved holds_others.one_each long
    in
    let right = length-each_wire (shown_of bit) 0 plan.kinds values tape holds.one_each is.one_each
    in
    same_lists (honest_reply plan.kinds others moved bit) (honest_reply plan.kinds values tape bit)
    (left ∙ sym right) (λ k d lt.
    let within : k < length plan.kinds = omega arith in
    get_or-each_wire (shown_of bit) 0 plan.kinds others moved k d within holds_others.one_each long
    ∙ ap (λ own. shown_wire (slice_index_or plan.kinds k Split) (slice_index others k) own bit)
    (get_or-moved plan.kinds values others bit tape k no_tape within holds.one_each is.one_each)
    ∙ at_wire _ shows_the_same plan values others bit tape k is_plan holds holds_others is within
    ∙ sym (get_or-each_wire (shown_of bit) 0 plan.kinds values tape k d within holds.one_each
    is.one_each))

-- what is posted
posted_stays : (plan : PlanValue) (values others : List ℕ) (bit : Bool) (tape : List WireTape)
    → IsPlan plan → Holds plan values → Holds plan others → IsTapeOf plan tape
    → honest_posted plan.rows (moved_tape plan.kinds values others bit tape)
    ≡ honest_posted plan.rows tape
posted_stays plan values others bit tape is_plan holds holds_others is =
    let moved = moved_tape plan.kinds values others bit tape in
    let left = length-map plan.rows (posted_on (masks moved)) in
    let right = length-map plan.rows (posted_on (masks tape)) in
    same_lists (honest_posted plan.rows moved) (honest_posted plan.rows tape) (left ∙ sym right)
    (λ r d lt.
    let within : r < length plan.rows = omega arith in
    get_or-map (posted_on (masks moved)) plan.rows r no_row d within
    ∙ row_posts_the_same (slice_index_or plan.rows r no_row) plan.kinds values others bit tape
    holds.one_each holds_others.one_each is.one_each
    (is_plan.names r no_row within) holds.residues (holds.zero_rows r no_row (omega arith))
    (holds_others.zero_rows r no_row (omega arith))
    ∙ sym (get_or-map (posted_on (masks tape)) plan.rows r no_row d within))

pub views_are_the_same : WhereBothHold ViewsAreTheSame
views_are_the_same plan values others is_plan holds holds_others bit tape is =
    let shown = shown_stays plan values others bit tape is_plan holds holds_others is in
    let posted = posted_stays plan values others bit tape is_plan holds holds_others is in
    cc

pub tapes_stay : WhereBothHold TapesStayForBit0
tapes_stay plan values others is_plan holds holds_others tape is =
    stays_for_0 plan.kinds values others tape holds.one_each is.one_each

pub moved_are_tapes : WhereBothHold MovedTapesAreTapes
moved_are_tapes plan values others is_plan holds holds_others bit tape is =
    let moved = moved_tape plan.kinds values others bit tape in
    let long = length-moved plan.kinds values others bit tape holds.one_each is.one_each in
    record {
      one_each = long;
      each = All-from_get_or IsTape moved no_tape (λ k lt.
          subst IsTape (sym (get_or-moved plan.kinds values others bit tape k no_tape (omega arith)
          holds.one_each is.one_each))
          (moved_is_tape (slice_index_or plan.kinds k Split) (slice_index values k)
          (slice_index others k) bit (slice_index_or tape k no_tape)
          (is.each k no_tape (omega (arith, is.one_each)))));
    }

pub tapes_come_back : WhereBothHold TapesComeBack
tapes_come_back plan values others is_plan holds holds_others bit tape is =
    let moved = moved_tape plan.kinds values others bit tape in
    let long = length-moved plan.kinds values others bit tape holds.one_each is.one_each in
    let left = length-moved plan.kinds others values bit moved holds_others.one_each long in
    same_lists (moved_tape plan.kinds others values bit moved) tape (left ∙ sym is.one_each)
    (λ k d lt.
    let within : k < length plan.kinds = omega arith in
    get_or-moved plan.kinds others values bit moved k d within holds_others.one_each long
    ∙ ap (moved_wire (slice_index_or plan.kinds k Split) (slice_index others k)
    (slice_index values k) bit)
    (get_or-moved plan.kinds values others bit tape k no_tape within holds.one_each is.one_each)
    ∙ at_wire _ wire_comes_back plan values others bit tape k is_plan holds holds_others is within
    ∙ get_or_default tape k no_tape d (omega (arith, is.one_each)))

-- ---- a tape that was moved wire by wire

-- what every moved tape is
pub record IsMovedBack (plan : PlanValue) (values others : List ℕ) (bit : Bool)
    (tape moved : List WireTape) : Type 0 where
  pub is_tape : IsTapeOf plan moved
  pub view : view_of plan others moved bit ≡ view_of plan values tape bit
  pub back : moved_tape plan.kinds others values bit moved ≡ tape

pub all_moved : (plan : PlanValue) (values others : List ℕ) (bit : Bool)
    (tape moved : List WireTape) (wires : ℕ)
    → IsPlan plan → Holds plan values → Holds plan others → length tape ≡ length plan.kinds
    → length plan.kinds ≤ wires → All IsTape (take wires tape)
    → moved ≡ moved_tape plan.kinds values others bit tape
    → IsMovedBack plan values others bit tape moved
all_moved plan values others bit tape moved wires is_plan holds holds_others same all tapes is =
    let own : IsTapeOf plan tape =
    record { one_each = same; each = rw (take_all wires tape (omega arith)) at tapes } in
    rw is (record {
      is_tape = moved_are_tapes plan values others is_plan holds holds_others bit tape own;
      view = views_are_the_same plan values others is_plan holds holds_others bit tape own;
      back = tapes_come_back plan values others is_plan holds holds_others bit tape own;
    })
