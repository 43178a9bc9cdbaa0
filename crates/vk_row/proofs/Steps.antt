-- One wire, and one row, of a lane.
use Rattle.std.proofs.Common.{◌≡◌, ℕ, ◌+◌, ◌-◌, ◌<◌, ◌≤◌, Bool, List, [], ◌∷◌, ◌++◌, length, drop, slice_index, slice_index_or, Some, Result, Ok, Err, add-one, arith, refl, sym, ap, ap₂, ◌∙◌}
use Rattle.std.proofs.lemmas.List.{get_or_default, length_push}
use Rattle.std.proofs.Math.Seq.{drop-cons}
use Rattle.std.specs.Prelude.{if◌then◌else◌}
use Rattle.vk_residue.specs.Steps.{◌>>=◌}
use Rattle.vk_commit.specs.declared.place.Place.{Place}
use Rattle.vk_plan.specs.Plans.{PlanValue}
use Rattle.vk_plan.specs.declared.form.Form.{Form}
use Rattle.vk_plan.specs.declared.wire.WireKind.{WireKind}
use Rattle.vk_plan.specs.declared.wire.WireKind.TheVariants.{Split}
use Rattle.vk_wire.specs.Opened.{opened_by}
use Rattle.vk_wire.specs.Reads.{read_of}
use Rattle.vk_wire.specs.declared.wire.Opened.{Opened}
use Rattle.vk_wire.specs.declared.wire.WireFault.{WireFault}
use Rattle.vk_wire.specs.declared.wire.WireCom.{WireCom}
use Rattle.vk_wire.specs.declared.wire.Shown.{Shown}
use Rattle.vk_row.specs.declared.case.LaneCase.{LaneCase}
use Rattle.vk_row.specs.declared.case.LaneFault.{LaneFault}
use Rattle.vk_row.specs.Rows.{has_side}
use Rattle.vk_row.specs.Lanes.{HasCounts, place_in, no_digests, nothing_opened, nothing_shown}
use Rattle.vk_plan.specs.Forms.{no_row}
use Rattle.vk_row.specs.LaneTests.{AreHashed, at_wire, halves_after, halves_from, first_false_row}

-- the wire that comes next
pub halves_from_step : (case : LaneCase) (bit : Bool) (halves : List ℕ) (kinds : List WireKind)
    (coms : List WireCom) (shown : List Shown) (w : ℕ)
    → w < length kinds → w < length coms → w < length shown
    → halves_from case bit halves (drop w kinds) (drop w coms) (drop w shown)
    ≡ (at_wire (length halves)
    (read_of (slice_index_or kinds w Split) (place_in case (length halves))
    (slice_index_or coms w no_digests) (slice_index_or shown w nothing_shown) bit)
    >>= (λ half. halves_from case bit (halves ++ half ∷ []) (drop (w + 1) kinds) (drop (w + 1) coms)
    (drop (w + 1) shown)))
unfolding halves_from
halves_from_step case bit halves kinds coms shown w in_kinds in_coms in_shown =
    rw (
      add-one,
      drop-cons kinds w Split in_kinds,
      drop-cons coms w no_digests in_coms,
      drop-cons shown w nothing_shown in_shown,
    )

-- with one more half, the wires after are those but one
one_more : (plan : PlanValue) (case : LaneCase) (bit : Bool) (shown : List Shown) (halves : List ℕ)
    (half : Result ℕ LaneFault)
    → (half >>= (λ h. halves_from case bit (halves ++ h ∷ []) (drop (length halves + 1) plan.kinds)
    (drop (length halves + 1) case.coms) (drop (length halves + 1) shown)))
    ≡ (half >>= (λ h. halves_after plan case bit shown (halves ++ h ∷ [])))
one_more plan case bit shown halves (Ok h) = rw (length_push halves h)
one_more plan case bit shown halves (Err fault) = refl

-- the wire that comes next, where what four wires from one on open is hashed
pub next_half : (plan : PlanValue) (case : LaneCase) (bit : Bool) (shown : List Shown)
    (halves : List ℕ) (wire from : ℕ) (opened : List Opened)
    (kind : WireKind) (s : Shown) (read : Result ℕ WireFault) (half : Result ℕ LaneFault)
    → HasCounts plan case shown → AreHashed case bit shown from opened
    → length halves ≡ wire → from ≤ wire → wire < from + 4 → wire < length plan.kinds
    → kind ≡ slice_index_or plan.kinds wire kind → s ≡ slice_index_or shown wire s
    → ((place : Place) → slice_index_or opened (wire - from) nothing_opened ≡ opened_by place s bit
    → read ≡ read_of kind place (slice_index_or case.coms wire no_digests) s bit)
    → half ≡ at_wire wire read
    → halves_after plan case bit shown halves
    ≡ (half >>= (λ h. halves_after plan case bit shown (halves ++ h ∷ [])))
next_half plan case bit shown halves wire from opened kind s read half counts hashed so_many low
    high within kind_is s_is read_is half_is =
    let at : from + (wire - from) ≡ wire = omega arith in
    let in_shown : wire < length shown = omega (arith, counts.one_shown) in
    let in_coms : wire < length case.coms = omega (arith, counts.coms) in
    let its_kind = kind_is ∙ get_or_default plan.kinds wire kind Split within in
    let its_shown = s_is ∙ get_or_default shown wire s nothing_shown in_shown in
    let made = rw at at (hashed (wire - from) (omega arith) (omega arith)) in
    let here = read_is (place_in case wire)
    (made ∙ ap (λ x. opened_by (place_in case wire) x bit) (sym its_shown)) in
    let same = half_is ∙ ap (at_wire wire)
    (here ∙ ap₂ (λ k x. read_of k (place_in case wire)
    (slice_index_or case.coms wire no_digests) x bit) its_kind its_shown) in
    ap (λ w. halves_from case bit halves (drop w plan.kinds) (drop w case.coms) (drop w shown))
    so_many
    ∙ rw so_many at (halves_from_step case bit halves plan.kinds case.coms shown wire within in_coms
    in_shown)
    ∙ ap (λ r. r >>= (λ h. halves_from case bit (halves ++ h ∷ []) (drop (wire + 1) plan.kinds)
    (drop (wire + 1) case.coms) (drop (wire + 1) shown))) (sym same)
    ∙ rw so_many at (one_more plan case bit shown halves half)

-- the row that comes next
pub first_false_row_step : (bit : Bool) (halves : List ℕ) (rows : List Form) (posted : List ℕ)
    (r : ℕ)
    → r < length rows → r < length posted
    → first_false_row bit halves r (drop r rows) (drop r posted)
    ≡ (if has_side (slice_index_or rows r no_row) bit halves (slice_index posted r)
    then first_false_row bit halves (r + 1) (drop (r + 1) rows) (drop (r + 1) posted) else Some r)
unfolding first_false_row
first_false_row_step bit halves rows posted r in_rows in_posted =
    rw (drop-cons rows r no_row in_rows, drop-cons posted r 0 in_posted, add-one)
