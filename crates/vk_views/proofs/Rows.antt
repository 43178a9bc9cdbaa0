-- The posted number of one row with the tape moved.
use Rattle.std.proofs.Common.{◌≡◌, ℕ, ◌+◌, ◌<◌, Bool, true, false, List, All, length, get_or, slice_index, slice_index_or, sym, ap, ◌∙◌, arith, zero-add}
use Rattle.std.proofs.lemmas.List.{same_lists, get_or-map, get_or_default}
use Rattle.vk_residue.specs.Residue.{IsResidue, sum, difference}
use Rattle.vk_plan.specs.Forms.{linear_part, form_value}
use Rattle.vk_plan.specs.declared.wire.WireKind.{WireKind}
use Rattle.vk_plan.specs.declared.wire.WireKind.TheVariants.{Split}
use Rattle.vk_wire.specs.declared.wire.WireTape.{WireTape}
use Rattle.vk_row.specs.Rows.{sums}
use Rattle.vk_row.proofs.Linear.{linear_part_sums}
use Rattle.vk_row.proofs.Sums.{length-sums, get_or-sums}
use Rattle.vk_prover.specs.Honest.{masks, no_tape}
use Rattle.vk_prover.proofs.Halves.{length-masks}
use Rattle.vk_prover.proofs.Wires.{get_or-each_wire, length-each_wire}
use Rattle.vk_views.specs.Moved.{moved_wire, moved_tape}
use Rattle.vk_views.specs.Laws.{RowsPostTheSame}

-- ---- the moved tape, wire by wire

pub length-moved : (kinds : List WireKind) (values others : List ℕ) (bit : Bool)
    (tape : List WireTape)
    → length values ≡ length kinds → length tape ≡ length kinds
    → length (moved_tape kinds values others bit tape) ≡ length kinds
length-moved kinds values others bit tape same same_tape =
    length-each_wire (λ wire kind value own. moved_wire kind value (slice_index others wire) bit
    own) 0 kinds values tape same same_tape

pub get_or-moved : (kinds : List WireKind) (values others : List ℕ) (bit : Bool)
    (tape : List WireTape) (k : ℕ) (d : WireTape)
    → k < length kinds → length values ≡ length kinds → length tape ≡ length kinds
    → get_or (moved_tape kinds values others bit tape) k d
    ≡ moved_wire (slice_index_or kinds k Split) (slice_index values k) (slice_index others k) bit
    (slice_index_or tape k no_tape)
get_or-moved kinds values others bit tape k d lt same same_tape =
    let number : 0 + k ≡ k = zero-add k in
    get_or-each_wire (λ wire kind value own. moved_wire kind value (slice_index others wire) bit
    own) 0 kinds values tape k d lt same same_tape
    ∙ ap (λ wire. moved_wire (slice_index_or kinds k Split) (slice_index values k)
    (slice_index others wire) bit (slice_index_or tape k no_tape)) number

-- for bit 0 it is the tape
pub stays_for_0 : (kinds : List WireKind) (values others : List ℕ) (tape : List WireTape)
    → length values ≡ length kinds → length tape ≡ length kinds
    → moved_tape kinds values others false tape ≡ tape
stays_for_0 kinds values others tape same same_tape =
    let long = length-moved kinds values others false tape same same_tape in
    same_lists (moved_tape kinds values others false tape) tape (long ∙ sym same_tape) (λ k d lt.
    get_or-moved kinds values others false tape k d (omega arith) same same_tape
    ∙ get_or_default tape k no_tape d (omega arith))

-- ---- masks

mask_at : (tape : List WireTape) (k : ℕ) → k < length tape
    → slice_index (masks tape) k ≡ (slice_index_or tape k no_tape).mask
mask_at tape k lt = get_or-map (λ wire. wire.mask) tape k no_tape 0 lt

-- a moved mask and the value come to the mask and the other value
moved_sum : (mask value other : ℕ) → IsResidue value
    → sum (sum mask (difference other value)) value ≡ sum mask other
moved_sum mask value other small = omega arith

sums_moved : (kinds : List WireKind) (values others : List ℕ) (tape : List WireTape)
    → length values ≡ length kinds → length others ≡ length kinds → length tape ≡ length kinds
    → All IsResidue values
    → sums (masks (moved_tape kinds values others true tape)) values ≡ sums (masks tape) others
sums_moved kinds values others tape same same_others same_tape small =
    let moved = moved_tape kinds values others true tape in
    let long : length moved ≡ length kinds =
    length-moved kinds values others true tape same same_tape in
    let first : length (masks moved) ≡ length kinds = length-masks moved ∙ long in
    let second : length (masks tape) ≡ length kinds = length-masks tape ∙ same_tape in
    let left : length (sums (masks moved) values) ≡ length kinds =
    length-sums (masks moved) values (first ∙ sym same) ∙ first in
    let right : length (sums (masks tape) others) ≡ length kinds =
    length-sums (masks tape) others (second ∙ sym same_others) ∙ second in
    same_lists (sums (masks moved) values) (sums (masks tape) others) (left ∙ sym right) (λ k d lt.
    let within : k < length kinds = omega arith in
    get_or-sums (masks moved) values k d (first ∙ sym same) (omega arith)
    ∙ ap (λ mask. sum mask (slice_index values k))
    (mask_at moved k (omega arith)
    ∙ ap (λ wire. wire.mask) (get_or-moved kinds values others true tape k no_tape within same
    same_tape))
    ∙ moved_sum (slice_index_or tape k no_tape).mask (slice_index values k) (slice_index others k)
    (small k 0 (omega arith))
    ∙ ap (λ mask. sum mask (slice_index others k)) (sym (mask_at tape k (omega arith)))
    ∙ sym (get_or-sums (masks tape) others k d (second ∙ sym same_others) (omega arith)))

-- ---- the row

pub row_posts_the_same : RowsPostTheSame
unfolding linear_part form_value
row_posts_the_same row kinds values others false tape same same_others same_tape names small
    zero_row zero_other =
    ap (λ own. linear_part row.terms (masks own))
    (stays_for_0 kinds values others tape same same_tape)
row_posts_the_same row kinds values others true tape same same_others same_tape names small zero_row
    zero_other =
    let moved = moved_tape kinds values others true tape in
    let first : length (masks moved) ≡ length kinds =
    length-masks moved ∙ length-moved kinds values others true tape same same_tape in
    let second : length (masks tape) ≡ length kinds = length-masks tape ∙ same_tape in
    let left = linear_part_sums row.terms (masks moved) values (first ∙ sym same) (rw first names)
    in
    let right = linear_part_sums row.terms (masks tape) others (second ∙ sym same_others)
    (rw second names) in
    let whole = ap (linear_part row.terms)
    (sums_moved kinds values others tape same same_others same_tape small) in
    omega (arith, left, right, whole, zero_row, zero_other)
