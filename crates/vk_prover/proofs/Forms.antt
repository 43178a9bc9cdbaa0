-- What an honest prover publishes of a lane and shows of it is of its form.
use Rattle.std.proofs.Common.{◌≡◌, ℕ, ◌+◌, ◌-◌, ◌^◌, ◌<◌, Bool, true, false, List, [], ◌∷◌, length, drop, slice_index, slice_index_or, map, refl, sym, subst, ◌∙◌, arith, if◌then◌else◌, length-drop}
use Rattle.std.specs.List.{AllByRecursion}
use Rattle.std.proofs.lemmas.List.{length-map}
use Rattle.std.proofs.lemmas.Option.{slice_get_within, get_or_from_slice_get}
use Rattle.vk_residue.specs.Residue.{IsResidue, difference, negative}
use Rattle.vk_commit.specs.Commitment.{message}
use Rattle.vk_commit.specs.Values.{IsOpening}
use Rattle.vk_commit.proofs.Digests.{digest_is_bytes}
use Rattle.vk_plan.specs.Forms.{linear_part}
use Rattle.vk_plan.specs.Plans.{PlanValue, Holds}
use Rattle.vk_plan.specs.declared.form.Form.{Form}
use Rattle.vk_plan.specs.declared.wire.WireKind.{WireKind}
use Rattle.vk_plan.specs.declared.wire.WireKind.TheVariants.{Split, Pair}
use Rattle.vk_wire.specs.Made.{first_opening, second_opening, shown_wire, spends_second}
use Rattle.vk_wire.specs.Places.{next_place}
use Rattle.vk_wire.specs.Values.{IsCom, IsTape}
use Rattle.vk_wire.specs.Laws.{MadeComsAre}
use Rattle.vk_wire.specs.declared.wire.WireTape.{WireTape}
use Rattle.vk_wire.specs.declared.wire.Shown.TheVariants.{Spent}
use Rattle.vk_row.specs.Lanes.{nothing_shown}
use Rattle.vk_board.specs.Values.{IsLaneLines}
use Rattle.vk_reply.specs.Values.{IsShown, AreShown}
use Rattle.vk_prover.specs.Honest.{each_wire, com_of, shown_of, honest_lane, honest_reply, masks, posted_on, no_tape}
use Rattle.vk_prover.specs.Laws.{IsTapeOf}
use Rattle.vk_prover.proofs.Wires.{get_or-each_wire, length-each_wire}

-- what is published of each wire
made_coms_are : MadeComsAre
made_coms_are kind place value tape = (
  digest_is_bytes (message place (first_opening kind value tape)),
  digest_is_bytes (message (next_place place) (second_opening kind value tape)),
)

coms_are : (auction : List ℕ) (lane w : ℕ) (kinds : List WireKind) (values : List ℕ)
    (tape : List WireTape) → AllByRecursion IsCom
    (each_wire (com_of auction lane []) w kinds values tape)
unfolding each_wire
coms_are auction lane w [] values tape = tt
coms_are auction lane w (kind ∷ kinds) [] tape = tt
coms_are auction lane w (kind ∷ kinds) (v ∷ vs) [] = tt
coms_are auction lane w (kind ∷ kinds) (v ∷ vs) (t ∷ ts) =
    (made_coms_are kind _ v t, coms_are auction lane (w + 1) kinds vs ts)

-- and of each row
posted_is_residue : (firsts : List ℕ) (row : Form) → IsResidue (posted_on firsts row)
unfolding linear_part
posted_is_residue firsts row = omega arith

posted_are : (rows : List Form) (firsts : List ℕ)
    → AllByRecursion IsResidue (map (posted_on firsts) rows)
posted_are [] firsts = tt
posted_are (row ∷ rows) firsts = (posted_is_residue firsts row, posted_are rows firsts)

pub lines_are : (plan : PlanValue) (auction : List ℕ) (lane : ℕ) (values : List ℕ)
    (tape : List WireTape) → Holds plan values → IsTapeOf plan tape
    → IsLaneLines (length plan.kinds - plan.inputs) (length plan.rows)
    (honest_lane plan auction lane values tape)
lines_are plan auction lane values tape holds is =
    let n = plan.inputs in
    let kinds = length-drop n plan.kinds in
    let vs = length-drop n values in
    let ts = length-drop n tape in
    record {
      wire_count = length-each_wire (com_of auction lane []) n (drop n plan.kinds) (drop n values)
          (drop n tape)
          (omega (arith, holds.one_each)) (omega (arith, is.one_each)) ∙ kinds;
      row_count = length-map plan.rows (posted_on (masks tape));
      coms = coms_are auction lane n (drop n plan.kinds) (drop n values) (drop n tape);
      posted = posted_are plan.rows (masks tape);
    }

-- the openings of a wire
entry_is : (swap : Bool) (a b : ℕ) → IsResidue a → IsResidue b → IsResidue (if swap then a else b)
entry_is true a b is_a is_b = is_a
entry_is false a b is_a is_b = is_b

first_is : (kind : WireKind) (value : ℕ) (tape : WireTape) → IsTape tape
    → IsOpening (first_opening kind value tape)
first_is Split value tape is = record { key = is.first_key; value = is.mask }
first_is (Pair i) value tape is =
    record {
      key = is.first_key;
      value = entry_is tape.swap (difference (2 ^ i) tape.mask) (negative tape.mask) (omega arith)
          (omega arith);
    }

second_is : (kind : WireKind) (value : ℕ) (tape : WireTape) → IsTape tape
    → IsOpening (second_opening kind value tape)
second_is Split value tape is = record { key = is.second_key; value = omega arith }
second_is (Pair i) value tape is =
    record {
      key = is.second_key;
      value = entry_is tape.swap (negative tape.mask) (difference (2 ^ i) tape.mask) (omega arith)
          (omega arith);
    }

-- what is shown of a wire
spent_is : (i value : ℕ) (tape : WireTape) (second : Bool) → IsTape tape
    → IsShown (Pair i) true (if second then Spent true (second_opening (Pair i) value tape)
    else Spent false (first_opening (Pair i) value tape))
spent_is i value tape true is = record { form = refl; openings = second_is (Pair i) value tape is }
spent_is i value tape false is = record { form = refl; openings = first_is (Pair i) value tape is }

shown_is : (kind : WireKind) (value : ℕ) (tape : WireTape) (bit : Bool) → IsTape tape
    → IsShown kind bit (shown_wire kind value tape bit)
shown_is Split value tape false is = record { form = refl; openings = first_is Split value tape is }
shown_is Split value tape true is = record { form = refl; openings = second_is Split value tape is }
shown_is (Pair i) value tape false is =
    record {
      form = refl;
      openings =
          (first_is (Pair i) value tape is, second_is (Pair i) value tape is);
    }
shown_is (Pair i) value tape true is = spent_is i value tape (spends_second (Pair i) value tape) is

pub shown_are : (plan : PlanValue) (values : List ℕ) (tape : List WireTape) (bit : Bool)
    → Holds plan values → IsTapeOf plan tape
    → AreShown plan.kinds bit (honest_reply plan.kinds values tape bit)
shown_are plan values tape bit holds is = record {
  one_each = length-each_wire (shown_of bit) 0 plan.kinds values tape holds.one_each is.one_each;
  each = λ w kind one at_kind at_shown.
      let lt : w < length plan.kinds = slice_get_within plan.kinds w kind at_kind in
      let wire = slice_index_or tape w no_tape in
      let value = slice_index values w in
      let same_kind : slice_index_or plan.kinds w Split ≡ kind =
      get_or_from_slice_get plan.kinds w kind Split at_kind in
      let same_shown : slice_index_or (honest_reply plan.kinds values tape bit) w nothing_shown
      ≡ one =
      get_or_from_slice_get (honest_reply plan.kinds values tape bit) w one nothing_shown at_shown
      in
      let shown = get_or-each_wire (shown_of bit) 0 plan.kinds values tape w nothing_shown lt
      holds.one_each is.one_each in
      let right = shown_is (slice_index_or plan.kinds w Split) value wire bit
      (is.each w no_tape (omega (arith, is.one_each))) in
      subst (λ k. IsShown k bit one) same_kind
      (subst (IsShown (slice_index_or plan.kinds w Split) bit) (sym shown ∙ same_shown) right);
}
