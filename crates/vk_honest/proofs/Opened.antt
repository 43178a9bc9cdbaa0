-- What an honest prover shows of a seal in a lane is a half of its secret, and what it shows of the
-- lane for both bits agrees.
use Rattle.std.proofs.Common.{◌≡◌, ℕ, ◌<◌, ◌≤◌, Bool, true, false, List, length, get_or, refl, sym, ap, subst, ◌∙◌, arith, inl, inr}
use Rattle.std.specs.Prelude.{◌≢◌, if◌then◌else◌, slice_index, slice_index_or}
use Rattle.std.proofs.lemmas.Bool.{cases_lt}
use Rattle.std.proofs.lemmas.List.{get_or_past}
use Rattle.std.proofs.lemmas.Option.{get_or_from_slice_get}
use Rattle.vk_plan.specs.declared.wire.WireKind.{WireKind}
use Rattle.vk_plan.specs.declared.wire.WireKind.TheVariants.{Pair, Split}
use Rattle.vk_wire.specs.Made.{first_opening, second_opening, shown_wire, spends_second}
use Rattle.vk_wire.specs.declared.wire.Shown.{Shown}
use Rattle.vk_wire.specs.declared.wire.Shown.TheVariants.{Half, Spent, Whole}
use Rattle.vk_wire.specs.declared.wire.WireTape.{WireTape}
use Rattle.vk_row.specs.Lanes.{nothing_shown}
use Rattle.vk_seal.specs.Values.{wire_tape}
use Rattle.vk_seal.specs.declared.secret.Secret.{Secret}
use Rattle.vk_extractor.specs.Confronting.{secret_opening, tape_in}
use Rattle.vk_extractor.specs.FirstClash.{Agree, WireAgrees}
use Rattle.vk_prover.specs.Honest.{no_tape, shown_of}
use Rattle.vk_prover.proofs.Accepted.{IsHonest}
use Rattle.vk_prover.proofs.Wires.{get_or-each_wire, inputs_within, length-each_wire}
use Rattle.vk_bids.specs.Gathering.{shown_for}
use Rattle.vk_job.specs.Proofs.{ProofValue, lane_shown_in, lane_tape_in, no_row}
use Rattle.vk_honest.specs.Answers.{IsSealedProof}
use Rattle.vk_honest.proofs.Cases.{bid_at, is_honest, seats_in, tape_at}

-- ---- one wire

spent_agrees : (i value : ℕ) (tape : WireTape) (second : Bool)
    → Agree (Whole (first_opening (Pair i) value tape) (second_opening (Pair i) value tape))
    (if second then Spent true (second_opening (Pair i) value tape)
    else Spent false (first_opening (Pair i) value tape))
spent_agrees i value tape true = refl
spent_agrees i value tape false = refl

wire_agrees : (kind : WireKind) (value : ℕ) (tape : WireTape)
    → Agree (shown_wire kind value tape false) (shown_wire kind value tape true)
wire_agrees Split value tape = tt
wire_agrees (Pair i) value tape = spent_agrees i value tape (spends_second (Pair i) value tape)

agree_as : (zero zero' one one' : Shown) → zero ≡ zero' → one ≡ one' → Agree zero' one'
    → Agree zero one
agree_as zero zero' one one' zeros ones agree =
    let P : Shown → Type 0 = λ shown. Agree shown one' in
    let Q : Shown → Type 0 = λ shown. Agree zero shown in
    subst Q (sym ones) (subst P (sym zeros) agree)

half_is : (secret : Secret) (lane : ℕ) (bit : Bool)
    → shown_wire Split secret.bid (wire_tape (tape_in secret lane)) bit
    ≡ Half (secret_opening secret lane bit)
half_is secret lane true = refl
half_is secret lane false = refl

-- ---- one lane

module _ (width : ℕ) (proof : ProofValue) (is : IsSealedProof width proof) (lane : ℕ) (some : 1 ≤ lane) (within : lane ≤ proof.lanes) where
  abbrev honest : IsHonest proof.plan (seats_in proof) proof.values (lane_tape_in proof lane)
  honest = is_honest width proof is lane some within

  -- what is shown of a wire
  wire_shown : (bit : Bool) (wire : ℕ) → wire < length proof.plan.kinds
      → slice_index_or (lane_shown_in proof lane bit) wire nothing_shown
      ≡ shown_wire (slice_index_or proof.plan.kinds wire Split) (slice_index proof.values wire)
      (slice_index_or (lane_tape_in proof lane) wire no_tape) bit
  unfolding lane_shown_in
  wire_shown bit wire lt =
      get_or-each_wire (shown_of bit) 0 proof.plan.kinds proof.values (lane_tape_in proof lane) wire
      nothing_shown lt honest.values_hold.one_each honest.tape_is.one_each

  shown_count : (bit : Bool) → length (lane_shown_in proof lane bit) ≡ length proof.plan.kinds
  unfolding lane_shown_in
  shown_count bit = length-each_wire (shown_of bit) 0 proof.plan.kinds proof.values
      (lane_tape_in proof lane) honest.values_hold.one_each honest.tape_is.one_each

  -- of a seal: the half that its secret has
  pub half_shown : (bit : Bool) (input : ℕ) → input < length proof.rows
      → slice_index_or (lane_shown_in proof lane bit) input nothing_shown
      ≡ Half (secret_opening (get_or proof.rows input no_row).secret lane bit)
  half_shown bit input lt =
      let plan = proof.plan in
      let few : plan.inputs ≤ length plan.kinds = inputs_within plan is.right.plan in
      let inside : input < plan.inputs = omega (arith, is.right.one_input_each) in
      let split : slice_index_or plan.kinds input Split ≡ Split =
      get_or_from_slice_get plan.kinds input Split Split
      (is.right.plan.inputs_are_split input inside) in
      let value = slice_index proof.values input in
      let tape = slice_index_or (lane_tape_in proof lane) input no_tape in
      let secret = (get_or proof.rows input no_row).secret in
      wire_shown bit input (omega arith)
      ∙ (ap (λ kind. shown_wire kind value tape bit) split
      ∙ (ap (λ bid. shown_wire Split bid tape bit) (bid_at width proof is lane some within input lt)
      ∙ (ap (λ t. shown_wire Split secret.bid t bit)
      (tape_at width proof is lane some within input lt) ∙ half_is secret lane bit)))

  -- what is shown for both bits agrees
  pub shown_agree : (wire : ℕ)
      → WireAgrees (lane_shown_in proof lane false) (lane_shown_in proof lane true) wire
  shown_agree wire = elim (cases_lt wire (length proof.plan.kinds)) [
    | inl inside ↦ agree_as _ _ _ _ (wire_shown false wire inside) (wire_shown true wire inside)
        (wire_agrees (slice_index_or proof.plan.kinds wire Split) (slice_index proof.values wire)
        (slice_index_or (lane_tape_in proof lane) wire no_tape))
    | inr past ↦ agree_as _ _ _ _
        (get_or_past (lane_shown_in proof lane false) wire nothing_shown
        (omega (arith, shown_count false)))
        (get_or_past (lane_shown_in proof lane true) wire nothing_shown
        (omega (arith, shown_count true))) tt
  ]

-- of two replies whose bits differ, what the one for this bit shows
pub shown_either : (shown : Bool → List Shown) (bit first second : Bool) → first ≢ second
    → shown_for bit first (shown first) (shown second) ≡ shown bit
shown_either shown false false second differ = refl
shown_either shown true true second differ = refl
shown_either shown false true false differ = refl
shown_either shown false true true differ = absurd (differ refl)
shown_either shown true false true differ = refl
shown_either shown true false false differ = absurd (differ refl)
