-- The tape of each lane of a proof is a tape for its plan.
use Rattle.std.proofs.Common.{◌≡◌, ℕ, zero, suc, ◌+◌, ◌-◌, ◌<◌, ◌≤◌, All, List, ◌++◌, length, Option, Some, None, Ok, refl, sym, ap, ◌∙◌, subst, arith, inl, inr}
use Rattle.std.specs.Prelude.{slice_index, slice_index_or, option_map}
use Rattle.std.specs.Int.{w64, bytes_high_first, byte_at, to_be_bytes}
use Rattle.std.proofs.lemmas.Bool.{cases_lt}
use Rattle.std.proofs.lemmas.Bool.Decides.{nat_tests}
use Rattle.std.proofs.lemmas.List.{get_or_past, length-map}
use Rattle.std.proofs.lemmas.List.Elements.{All-nil, All-cons, All-append, All-map, All-weaker, All-from_recursion}
use Rattle.vk_residue.specs.Residue.{IsResidue}
use Rattle.vk_commit.specs.Values.{AreBytes}
use Rattle.vk_dice.specs.Words.{later}
use Rattle.vk_dice.specs.Draws.{drawn_by, first_of, residue_within, drawn_residue, after_residue, drawn_key}
use Rattle.vk_dice.specs.Stream.{word_at}
use Rattle.vk_dice.proofs.Drawing.{drawn_each}
use Rattle.vk_range.specs.SetLaws.{at_listed, length_listed}
use Rattle.vk_wire.specs.Values.{IsTape}
use Rattle.vk_wire.specs.declared.wire.WireTape.{WireTape}
use Rattle.vk_seal.specs.Made.{seal_of}
use Rattle.vk_seal.specs.Values.{IsXTape, wire_tape}
use Rattle.vk_seal.proofs.SealsMatch.{match_exact}
use Rattle.vk_seal.proofs.Tapes.{length-lane_coms}
use Rattle.vk_extractor.specs.Confronting.{no_tape, tape_in}
use Rattle.vk_prover.specs.declared.tape.LaneTape.{LaneTape}
use Rattle.vk_prover.specs.Drawn.{drawn_wire, wire_drawing, wire_with}
use Rattle.vk_prover.specs.Laws.{IsTapeOf}
use Rattle.vk_prover.proofs.Wires.{inputs_within}
use Rattle.vk_keeper.specs.declared.auction.SealRow.{SealRow}
use Rattle.vk_keeper.specs.Auctions.{IsSealRow}
use Rattle.vk_job.specs.declared.proof.Prepared.{Prepared}
use Rattle.vk_job.specs.Proofs.{ProofValue, TapeSource, source_of, given_in, drawn_in, tape_or_none, tape_at, tapes_in, lane_tape_in, HasTapesFor, IsPrepared, IsProof}
use Rattle.vk_job.proofs.Dry.{tapes_of_none}

-- ---- what is drawn of words

bytes_of_word : (count n : ℕ) → All (λ byte. byte < 256) (bytes_high_first count n)
bytes_of_word zero n = All-nil (λ byte. byte < 256)
bytes_of_word (suc count) n = All-cons (λ byte. byte < 256) (byte_at count n)
    (bytes_high_first count n) (one count) (bytes_of_word count n)
  where
    one : (i : ℕ) → byte_at i n < 256
    one zero = omega arith
    one (suc i) = omega arith

below_everywhere : (bytes : List ℕ) → All (λ byte. byte < 256) bytes → (i : ℕ)
    → slice_index bytes i < 256
below_everywhere bytes all i =
    elim (cases_lt i (length bytes)) [
      | inl within ↦ all i 0 within
      | inr past ↦ omega (arith, get_or_past bytes i 0 past)
    ]

pub key_is_bytes : (ahead : ℕ → ℕ) → AreBytes 32 (drawn_key ahead)
key_is_bytes ahead =
    let below : ℕ → Type 0 = λ byte. byte < 256 in
    let word = λ (k : ℕ). to_be_bytes w64 (ahead k) in
    let are = λ (k : ℕ). bytes_of_word 8 (ahead k) in
    let front = All-append below (word 0) (word 1) (are 0) (are 1) in
    let back = All-append below (word 2) (word 3) (are 2) (are 3) in (
      refl,
      below_everywhere (drawn_key ahead)
          (All-append below (word 0 ++ word 1) (word 2 ++ word 3) front back),
    )

word_is_residue : (word r : ℕ) → drawn_by word ≡ Some r → IsResidue r
word_is_residue word r is = grind (arith, nat_tests)

residue_from : (drawn rest : Option ℕ) (word r : ℕ) → drawn_by word ≡ drawn
    → (rest ≡ Some r → IsResidue r) → first_of drawn rest ≡ Some r → IsResidue r
residue_from None rest word r none later found = later found
residue_from (Some x) rest word r some later found = word_is_residue word r (some ∙ found)

pub residue_is : (count : ℕ) (ahead : ℕ → ℕ) (r : ℕ) → residue_within count ahead ≡ Some r
    → IsResidue r
residue_is zero ahead r is = cc
residue_is (suc more) ahead r is =
    residue_from (drawn_by (ahead 0)) (residue_within more (later 1 ahead)) (ahead 0) r refl
    (residue_is more (later 1 ahead) r) is

pub of_some : {X Y : Type 0} (f : X → Y) (o : Option X) (y : Y) → option_map f o ≡ Some y
    → (x : X) × (o ≡ Some x) × (f x ≡ y)
of_some f None y is = cc
of_some f (Some x) y is = (x, refl, cc)

wire_is : (ahead : ℕ → ℕ) (tape : WireTape) → drawn_wire ahead ≡ Some tape → IsTape tape
wire_is ahead tape is =
    let drawn = of_some (λ mask. wire_with mask (after_residue ahead)) (drawn_residue ahead) tape is
    in
    let right : IsTape (wire_with drawn.0 (after_residue ahead)) = record {
      mask = residue_is 4 ahead drawn.0 drawn.1;
      first_key = key_is_bytes (later 1 (after_residue ahead));
      second_key = key_is_bytes (later 4 (later 1 (after_residue ahead)));
    } in
    subst IsTape drawn.2 right

-- ---- the tapes of a proof

-- a secret has a tape for each lane of its seal
pub lanes_of : (id : List ℕ) (width lanes : ℕ) (row : SealRow) → IsSealRow id width lanes row
    → length row.secret.lanes ≡ lanes
lanes_of id width lanes row is =
    let made : row.seal ≡ seal_of row.secret =
    (match_exact row.secret row.seal).0 (rw is.matched refl) in
    sym (length-lane_coms row.secret.auction row.secret.seat row.secret.bid 1 row.secret.lanes)
    ∙ sym (ap (λ seal. length seal.lanes) made) ∙ is.count

given_is : (lanes lane : ℕ) (row : SealRow) → 1 ≤ lane → lane ≤ lanes → HasTapesFor lanes row
    → IsTape (wire_tape (tape_in row.secret lane))
given_is lanes lane row some last has =
    let tape = All-from_recursion IsXTape row.secret.lanes has.each (lane - 1) no_tape
    (omega (arith, has.count)) in
    record { mask = tape.0; first_key = tape.1; second_key = tape.2 }

given_are : (rows : List SealRow) (lanes lane : ℕ) → All (HasTapesFor lanes) rows → 1 ≤ lane
    → lane ≤ lanes → All IsTape (given_in rows lane)
given_are rows lanes lane have some last =
    All-map IsTape (λ row. wire_tape (tape_in row.secret lane)) rows
    (All-weaker (HasTapesFor lanes) (λ row. IsTape (wire_tape (tape_in row.secret lane)))
    (λ row has. given_is lanes lane row some last has) rows have)

pub one_given_each : (rows : List SealRow) (lane : ℕ) → length (given_in rows lane) ≡ length rows
one_given_each rows lane = length-map rows (λ row. wire_tape (tape_in row.secret lane))

drawn_is_tape : (proof : ProofValue) (lane : ℕ) (tape : List WireTape) → IsProof proof → 1 ≤ lane
    → lane ≤ proof.lanes
    → drawn_in (source_of proof) lane ≡ Ok tape → IsTapeOf proof.plan tape
unfolding drawn_in
drawn_is_tape proof lane tape right some last drawn =
    let further = length proof.plan.kinds - proof.plan.inputs in
    let is = drawn_each wire_drawing IsTape wire_is (given_in proof.rows lane) further
    (word_at proof.seed proof.id lane) tape
    (given_are proof.rows proof.lanes lane right.secrets some last) drawn in
    let few = inputs_within proof.plan right.plan in
    record {
      one_each = is.0 ∙ omega
          (arith, one_given_each proof.rows lane, right.one_input_each, few);
      each = is.1;
    }

pub lane_tape_is : (proof : ProofValue) (lane : ℕ) → IsProof proof → 1 ≤ lane → lane ≤ proof.lanes
    → IsTapeOf proof.plan (lane_tape_in proof lane)
lane_tape_is proof lane right some last =
    let drawn = tapes_of_none (source_of proof) right.none_dry lane some last in
    subst (IsTapeOf proof.plan) (sym (ap tape_or_none drawn.1))
    (drawn_is_tape proof lane drawn.0 right some last drawn.1)

-- ---- the tapes of all lanes

pub one_tape_each : (source : TapeSource) (tapes : List LaneTape) → tapes ≡ tapes_in source
    → length tapes ≡ source.lanes
one_tape_each source tapes are = ap length are ∙ length_listed (tape_at source) source.lanes

-- that which stands at a lane's place is the lane's
pub prepared_tape : (proof : ProofValue) (made : Prepared) (tapes : List LaneTape) (lane : ℕ)
    (tape : LaneTape) → IsPrepared proof made → tapes ≡ made.tapes → 1 ≤ lane → lane ≤ proof.lanes
    → tape ≡ slice_index_or tapes (lane - 1) tape → tape.wires ≡ lane_tape_in proof lane
prepared_tape proof made tapes lane tape is are some last here =
    let source = source_of proof in
    let back : lane - 1 + 1 ≡ lane = omega arith in
    let stands = here ∙ ap (λ all. slice_index_or all (lane - 1) tape) (are ∙ is.tapes)
    ∙ at_listed (tape_at source) source.lanes (lane - 1) tape (omega arith) in
    ap (λ found. found.wires) stands
    ∙ ap (lane_tape_in proof) back
