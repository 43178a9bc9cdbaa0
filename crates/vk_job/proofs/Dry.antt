-- The first wire that is dry: what is computed lane by lane is that.
use Rattle.std.proofs.Common.{◌≡◌, ℕ, zero, suc, ◌+◌, ◌-◌, ◌<◌, ◌≤◌, ◌↔◌, ◌⊎◌, List, Option, Some, None, Result, Ok, Err, refl, sym, ap, ◌∙◌, subst, arith, inl, inr}
use Rattle.std.specs.Prelude.{length, option_map}
use Rattle.std.specs.Result.{result_err}
use Rattle.std.proofs.lemmas.Bool.{cases_lt}
use Rattle.std.proofs.lemmas.List.{length-map}
use Rattle.vk_dice.specs.Stream.{word_at}
use Rattle.vk_seal.specs.Values.{wire_tape}
use Rattle.vk_extractor.specs.Confronting.{tape_in}
use Rattle.vk_prover.specs.Drawn.{dry_wire}
use Rattle.vk_prover.proofs.Drawing.{dry_of_tape}
use Rattle.vk_wire.specs.declared.wire.WireTape.{WireTape}
use Rattle.vk_job.specs.declared.errors.JobErr.{JobErr}
use Rattle.vk_job.specs.declared.errors.JobErr.TheVariants as job
use Rattle.vk_job.specs.Answers.{TapesOr, dry_refusal}
use Rattle.vk_job.specs.Proofs.{TapeSource, Dry, dry_or, given_in, drawn_in, first_dry_from, first_dry_in, IsDrawnIn, IsFirstDryIn}

-- the lane has a tape, or is dry
data IsTried (source : TapeSource) (lane : ℕ) : Type 0 where
  Drawn : (tape : List WireTape) → drawn_in source lane ≡ Ok tape → IsTried source lane
  IsDry : (wire : ℕ) → drawn_in source lane ≡ Err wire → IsTried source lane

tried : (source : TapeSource) (lane : ℕ) (found : Result (List WireTape) ℕ)
    → drawn_in source lane ≡ found → IsTried source lane
tried source lane (Ok tape) is = Drawn tape is
tried source lane (Err wire) is = IsDry wire is

-- the first of so many lanes from that one on
record IsFirstFrom (source : TapeSource) (lane count : ℕ) (dry : Dry) : Type 0 where
  from : lane ≤ dry.lane
  until : dry.lane < lane + count
  here : drawn_in source dry.lane ≡ Err dry.wire
  before : (earlier : ℕ) → lane ≤ earlier → earlier < dry.lane → IsDrawnIn source earlier

one_more : (source : TapeSource) (lane : ℕ) (tape : List WireTape) (one : ℕ)
    → drawn_in source lane ≡ Ok tape → lane ≤ one
    → (lane + 1 ≤ one → IsDrawnIn source one) → IsDrawnIn source one
one_more source lane tape one drawn from later =
    elim (cases_lt lane one) [
      | inl less ↦ later (omega arith)
      | inr more ↦ (let same : lane ≡ one = omega arith in
          (tape, ap (drawn_in source) (sym same) ∙ drawn))
    ]

from_found : (source : TapeSource) (lane count : ℕ) (dry : Dry)
    → first_dry_from source lane count ≡ Some dry → IsFirstFrom source lane count dry
unfolding first_dry_from
from_found source lane zero dry is = cc
from_found source lane (suc count) dry is =
    elim (tried source lane (drawn_in source lane) refl) [
      | Drawn tape drawn ↦
          (let later = from_found source (lane + 1) count dry
          (sym (ap (λ r. dry_or r lane (first_dry_from source (lane + 1) count)) drawn) ∙ is) in
          record {
            from = omega (arith, later.from);
            until = omega (arith, later.until);
            here = later.here;
            before = λ earlier from before. one_more source lane tape earlier drawn from
                (λ after. later.before earlier after before);
          })
      | IsDry wire dries ↦
          (let first : Dry = record { lane = lane; wire = wire } in
          let same : first ≡ dry =
          cc (is, ap (λ r. dry_or r lane (first_dry_from source (lane + 1) count)) dries) in
          let here : IsFirstFrom source lane (suc count) first = record {
            from = omega arith;
            until = omega arith;
            here = dries;
            before = λ earlier from before. absurd (omega arith);
          } in
          subst (IsFirstFrom source lane (suc count)) same here)
    ]

from_none : (source : TapeSource) (lane count : ℕ) → first_dry_from source lane count ≡ None
    → (one : ℕ) → lane ≤ one → one < lane + count → IsDrawnIn source one
unfolding first_dry_from
from_none source lane zero is one from until = absurd (omega arith)
from_none source lane (suc count) is one from until =
    elim (tried source lane (drawn_in source lane) refl) [
      | Drawn tape drawn ↦
          (let none = sym (ap (λ r. dry_or r lane (first_dry_from source (lane + 1) count)) drawn)
          ∙ is in
          one_more source lane tape one drawn from
          (λ after. from_none source (lane + 1) count none one after (omega arith)))
      | IsDry wire dries ↦ cc (
        is,
        ap (λ r. dry_or r lane (first_dry_from source (lane + 1) count)) dries,
      )
    ]

-- ---- lane by lane

dry_next : (source : TapeSource) (lane count : ℕ) → 0 < count
    → first_dry_from source lane count
    ≡ dry_or (drawn_in source lane) lane (first_dry_from source (lane + 1) (count - 1))
unfolding first_dry_from
dry_next source lane zero some = absurd (omega arith)
dry_next source lane (suc count) some = let less : suc count - 1 ≡ count = omega arith in
    rw less refl

passes : (found : Result (List WireTape) ℕ) (lane : ℕ) (later : Option Dry)
    → dry_or found lane None ≡ None → dry_or found lane later ≡ later
passes (Ok tape) lane later none = refl
passes (Err wire) lane later none = cc none

stops : (found : Result (List WireTape) ℕ) (lane : ℕ) (later : Option Dry) (dry : Dry)
    → dry_or found lane None ≡ Some dry → dry_or found lane later ≡ Some dry
stops (Ok tape) lane later dry some = cc some
stops (Err wire) lane later dry some = some

pub refuses_none : (found : Option Dry) → dry_refusal found ≡ Ok tt → found ≡ None
refuses_none None is = refl
refuses_none (Some dry) is = cc is

-- a lane that has a tape
pub dry_turn : (source : TapeSource) (lane left next : ℕ) (whole : Option Dry) → next + 1 ≡ left
    → dry_refusal (dry_or (drawn_in source lane) lane None) ≡ Ok tt
    → first_dry_from source lane left ≡ whole → first_dry_from source (lane + 1) next ≡ whole
dry_turn source lane left next whole fewer drawn so_far =
    let less : left - 1 ≡ next = omega arith in
    let none = refuses_none (dry_or (drawn_in source lane) lane None) drawn in
    rw (← less) (sym (passes (drawn_in source lane) lane
    (first_dry_from source (lane + 1) (left - 1)) none)
    ∙ sym (dry_next source lane left (omega arith)) ∙ so_far)

refused_lane : (found : Result (List WireTape) ℕ) (lane : ℕ) (later : Option Dry) (refusal : JobErr)
    → dry_refusal (dry_or found lane None) ≡ Err refusal
    → dry_refusal (dry_or found lane later) ≡ Err refusal
refused_lane (Ok tape) lane later refusal is = cc is
refused_lane (Err wire) lane later refusal is = is

-- a lane that is dry
pub dry_stop : (source : TapeSource) (lane left : ℕ) (whole : Option Dry) (refusal : JobErr)
    → 0 < left
    → dry_refusal (dry_or (drawn_in source lane) lane None) ≡ Err refusal
    → first_dry_from source lane left ≡ whole → dry_refusal whole ≡ Err refusal
dry_stop source lane left whole refusal some dry so_far =
    ap dry_refusal (sym so_far ∙ dry_next source lane left some)
    ∙ refused_lane (drawn_in source lane) lane (first_dry_from source (lane + 1) (left - 1)) refusal
    dry

pub dry_done : (source : TapeSource) (lane left : ℕ) (whole : Option Dry) → left ≡ 0
    → first_dry_from source lane left ≡ whole → whole ≡ None
unfolding first_dry_from
dry_done source lane left whole none so_far = sym so_far ∙ ap (first_dry_from source lane) none

-- what is dry in a lane, by its first wire that is
found_dry : (found : Result (List WireTape) ℕ) (lane : ℕ)
    → dry_or found lane None ≡ option_map (λ wire. record { lane = lane; wire = wire })
    (result_err found)
found_dry (Ok tape) lane = refl
found_dry (Err wire) lane = refl

of_lane : (source : TapeSource) (lane : ℕ)
    → result_err (drawn_in source lane)
    ≡ dry_wire (length source.rows) source.further (word_at source.seed source.id lane)
unfolding drawn_in
of_lane source lane =
    let ahead = word_at source.seed source.id lane in
    dry_of_tape (given_in source.rows lane) source.further ahead
    ∙ ap (λ n. dry_wire n source.further ahead)
    (length-map source.rows (λ row. wire_tape (tape_in row.secret lane)))

-- the refusal for a lane is that for its first such wire
pub lane_refusal : (source : TapeSource) (lane inputs : ℕ) (ahead : ℕ → ℕ) (found : Option ℕ)
    → inputs ≡ length source.rows → ahead ≡ word_at source.seed source.id lane
    → found ≡ dry_wire inputs source.further ahead
    → dry_refusal (option_map (λ wire. record { lane = lane; wire = wire }) found)
    ≡ dry_refusal (dry_or (drawn_in source lane) lane None)
lane_refusal source lane inputs ahead found inputs_are words is =
    let dry : ℕ → Dry = λ wire. record { lane = lane; wire = wire } in
    ap (λ f. dry_refusal (option_map dry f)) (is
    ∙ ap (λ n. dry_wire n source.further ahead) inputs_are
    ∙ ap (dry_wire (length source.rows) source.further) words
    ∙ sym (of_lane source lane))
    ∙ ap dry_refusal (sym (found_dry (drawn_in source lane) lane))

-- ---- what is told of all lanes

-- the first wire that is dry, whatever is said where memory is refused
pub refusal_told : (source : TapeSource) (Refused : Type 0) (refused : JobErr) (found : Option Dry)
    → first_dry_in source ≡ found → dry_refusal found ≡ Err refused
    → TapesOr Refused (Err refused) source
refusal_told source Refused refused None is told = cc told
refusal_told source Refused (job.DrySeed lane wire) (Some dry) is told =
    let lanes : dry.lane ≡ lane = cc in
    let wires : dry.wire ≡ wire = cc in
    let make : ℕ → ℕ → Option Dry = λ l w. Some (record { lane = l; wire = w }) in
    is ∙ ap (λ l. make l dry.wire) lanes ∙ ap (make lane) wires
refusal_told source Refused job.NoMemory (Some dry) is told = cc told

-- that of the first lane that is left
pub lane_told : (source : TapeSource) (lane left : ℕ) (refused : JobErr) → 0 < left
    → ((refused ≡ job.NoMemory)
    ⊎ (dry_refusal (dry_or (drawn_in source lane) lane None) ≡ Err refused))
    → first_dry_from source lane left ≡ first_dry_in source
    → TapesOr (Unit {0}) (Err refused) source
lane_told source lane left refused some (inl memory) so_far =
    subst (λ e. TapesOr (Unit {0}) (Err e) source) (sym memory) tt
lane_told source lane left refused some (inr dry) so_far =
    refusal_told source (Unit {0}) refused (first_dry_in source) refl
    (dry_stop source lane left (first_dry_in source) refused some dry so_far)

-- ---- in all lanes

pub first_dry_found : (source : TapeSource) (dry : Dry) → first_dry_in source ≡ Some dry
    → IsFirstDryIn source dry
first_dry_found source dry is =
    let found = from_found source 1 source.lanes dry is in
    record {
      some_lane = found.from;
      last_lane = omega (arith, found.until);
      here = found.here;
      before = found.before;
    }

pub tapes_of_none : (source : TapeSource) → first_dry_in source ≡ None → (lane : ℕ) → 1 ≤ lane
    → lane ≤ source.lanes → IsDrawnIn source lane
tapes_of_none source none lane some last =
    from_none source 1 source.lanes none lane some (omega arith)

pub no_tape_where_dry : (source : TapeSource) (lane wire : ℕ) → IsDrawnIn source lane
    → drawn_in source lane ≡ Err wire → ⊥
no_tape_where_dry source lane wire has dry = cc (has.1, dry)

-- there is one first
same_first : (source : TapeSource) (one other : Dry) → IsFirstDryIn source one
    → IsFirstDryIn source other → one ≡ other
same_first source one other first second =
    elim (cases_lt one.lane other.lane) [
      | inl less ↦ absurd (no_tape_where_dry source one.lane one.wire
          (second.before one.lane first.some_lane less) first.here)
      | inr more ↦ elim (cases_lt other.lane one.lane) [
        | inl less ↦ absurd (no_tape_where_dry source other.lane other.wire
            (first.before other.lane second.some_lane less) second.here)
        | inr no_less ↦
            (let lane : one.lane ≡ other.lane = omega arith in
            let wire : one.wire ≡ other.wire =
            cc (sym first.here ∙ ap (drawn_in source) lane ∙ second.here) in
            let make : ℕ → ℕ → Dry = λ l w. record { lane = l; wire = w } in
            ap (λ l. make l one.wire) lane ∙ ap (make other.lane) wire)
      ]
    ]

first_dry_is : (source : TapeSource) (dry : Dry) (found : Option Dry) → IsFirstDryIn source dry
    → first_dry_in source ≡ found → found ≡ Some dry
first_dry_is source dry (Some other) first is =
    ap Some (same_first source other dry (first_dry_found source other is) first)
first_dry_is source dry None first is =
    absurd (no_tape_where_dry source dry.lane dry.wire
    (tapes_of_none source is dry.lane first.some_lane first.last_lane) first.here)

none_is_dry : (source : TapeSource) (found : Option Dry)
    → ((lane : ℕ) → 1 ≤ lane → lane ≤ source.lanes → IsDrawnIn source lane)
    → first_dry_in source ≡ found → found ≡ None
none_is_dry source None all is = refl
none_is_dry source (Some dry) all is =
    let first = first_dry_found source dry is in
    absurd (no_tape_where_dry source dry.lane dry.wire
    (all dry.lane first.some_lane first.last_lane) first.here)

pub dry_is_first : (source : TapeSource) (dry : Dry) → (first_dry_in source ≡ Some dry)
    ↔ IsFirstDryIn source dry
dry_is_first source dry = (
  first_dry_found source dry,
  λ first. first_dry_is source dry (first_dry_in source) first refl,
)

pub none_where_all : (source : TapeSource)
    → (first_dry_in source ≡ None)
    ↔ ((lane : ℕ) → 1 ≤ lane → lane ≤ source.lanes → IsDrawnIn source lane)
none_where_all source = (
  tapes_of_none source,
  λ all. none_is_dry source (first_dry_in source) all refl,
)
