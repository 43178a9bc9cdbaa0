-- The computed clash of a lane is its first.
use Rattle.std.proofs.Common.{◌≡◌, ℕ, zero, suc, ◌+◌, ◌<◌, ◌⊎◌, Bool, true, false, List, [], ◌∷◌, length, slice_index_or, Option, Some, None, refl, sym, ap, ◌∙◌, arith, inl, inr, add-zero, zero-add}
use Rattle.std.specs.Prelude.{if◌then◌else◌}
use Rattle.std.proofs.lemmas.Bool.Decides.{Decides-eqb}
use Rattle.std.specs.Bool.{Decides}
use Rattle.vk_commit.specs.Commitment.{TwoOpeningsSeen}
use Rattle.vk_commit.specs.declared.place.Place.{Place}
use Rattle.vk_wire.specs.declared.wire.WireCom.{WireCom}
use Rattle.vk_wire.specs.declared.wire.Shown.{Shown}
use Rattle.vk_wire.specs.declared.wire.Shown.TheVariants.{Whole, Spent}
use Rattle.vk_row.specs.declared.case.LaneCase.{LaneCase}
use Rattle.vk_row.specs.Lanes.{place_in, no_digests, nothing_shown}
use Rattle.vk_extractor.specs.Clash.{clash_at, clash_from, entry_opening, or_else}
use Rattle.vk_extractor.specs.FirstClash.{Agree, IsClash, WireAgrees, IsFirstClash}

-- one wire: the choice by the test
none_chosen : (b : Bool) (P : Type 0) (two : TwoOpeningsSeen) → Decides b P
    → (let r : Option TwoOpeningsSeen = if b then None else Some two in r ≡ None) → P
none_chosen true P two decides e = decides.0 refl
none_chosen false P two decides e = absurd (cc)

some_chosen : (b : Bool) (P : Type 0) (made two : TwoOpeningsSeen) → Decides b P
    → (let r : Option TwoOpeningsSeen = if b then None else Some made in r ≡ Some two)
    → (made ≡ two) × ¬ P
some_chosen true P made two decides e = absurd (cc)
some_chosen false P made two decides e = (cc, λ p. let wrong = decides.1 p in absurd (cc))

chooses_none : (b : Bool) (P : Type 0) (two : TwoOpeningsSeen) → Decides b P → P
    → (let r : Option TwoOpeningsSeen = if b then None else Some two in r ≡ None)
chooses_none b P two decides p = rw (decides.1 p) refl

chooses_some : (b : Bool) (P : Type 0) (two : TwoOpeningsSeen) → Decides b P → ¬ P
    → (let r : Option TwoOpeningsSeen = if b then None else Some two in r ≡ Some two)
chooses_some true P two decides differs = absurd (differs (decides.0 refl))
chooses_some false P two decides differs = refl

-- one wire agrees, or clashes
wire_agrees : (case : LaneCase) (w : ℕ) (digests : WireCom) (z o : Shown)
    → clash_at case w digests z o ≡ None → Agree z o
wire_agrees case w digests (Whole a b) (Spent s o) e =
    none_chosen _ _ _ (Decides-eqb (entry_opening s a b).value o.value) e
wire_agrees case w digests z o e = tt

agreed : (case : LaneCase) (w : ℕ) (digests : WireCom) (z o : Shown) → Agree z o
    → clash_at case w digests z o ≡ None
agreed case w digests (Whole a b) (Spent s o) same =
    chooses_none _ _ _ (Decides-eqb (entry_opening s a b).value o.value) same
agreed case w digests z o same = refl

wire_clashes : (case : LaneCase) (w : ℕ) (digests : WireCom) (z o : Shown) (two : TwoOpeningsSeen)
    → clash_at case w digests z o ≡ Some two → IsClash (place_in case w) digests z o two
wire_clashes case w digests (Whole a b) (Spent s o) two e =
    let chosen = some_chosen _ _ _ two (Decides-eqb (entry_opening s a b).value o.value) e in
    (sym chosen.0, chosen.1)
wire_clashes case w digests z o two e = absurd (cc)

clashed : (case : LaneCase) (w : ℕ) (digests : WireCom) (z o : Shown) (two : TwoOpeningsSeen)
    → IsClash (place_in case w) digests z o two → clash_at case w digests z o ≡ Some two
clashed case w digests (Whole a b) (Spent s o) two is =
    chooses_some _ _ _ (Decides-eqb (entry_opening s a b).value o.value) is.1 ∙ ap Some (sym is.0)
clashed case w digests z o two is = absurd is

-- nothing clashes past the end of what is shown
past_one : (place : Place) (digests : WireCom) (z : Shown) (k : ℕ) (two : TwoOpeningsSeen)
    → ¬ IsClash place digests z (slice_index_or [] k nothing_shown) two
past_one place digests (Whole a b) k two is = absurd is
past_one place digests z k two is = absurd is

agree_past_one : (z : Shown) (k : ℕ) → Agree z (slice_index_or [] k nothing_shown)
agree_past_one (Whole a b) k = tt
agree_past_one z k = tt

-- the wire at that place in the lists is the first that clashes, where the first of them has that
-- number
pub record Clashes (case : LaneCase) (start : ℕ) (coms : List WireCom) (zs os : List Shown)
    (wire : ℕ) (two : TwoOpeningsSeen) : Type 0 where
  pub within : wire < length coms
  pub before : (w : ℕ) → w < wire → WireAgrees zs os w
  pub clash : IsClash (place_in case (start + wire)) (slice_index_or coms wire no_digests)
      (slice_index_or zs wire nothing_shown) (slice_index_or os wire nothing_shown) two

before_cons : (z : Shown) (zs : List Shown) (o : Shown) (os : List Shown) (wire : ℕ) → Agree z o
    → ((w : ℕ) → w < wire → WireAgrees zs os w)
    → (w : ℕ) → w < suc wire → WireAgrees (z ∷ zs) (o ∷ os) w
before_cons z zs o os wire here rest zero lt = here
before_cons z zs o os wire here rest (suc w) lt = rest w (omega arith)

-- one wire of the search
or_else_some : (here later : Option TwoOpeningsSeen) (two : TwoOpeningsSeen)
    → or_else here later ≡ Some two → (here ≡ Some two) ⊎ ((here ≡ None) × (later ≡ Some two))
or_else_some None later two e = inr (refl, e)
or_else_some (Some other) later two e = inl e

or_else_none : (here later : Option TwoOpeningsSeen) → or_else here later ≡ None
    → (here ≡ None) × (later ≡ None)
or_else_none None later e = (refl, e)
or_else_none (Some two) later e = absurd (cc)

or_else_here : (here later : Option TwoOpeningsSeen) (two : TwoOpeningsSeen) → here ≡ Some two
    → or_else here later ≡ Some two
or_else_here here later two e = rw e refl

or_else_later : (here later : Option TwoOpeningsSeen) → here ≡ None → or_else here later ≡ later
or_else_later here later e = rw e refl

-- a computed clash is the first
pub clash_found : (case : LaneCase) (start : ℕ) (coms : List WireCom) (zs os : List Shown)
    (two : TwoOpeningsSeen)
    → clash_from case start coms zs os ≡ Some two
    → (wire : ℕ) × Clashes case start coms zs os wire two
unfolding clash_from
clash_found case start [] zs os two found = absurd (cc)
clash_found case start (digests ∷ coms) [] os two found = absurd (cc)
clash_found case start (digests ∷ coms) (z ∷ zs) [] two found = absurd (cc)
clash_found case start (digests ∷ coms) (z ∷ zs) (o ∷ os) two found =
    elim (or_else_some (clash_at case start digests z o) _ two found) [
      | inl here ↦ (
        zero,
        record {
          within = omega arith;
          before = λ w lt. absurd (omega arith);
          clash = rw add-zero (wire_clashes case start digests z o two here);
        },
      )
      | inr there ↦
          let later = clash_found case (start + 1) coms zs os two there.1 in
          let number : start + suc later.0 ≡ start + 1 + later.0 = omega arith in (
            suc later.0,
            record {
              within = omega (arith, later.1.within);
              before = before_cons z zs o os later.0 (wire_agrees case start digests z o there.0)
                  later.1.before;
              clash = rw number later.1.clash;
            },
          )
    ]

-- the first clash is computed
pub clash_computed : (case : LaneCase) (start : ℕ) (coms : List WireCom) (zs os : List Shown)
    (wire : ℕ) (two : TwoOpeningsSeen)
    → Clashes case start coms zs os wire two → clash_from case start coms zs os ≡ Some two
unfolding clash_from
clash_computed case start [] zs os wire two first = absurd (omega (arith, first.within))
clash_computed case start (digests ∷ coms) [] os wire two first = absurd first.clash
clash_computed case start (digests ∷ coms) (z ∷ zs) [] wire two first =
    absurd (past_one (place_in case (start + wire))
    (slice_index_or (digests ∷ coms) wire no_digests) (slice_index_or (z ∷ zs) wire nothing_shown)
    wire two first.clash)
clash_computed case start (digests ∷ coms) (z ∷ zs) (o ∷ os) zero two first =
    let zeroth : start + zero ≡ start = add-zero start in
    or_else_here (clash_at case start digests z o) _ two
    (clashed case start digests z o two (rw zeroth at first.clash))
clash_computed case start (digests ∷ coms) (z ∷ zs) (o ∷ os) (suc wire) two first =
    let number : start + 1 + wire ≡ start + suc wire = omega arith in
    or_else_later (clash_at case start digests z o) _
    (agreed case start digests z o (first.before zero (omega arith)))
    ∙ clash_computed case (start + 1) coms zs os wire two (record {
      within = omega (arith, first.within);
      before = λ w lt. first.before (suc w) (omega arith);
      clash = rw number first.clash;
    })

-- where none is computed every spent entry agrees
pub all_agree : (case : LaneCase) (start : ℕ) (coms : List WireCom) (zs os : List Shown)
    → clash_from case start coms zs os ≡ None → (wire : ℕ) → wire < length coms
    → WireAgrees zs os wire
unfolding clash_from
all_agree case start [] zs os none wire lt = absurd (omega arith)
all_agree case start (digests ∷ coms) [] os none wire lt = tt
all_agree case start (digests ∷ coms) (z ∷ zs) [] none wire lt =
    agree_past_one (slice_index_or (z ∷ zs) wire nothing_shown) wire
all_agree case start (digests ∷ coms) (z ∷ zs) (o ∷ os) none zero lt =
    wire_agrees case start digests z o ((or_else_none (clash_at case start digests z o) _ none).0)
all_agree case start (digests ∷ coms) (z ∷ zs) (o ∷ os) none (suc wire) lt =
    all_agree case (start + 1) coms zs os
    ((or_else_none (clash_at case start digests z o) _ none).1) wire (omega arith)

-- where every spent entry agrees none is computed
pub none_computed : (case : LaneCase) (start : ℕ) (coms : List WireCom) (zs os : List Shown)
    → ((wire : ℕ) → wire < length coms → WireAgrees zs os wire)
    → clash_from case start coms zs os ≡ None
unfolding clash_from
none_computed case start [] zs os agree = refl
none_computed case start (digests ∷ coms) [] os agree = refl
none_computed case start (digests ∷ coms) (z ∷ zs) [] agree = refl
none_computed case start (digests ∷ coms) (z ∷ zs) (o ∷ os) agree =
    or_else_later (clash_at case start digests z o) _
    (agreed case start digests z o (agree zero (omega arith)))
    ∙ none_computed case (start + 1) coms zs os (λ wire lt. agree (suc wire) (omega arith))

-- from the first wire on
pub first_of_clashes : (case : LaneCase) (zs os : List Shown) (wire : ℕ) (two : TwoOpeningsSeen)
    → Clashes case 0 case.coms zs os wire two → IsFirstClash case zs os wire two
first_of_clashes case zs os wire two first = record {
  within = first.within;
  before = first.before;
  clash = let number : 0 + wire ≡ wire = zero-add wire in rw number at first.clash;
}

pub clashes_of_first : (case : LaneCase) (zs os : List Shown) (wire : ℕ) (two : TwoOpeningsSeen)
    → IsFirstClash case zs os wire two → Clashes case 0 case.coms zs os wire two
clashes_of_first case zs os wire two first = record {
  within = first.within;
  before = first.before;
  clash = let number : 0 + wire ≡ wire = zero-add wire in rw number first.clash;
}
