-- What holds for a longer plan, and what holds for the plan before.
use Rattle.std.specs.Prelude.{ℕ, ◌+◌, ◌-◌, ◌<◌, ◌≤◌, ◌≡◌, List, ◌++◌, Some, All, length, replicate, take, drop, slice_index, slice_index_or}
use Rattle.std.proofs.Common.{sym, refl, ap, ◌∙◌, arith, inl, inr, get_or, get_or-take, length-append, get_or-drop, get_or-append-add}
use Rattle.std.proofs.lemmas.List.{length-replicate, get_or-replicate, get_or_append_left, get_or-append_right, length-take-le}
use Rattle.std.proofs.lemmas.List.Elements.{All-nil, All-replicate, All-append, All-take}
use Rattle.std.proofs.lemmas.Bool.{cases_lt}
use Rattle.std.proofs.lemmas.Option.{slice_get_within, slice_get-get_or, get_or_from_slice_get}
use Rattle.vk_residue.specs.Residue.{IsResidue}
use Rattle.vk_plan.specs.declared.wire.WireKind.{WireKind}
use Rattle.vk_plan.specs.declared.wire.WireKind.TheVariants.{Split}
use Rattle.vk_plan.specs.declared.form.Form.{Form}
use Rattle.vk_plan.specs.Forms.{form_value, NamesBelow}
use Rattle.vk_plan.specs.FormLaws.{form_value_within, form_value-take, NamesBelow-more}
use Rattle.vk_plan.specs.Plans.{PlanValue, NamesOwnWires, IsPlan, Holds, HasWeight, MayHave, plan_of_inputs, extended}

-- each wire may have its value
abbrev pub FitKinds : List WireKind → List ℕ → Type 0
FitKinds kinds values = (w : ℕ) → w < length kinds
    → MayHave (slice_index_or kinds w Split) (slice_index values w)

-- each row is 0
abbrev pub AreZero : List Form → List ℕ → Type 0
AreZero rows values = All (λ row. form_value row values ≡ 0) rows

FitKinds-append : (kinds more : List WireKind) (values back : List ℕ) → length values ≡ length kinds
    → FitKinds kinds values → FitKinds more back
    → FitKinds (kinds ++ more) (values ++ back)
FitKinds-append kinds more values back same fit fit_back w h =
    elim (cases_lt w (length kinds)) [
      | inl q ↦ rw (
        get_or_append_left kinds more Split w q,
        get_or_append_left values back 0 w (omega arith),
      ) (fit w q)
      | inr q ↦ rw (
        get_or-append_right kinds more (length kinds) w Split refl q,
        get_or-append_right values back (length kinds) w 0 same q,
      )
          (fit_back (w - length kinds) (omega (arith, simp length-append at h)))
    ]

-- values of the appended wires after values that hold: they hold for the longer plan where they fit
-- their kinds and the appended rows are 0
pub Holds-extended : (plan : PlanValue) (kinds : List WireKind) (rows : List Form)
    (values more : List ℕ)
    → NamesOwnWires plan → Holds plan values → length more ≡ length kinds → All IsResidue more
    → FitKinds kinds more → AreZero rows (values ++ more)
    → Holds (extended plan kinds rows) (values ++ more)
Holds-extended plan kinds rows values more names holds same residues fit zero = record {
  one_each = simp length-append (cc (holds.one_each, same));
  residues = All-append IsResidue values more holds.residues residues;
  pairs = FitKinds-append plan.kinds kinds values more holds.one_each holds.pairs fit;
  zero_rows =
      All-append (λ row. form_value row (values ++ more) ≡ 0) plan.rows rows
      (λ k d h. form_value_within _ values more (rw holds.one_each (names k d h))
      ∙ holds.zero_rows k d h)
      zero;
}

-- values that hold for the longer plan: the first of them hold for the plan before
pub Holds-before : (plan : PlanValue) (kinds : List WireKind) (rows : List Form) (values : List ℕ)
    → NamesOwnWires plan → Holds (extended plan kinds rows) values
    → Holds plan (take (length plan.kinds) values)
Holds-before plan kinds rows values names holds =
    let n = length plan.kinds in
    let long : n ≤ length values = omega (arith, holds.one_each, length-append plan.kinds kinds) in
    let front : length (take n values) ≡ n = length-take-le n values long in
    record {
      one_each = front;
      residues = All-take IsResidue n values holds.residues;
      pairs = λ w h.
          rw (get_or-take n values w 0 h)
          (rw (get_or_append_left plan.kinds kinds Split w h) at
          (holds.pairs w (omega (arith, length-append plan.kinds kinds))));
      zero_rows = λ k d h.
          let whole = holds.zero_rows k d (omega (arith, length-append plan.rows rows)) in
          form_value-take (get_or plan.rows k d) n values long (names k d h)
          ∙ (rw (get_or_append_left plan.rows rows d k h) at whole);
    }

-- and the values of the appended wires fit their kinds
pub FitKinds-appended : (plan : PlanValue) (kinds : List WireKind) (rows : List Form)
    (values : List ℕ)
    → Holds (extended plan kinds rows) values → FitKinds kinds (drop (length plan.kinds) values)
FitKinds-appended plan kinds rows values holds w h =
    let n = length plan.kinds in
    let here = holds.pairs (n + w) (omega (arith, length-append plan.kinds kinds)) in
    let kind = get_or-append-add plan.kinds kinds w Split in
    rw (get_or-drop n values w 0) (rw kind at here)

-- and the appended rows are 0
pub AreZero-appended : (plan : PlanValue) (kinds : List WireKind) (rows : List Form)
    (values : List ℕ)
    → Holds (extended plan kinds rows) values → AreZero rows values
AreZero-appended plan kinds rows values holds k d h =
    let here = holds.zero_rows (length plan.rows + k) d
    (omega (arith, length-append plan.rows rows)) in
    rw (get_or-append-add plan.rows rows k d) at here

-- a row that names the first wires names wires of the longer plan
pub names-extended : (plan : PlanValue) (kinds : List WireKind) (rows : List Form)
    → NamesOwnWires plan
    → All (λ row. NamesBelow (length plan.kinds + length kinds) row.terms) rows
    → NamesOwnWires (extended plan kinds rows)
names-extended plan kinds rows own names =
    let total = length-append plan.kinds kinds in
    All-append (λ row. NamesBelow (length (plan.kinds ++ kinds)) row.terms) plan.rows rows
    (λ k d h. NamesBelow-more (length plan.kinds) (length (plan.kinds ++ kinds))
    (get_or plan.rows k d).terms (omega arith) (own k d h))
    (rw total names)

-- a plan with wires and rows at its end is one where their weights, names and numbers are those of
-- a plan
pub IsPlan-extended : (plan : PlanValue) (kinds : List WireKind) (rows : List Form) → IsPlan plan
    → All HasWeight kinds → All (λ row. NamesBelow (length plan.kinds + length kinds) row.terms)
    rows
    → length plan.kinds + length kinds ≤ 16777216 → length plan.rows + length rows ≤ 16777216
    → IsPlan (extended plan kinds rows)
IsPlan-extended plan kinds rows is_plan weights names wires few_rows =
    let total = length-append plan.kinds kinds in
    let count = length-append plan.rows rows in
    record {
      inputs_are_split = λ w h.
          let split = is_plan.inputs_are_split w h in
          let inside = slice_get_within plan.kinds w Split split in
          slice_get-get_or (plan.kinds ++ kinds) w Split (omega arith)
          ∙ ap Some (get_or_append_left plan.kinds kinds Split w inside
          ∙ get_or_from_slice_get plan.kinds w Split Split split);
      weights = All-append HasWeight plan.kinds kinds is_plan.weights weights;
      names = names-extended plan kinds rows is_plan.names names;
      wires = omega arith;
      few_rows = omega arith;
    }

-- inputs alone: a plan, and residues hold for it
pub IsPlan-inputs : (inputs : ℕ) → inputs ≤ 65536 → IsPlan (plan_of_inputs inputs)
IsPlan-inputs inputs most =
    let long = length-replicate inputs Split in
    record {
      inputs_are_split = λ w h.
          slice_get-get_or (replicate inputs Split) w Split (omega arith)
          ∙ ap Some (get_or-replicate inputs w Split Split h);
      weights = All-replicate HasWeight inputs Split tt;
      names = All-nil (λ row. NamesBelow (length (replicate inputs Split)) row.terms);
      wires = omega arith;
      few_rows = omega arith;
    }

pub Holds-inputs : (inputs : ℕ) (values : List ℕ) → length values ≡ inputs → All IsResidue values
    → Holds (plan_of_inputs inputs) values
Holds-inputs inputs values same residues =
    let long = length-replicate inputs Split in
    record {
      one_each = same ∙ sym long;
      residues = residues;
      pairs = λ w h. rw (get_or-replicate inputs w Split Split (omega arith)) tt;
      zero_rows = All-nil (λ row. form_value row values ≡ 0);
    }
