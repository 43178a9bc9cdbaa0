-- What a circuit begins with: its inputs, and behind them a copy of each.
use Rattle.std.specs.Prelude.{ℕ, ◌+◌, ◌<◌, ◌≤◌, ◌≡◌, false, List, [], ◌∷◌, ◌++◌, All, length, replicate, slice_index}
use Rattle.std.proofs.Common.{refl, sym, ap, ◌∙◌, subst, arith, length-append, append_assoc}
use Rattle.std.proofs.lemmas.List.{length-replicate, get_or_append_left, get_or-append-add}
use Rattle.std.proofs.lemmas.List.Elements.{All-nil}
use Rattle.vk_residue.specs.Residue.{IsResidue}
use Rattle.vk_plan.specs.declared.wire.WireKind.{WireKind}
use Rattle.vk_plan.specs.declared.wire.WireKind.TheVariants.{Split}
use Rattle.vk_plan.specs.declared.form.Form.{Form}
use Rattle.vk_plan.specs.Forms.{form_value, NamesBelow}
use Rattle.vk_plan.specs.Plans.{PlanValue, NamesOwnWires, IsPlan, Holds, HasWeight, plan_of_inputs, extended}
use Rattle.vk_plan.specs.PlanLaws.{Holds-extended, Holds-inputs, AreZero-appended, names-extended, IsPlan-inputs, IsPlan-extended}
use Rattle.vk_range.specs.Sets.{listed}
use Rattle.vk_range.specs.Forms.{difference_form}
use Rattle.vk_range.specs.SetLaws.{length_listed, listed_more, at_listed, All-listed}
use Rattle.vk_range.specs.Laws.{difference_value, difference_names, same_from_zero, zero_from_same}
use Rattle.vk_range.specs.Series.{same_plan}

-- each input X_j has a copy Y_j behind all of them
abbrev pub copies_kinds : ℕ → List WireKind
copies_kinds count = listed (λ _. Split) count

abbrev pub copies_rows : ℕ → ℕ → List Form
copies_rows inputs count = listed (λ j. difference_form j (inputs + j) false) count

-- the inputs and the copies of the first so many of them
abbrev pub copies : ℕ → ℕ → PlanValue
copies inputs count = extended (plan_of_inputs inputs) (copies_kinds count)
    (copies_rows inputs count)

pub length_copies : (inputs count : ℕ) → length (copies inputs count).kinds ≡ inputs + count
length_copies inputs count =
    length-append (replicate inputs Split) (copies_kinds count)
    ∙ omega (arith, length-replicate inputs Split, length_listed (λ _. Split) count)

-- each row names an input and its copy
row_names : (inputs count : ℕ) → count ≤ inputs
    → All (λ row. NamesBelow (length (replicate inputs Split) + length (copies_kinds count))
    row.terms) (copies_rows inputs count)
row_names inputs count few =
    let wires = length (replicate inputs Split) + length (copies_kinds count) in
    All-listed (λ row. NamesBelow wires row.terms) (λ j. difference_form j (inputs + j) false) count
    (λ j h. difference_names wires j (inputs + j) false
    (omega (arith, length-replicate inputs Split))
    (omega (arith, length-replicate inputs Split, length_listed (λ _. Split) count)))

pub copies_names : (inputs count : ℕ) → count ≤ inputs → NamesOwnWires (copies inputs count)
copies_names inputs count few =
    names-extended (plan_of_inputs inputs) (copies_kinds count) (copies_rows inputs count)
    (All-nil (λ row. NamesBelow (length (replicate inputs Split)) row.terms))
    (row_names inputs count few)

pub IsPlan-copies : (inputs count : ℕ) → inputs ≤ 65536 → count ≤ inputs
    → IsPlan (copies inputs count)
IsPlan-copies inputs count most few =
    IsPlan-extended (plan_of_inputs inputs) (copies_kinds count) (copies_rows inputs count)
    (IsPlan-inputs inputs most)
    (All-listed HasWeight (λ _. Split) count (λ j h. tt)) (row_names inputs count few)
    (omega (arith, length-replicate inputs Split, length_listed (λ _. Split) count))
    (omega (arith, length_listed (λ j. difference_form j (inputs + j) false) count))

pub copies_more : (inputs count : ℕ)
    → copies inputs (count + 1)
    ≡ extended (copies inputs count) (Split ∷ [])
    (difference_form count (length (copies inputs count).kinds) false ∷ [])
copies_more inputs count =
    let row : ℕ → Form = λ j. difference_form j (inputs + j) false in
    let at = ap (λ n. difference_form count n false) (length_copies inputs count) in
    let kinds : replicate inputs Split ++ copies_kinds (count + 1)
    ≡ replicate inputs Split ++ copies_kinds count ++ Split ∷ [] =
    ap (λ more. replicate inputs Split ++ more) (listed_more (λ _. Split) count)
    ∙ sym (append_assoc (replicate inputs Split) (copies_kinds count) (Split ∷ [])) in
    same_plan inputs (replicate inputs Split ++ copies_kinds (count + 1))
    (replicate inputs Split ++ copies_kinds count ++ Split ∷ [])
    (copies_rows inputs (count + 1))
    (copies_rows inputs count
    ++ difference_form count (length (copies inputs count).kinds) false ∷ [])
    kinds (listed_more row count ∙ ap (λ r. copies_rows inputs count ++ r ∷ []) (sym at))

-- what the code meets: room for the next copy, and the plan with it
pub copies_room : (inputs count : ℕ) (now : PlanValue) → inputs ≤ 65536 → now ≡ copies inputs count
    → count < inputs
    → IsPlan (extended now (Split ∷ []) (difference_form count (length now.kinds) false ∷ []))
copies_room inputs count now most same h =
    subst (λ p. IsPlan (extended p (Split ∷ [])
    (difference_form count (length p.kinds) false ∷ []))) (sym same)
    (subst IsPlan (copies_more inputs count) (IsPlan-copies inputs (count + 1) most (omega arith)))

pub copies_added : (inputs count : ℕ) (now next : PlanValue) → now ≡ copies inputs count
    → next ≡ extended now (Split ∷ []) (difference_form count (length now.kinds) false ∷ [])
    → next ≡ copies inputs (count + 1)
copies_added inputs count now next same added =
    added ∙ ap (λ p. extended p (Split ∷ []) (difference_form count (length p.kinds) false ∷ []))
    same ∙ sym (copies_more inputs count)

-- where values hold, each copy is its input
pub copied_sound : (inputs j : ℕ) (values : List ℕ) → j < inputs
    → Holds (copies inputs inputs) values
    → slice_index values j ≡ slice_index values (inputs + j)
copied_sound inputs j values h holds =
    let row = AreZero-appended (plan_of_inputs inputs) (copies_kinds inputs)
    (copies_rows inputs inputs) values holds in
    let form = difference_form j (inputs + j) false in
    let long = length_listed (λ i. difference_form i (inputs + i) false) inputs in
    let nothing =
    subst (λ f. form_value f values ≡ 0)
    (at_listed (λ i. difference_form i (inputs + i) false) inputs j form h)
    (row j form (omega arith)) in
    let enough : length values ≡ inputs + inputs = holds.one_each ∙ length_copies inputs inputs in
    same_from_zero (slice_index values j) (slice_index values (inputs + j))
    (holds.residues j 0 (omega arith))
    (holds.residues (inputs + j) 0 (omega arith))
    (sym (difference_value j (inputs + j) false values) ∙ nothing)

-- the inputs twice hold
pub copies_complete : (inputs : List ℕ) → All IsResidue inputs
    → Holds (copies (length inputs) (length inputs)) (inputs ++ inputs)
copies_complete inputs residues =
    let n = length inputs in
    Holds-extended (plan_of_inputs n) (copies_kinds n) (copies_rows n n) inputs inputs
    (All-nil (λ row. NamesBelow (length (replicate n Split)) row.terms))
    (Holds-inputs n inputs refl residues) (sym (length_listed (λ _. Split) n)) residues
    (λ j h. let inside : j < n = omega (arith, length_listed (λ _. Split) n) in
    rw (at_listed (λ _. Split) n j Split inside) tt)
    (All-listed (λ row. form_value row (inputs ++ inputs) ≡ 0)
    (λ j. difference_form j (n + j) false) n
    (λ j h. difference_value j (n + j) false (inputs ++ inputs)
    ∙ zero_from_same (slice_index (inputs ++ inputs) j) (slice_index (inputs ++ inputs) (n + j))
    (get_or_append_left inputs inputs 0 j h ∙ sym (get_or-append-add inputs inputs j 0))))

-- values that have the copies of the inputs, behind as many wires as there are inputs
pub record BeginsWith (inputs values : List ℕ) : Type 0 where
  pub enough : length inputs + length inputs ≤ length values
  pub copied : (j : ℕ) → j < length inputs
      → slice_index values (length inputs + j) ≡ slice_index inputs j

pub begins_alone : (inputs : List ℕ) → BeginsWith inputs (inputs ++ inputs)
begins_alone inputs = record {
  enough = omega (arith, length-append inputs inputs);
  copied = λ j h. get_or-append-add inputs inputs j 0;
}

pub begins_longer : (inputs values more : List ℕ) → BeginsWith inputs values
    → BeginsWith inputs (values ++ more)
begins_longer inputs values more begins = record {
  enough = omega (arith, begins.enough, length-append values more);
  copied = λ j h. get_or_append_left values more 0 (length inputs + j)
      (omega (arith, begins.enough)) ∙ begins.copied j h;
}
