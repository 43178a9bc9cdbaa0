-- Relations of one size, one after another: the k-th begins behind k times as many wires as each
-- has.
use Rattle.std.specs.Prelude.{ℕ, ◌+◌, ◌*◌, ◌<◌, ◌≤◌, ◌≡◌, List, [], ◌++◌, All, length, take}
use Rattle.std.proofs.Common.{refl, sym, ap, ◌∙◌, subst, arith, inl, inr, zero, suc, add-one, length-append, append_assoc, mul-le-mul_right, suc-mul}
use Rattle.std.proofs.lemmas.List.{append-nil, take_all, take-take}
use Rattle.std.proofs.lemmas.Bool.{cases_lt}
use Rattle.vk_plan.specs.declared.wire.WireKind.{WireKind}
use Rattle.vk_plan.specs.declared.form.Form.{Form}
use Rattle.vk_plan.specs.Forms.{NamesBelow}
use Rattle.vk_plan.specs.FormLaws.{NamesBelow-more}
use Rattle.vk_plan.specs.Plans.{PlanValue, NamesOwnWires, IsPlan, Holds, HasWeight, extended}
use Rattle.vk_plan.specs.PlanLaws.{Holds-before, names-extended, IsPlan-extended}
use Rattle.vk_range.specs.Sets.{joined}
use Rattle.vk_range.specs.SetLaws.{joined_more, length_joined, All-joined}
use Rattle.vk_range.specs.Series.{same_plan}

-- the wires of so many
abbrev pub blocks_wires : List WireKind → ℕ → List WireKind
blocks_wires kinds count = joined (λ _. kinds) count

-- the rows of so many, where the first begins at a wire and the k-th has these rows at a wire
abbrev pub blocks_rows : List WireKind → (ℕ → ℕ → List Form) → ℕ → ℕ → List Form
blocks_rows kinds rows start count = joined (λ k. rows k (start + k * length kinds)) count

-- the plan with so many of them at its end
abbrev pub blocks : List WireKind → (ℕ → ℕ → List Form) → PlanValue → ℕ → PlanValue
blocks kinds rows plan count =
    extended plan (blocks_wires kinds count) (blocks_rows kinds rows (length plan.kinds) count)

-- each of so many has as many rows, which name the first wires and its own
pub record AreBlocks (kinds : List WireKind) (rows : ℕ → ℕ → List Form)
    (base each count : ℕ) : Type 0 where
  pub weights : All HasWeight kinds
  pub row_count : (k start : ℕ) → length (rows k start) ≡ each
  pub names : (k start : ℕ) → k < count → base ≤ start
      → All (λ row. NamesBelow (start + length kinds) row.terms) (rows k start)

AreBlocks-fewer : (kinds : List WireKind) (rows : ℕ → ℕ → List Form) (base each few many : ℕ)
    → few ≤ many
    → AreBlocks kinds rows base each many → AreBlocks kinds rows base each few
AreBlocks-fewer kinds rows base each few many le are =
    record {
      weights = are.weights;
      row_count = are.row_count;
      names = λ k start h. are.names k start (omega arith);
    }

module _ (kinds : List WireKind) (rows : ℕ → ℕ → List Form) (plan : PlanValue) where
  pub blocks_none : blocks kinds rows plan 0 ≡ plan
  blocks_none = same_plan plan.inputs (plan.kinds ++ []) plan.kinds (plan.rows ++ []) plan.rows
      (append-nil plan.kinds) (append-nil plan.rows)

  pub length_blocks : (count : ℕ)
      → length (blocks kinds rows plan count).kinds ≡ length plan.kinds + count * length kinds
  length_blocks count =
      length-append plan.kinds (blocks_wires kinds count)
      ∙ omega (arith, length_joined (λ _. kinds) (length kinds) count (λ _. refl))

  pub blocks_more : (count : ℕ) → blocks kinds rows plan (count + 1)
      ≡ extended (blocks kinds rows plan count) kinds
      (rows count (length (blocks kinds rows plan count).kinds))
  blocks_more count =
      let start = length plan.kinds in
      let before = blocks_rows kinds rows start count in
      let here = ap (rows count) (length_blocks count) in
      same_plan plan.inputs (plan.kinds ++ blocks_wires kinds (count + 1))
      (plan.kinds ++ blocks_wires kinds count ++ kinds)
      (plan.rows ++ blocks_rows kinds rows start (count + 1))
      (plan.rows ++ before ++ rows count (length (blocks kinds rows plan count).kinds))
      (ap (λ more. plan.kinds ++ more) (joined_more (λ _. kinds) count)
      ∙ sym (append_assoc plan.kinds (blocks_wires kinds count) kinds))
      (ap (λ more. plan.rows ++ more) (joined_more (λ k. rows k (start + k * length kinds)) count)
      ∙ sym (append_assoc plan.rows before (rows count (start + count * length kinds)))
      ∙ ap (λ more. plan.rows ++ before ++ more) (sym here))

  -- what the code meets: room for the next, and the plan with it
  pub block_room : (now : PlanValue) (count : ℕ) → now ≡ blocks kinds rows plan count
      → IsPlan (blocks kinds rows plan (count + 1))
      → IsPlan (extended now kinds (rows count (length now.kinds)))
  block_room now count same is_plan =
      subst (λ p. IsPlan (extended p kinds (rows count (length p.kinds)))) (sym same)
      (subst IsPlan (blocks_more count) is_plan)

  pub block_added : (now next : PlanValue) (count : ℕ) → now ≡ blocks kinds rows plan count
      → next ≡ extended now kinds (rows count (length now.kinds))
      → next ≡ blocks kinds rows plan (count + 1)
  block_added now next count same added =
      added ∙ ap (λ p. extended p kinds (rows count (length p.kinds))) same
      ∙ sym (blocks_more count)

  module _ (each count : ℕ) (are : AreBlocks kinds rows (length plan.kinds) each count) where
    -- the rows name wires of the plan with them
    rows_names : All (λ row. NamesBelow (length plan.kinds + length (blocks_wires kinds count))
        row.terms)
        (blocks_rows kinds rows (length plan.kinds) count)
    rows_names =
        let start = length plan.kinds in
        let size = length kinds in
        let total = start + length (blocks_wires kinds count) in
        let Named : ℕ → Form → Type 0 = λ wires row. NamesBelow wires row.terms in
        All-joined (Named total) (λ k. rows k (start + k * size)) count
        (λ k h i d inside.
        let steps : suc k * size ≤ count * size = mul-le-mul_right size h in
        NamesBelow-more (start + k * size + size) total _
        (omega (arith, length_joined (λ _. kinds) size count (λ _. refl), suc-mul k size))
        (are.names k (start + k * size) h (omega arith) i d inside))

    names_blocks : NamesOwnWires plan → NamesOwnWires (blocks kinds rows plan count)
    names_blocks own =
        names-extended plan (blocks_wires kinds count)
        (blocks_rows kinds rows (length plan.kinds) count) own rows_names

    pub length_rows : length (blocks kinds rows plan count).rows ≡ length plan.rows + count * each
    length_rows =
        length-append plan.rows (blocks_rows kinds rows (length plan.kinds) count)
        ∙ omega (
          arith,
          length_joined (λ k. rows k (length plan.kinds + k * length kinds)) each count
              (λ k. are.row_count k (length plan.kinds + k * length kinds)),
        )

    -- such a plan is one, where there is room
    pub blocks_room : IsPlan plan → length plan.kinds + count * length kinds ≤ 16777216
        → length plan.rows + count * each ≤ 16777216 → IsPlan (blocks kinds rows plan count)
    blocks_room is_plan wires few =
        IsPlan-extended plan (blocks_wires kinds count)
        (blocks_rows kinds rows (length plan.kinds) count) is_plan
        (All-joined HasWeight (λ _. kinds) count (λ k h. are.weights)) rows_names
        (omega (arith, length_joined (λ _. kinds) (length kinds) count (λ _. refl)))
        (omega (
          arith,
          length_rows,
          length-append plan.rows (blocks_rows kinds rows (length plan.kinds) count),
        ))

  -- what is shown by each is true where all hold
  module _ (true_of : ℕ → List ℕ → Type 0) where
    pub blocks_sound : (each count : ℕ) (values : List ℕ) → NamesOwnWires plan
        → AreBlocks kinds rows (length plan.kinds) each count
        → ((k : ℕ) (before : PlanValue) (all : List ℕ) → k < count
        → length plan.kinds ≤ length before.kinds → NamesOwnWires before
        → Holds (extended before kinds (rows k (length before.kinds))) all
        → true_of k (take (length plan.kinds) all))
        → Holds (blocks kinds rows plan count) values
        → Holds plan (take (length plan.kinds) values)
        × ((k : ℕ) → k < count → true_of k (take (length plan.kinds) values))
    blocks_sound each zero values own are shows holds =
        let holds' = subst (λ p. Holds p values) blocks_none holds in (
          subst (Holds plan) (sym
              (take_all (length plan.kinds) values (omega (arith, holds'.one_each)))) holds',
          λ k h. absurd (omega arith),
        )
    blocks_sound each (suc count) values own are shows holds =
        let start = length plan.kinds in
        let before = blocks kinds rows plan count in
        let wires = length before.kinds in
        let long = length_blocks count in
        let fewer = AreBlocks-fewer kinds rows start each count (suc count) (omega arith) are in
        let names = names_blocks each count fewer own in
        let holds' = subst (λ p. Holds p values)
        (ap (blocks kinds rows plan) (sym (add-one count)) ∙ blocks_more count) holds in
        let earlier =
        blocks_sound each count (take wires values) own fewer
        (λ k p all h. shows k p all (omega arith))
        (Holds-before before kinds (rows count wires) values names holds') in
        let front = take-take start wires values (omega arith) in
        let here = shows count before values (omega arith) (omega arith) names holds' in (
          subst (Holds plan) front earlier.0,
          λ k h. elim (cases_lt k count) [
            | inl q ↦ subst (true_of k) front (earlier.1 k q)
            | inr q ↦ (let last : k ≡ count = omega arith in
                subst (λ n. true_of n (take start values)) (sym last) here)
          ],
        )

  -- and the values of each make all hold
  module _ (values : List ℕ) (own_values : ℕ → List ℕ) where
    pub blocks_complete : (each count : ℕ) → NamesOwnWires plan
        → AreBlocks kinds rows (length plan.kinds) each count
        → ((k : ℕ) (before : PlanValue) (more : List ℕ) → k < count
        → length plan.kinds ≤ length before.kinds → NamesOwnWires before
        → Holds before (values ++ more)
        → Holds (extended before kinds (rows k (length before.kinds)))
        (values ++ more ++ own_values k))
        → Holds plan values → Holds (blocks kinds rows plan count)
        (values ++ joined own_values count)
    blocks_complete each zero own are fills holds =
        subst (λ p. Holds p (values ++ [])) (sym blocks_none)
        (subst (Holds plan) (sym (append-nil values)) holds)
    blocks_complete each (suc count) own are fills holds =
        let before = blocks kinds rows plan count in
        let parts = joined own_values count in
        let fewer = AreBlocks-fewer kinds rows (length plan.kinds) each count (suc count)
        (omega arith) are in
        let earlier = blocks_complete each count own fewer
        (λ k p more h. fills k p more (omega arith)) holds in
        let longer =
        fills count before parts (omega arith) (omega (arith, length_blocks count))
        (names_blocks each count fewer own) earlier in
        subst (λ p. Holds p (values ++ (parts ++ own_values count)))
        (sym (blocks_more count) ∙ ap (blocks kinds rows plan) (add-one count))
        (subst (Holds (extended before kinds (rows count (length before.kinds))))
        (append_assoc values parts (own_values count)) longer)

-- one more behind the values so far
pub block_pushed : (values : List ℕ) (own_values : ℕ → List ℕ) (now next more : List ℕ) (count : ℕ)
    → now ≡ values ++ joined own_values count → next ≡ now ++ more
    → more ≡ own_values count → next ≡ values ++ joined own_values (count + 1)
block_pushed values own_values now next more count same pushed is =
    pushed ∙ cc (
      same,
      is,
      append_assoc values (joined own_values count) (own_values count),
      joined_more own_values count,
    )
