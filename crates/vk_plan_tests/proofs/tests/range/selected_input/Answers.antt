use Rattle.std.proofs.Common.{ℕ, ◌<◌, ◌≡◌, List, [], ◌∷◌, length, sym, ap, subst, arith, lit<, lit≤}
use Rattle.std.proofs.lemmas.List.Elements.{All-cons, All-nil}
use Rattle.vk_plan.specs.Plans.{IsPlan}
use Rattle.vk_plan.specs.PlanLaws.{IsPlan-inputs}
use Rattle.vk_range.specs.declared.selected.SelectedIs.{SelectedIs}
use Rattle.vk_range.specs.Selected.{IsSelection, first_place}
use Rattle.vk_range.specs.SelectedLaws.{first_place_is_selected}
use Rattle.vk_range.specs.Rooms.{selected_room}
use Rattle.vk_plan_tests.proofs.tests.range.selected_input.Goals as goal

five : (wires : List ℕ) (value : ℕ) → wires ≡ 0 ∷ 1 ∷ 2 ∷ 3 ∷ 4 ∷ []
    → IsSelection (record { wires = wires; value = value; width = 8 }) 5
five wires value same =
    let Below : ℕ → Type 0 = λ wire. wire < 5 in
    subst (λ (w : List ℕ). IsSelection (record { wires = w; value = value; width = 8 }) 5)
    (sym same) (record {
      names = All-cons Below 0 (1 ∷ 2 ∷ 3 ∷ 4 ∷ []) (lit< tt)
          (All-cons Below 1 (2 ∷ 3 ∷ 4 ∷ []) (lit< tt)
          (All-cons Below 2 (3 ∷ 4 ∷ []) (lit< tt)
          (All-cons Below 3 (4 ∷ []) (lit< tt)
          (All-cons Below 4 [] (lit< tt) (All-nil Below)))));
      one = lit≤ tt;
      most = lit≤ tt;
      wide = record { least = lit≤ tt; most = lit≤ tt };
    })

pub add_and_fill-requires-clause-room : goal.add_and_fill-requires-clause-room
add_and_fill-requires-clause-room c =
    let relation : SelectedIs =
    record { wires = c.in_ok-five_wires.field-0; value = c.residue_or_zero.result; width = 8 }
    in
    let kinds : length c.in_ok-plan.plan.kinds ≡ 5 =
    ap (λ plan. length plan.kinds) c.in_ok-plan.ensures in
    let rows : length c.in_ok-plan.plan.rows ≡ 0 =
    ap (λ plan. length plan.rows) c.in_ok-plan.ensures in
    let long : length relation.wires ≡ 5 = ap length c.in_ok-five_wires.ensures in
    selected_room c.in_ok-plan.plan relation
    (subst IsPlan (sym c.in_ok-plan.ensures) (IsPlan-inputs 5 (lit≤ tt)))
    (subst (IsSelection relation) (sym kinds)
    (five c.in_ok-five_wires.field-0 c.residue_or_zero.result c.in_ok-five_wires.ensures))
    (omega arith) (omega arith)

pub add_and_fill-requires-clause-true_of : goal.add_and_fill-requires-clause-true_of
add_and_fill-requires-clause-true_of c =
    let relation : SelectedIs =
    record { wires = c.in_ok-five_wires.field-0; value = c.residue_or_zero.result; width = 8 }
    in
    let values = c.in_ok-values.values.items in
    let found = rw c.as_slice.ensures.value at c.first_place.ensures in
    let long : length c.in_ok-five_wires.field-0 ≡ 5 = ap length c.in_ok-five_wires.ensures in (
      first_place relation values,
      first_place_is_selected relation values (omega (arith, c.if-first_place-ge5.false)),
    )
