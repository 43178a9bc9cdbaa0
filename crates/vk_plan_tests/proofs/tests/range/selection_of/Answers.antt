use Rattle.std.proofs.Common.{ℕ, ◌<◌, ◌≡◌, List, [], ◌∷◌, length, sym, ap, subst, arith, lit<, lit≤}
use Rattle.std.proofs.lemmas.List.Elements.{All-cons, All-nil}
use Rattle.vk_plan.specs.Plans.{plan_of_inputs}
use Rattle.vk_range.specs.declared.selected.SelectedIs.{SelectedIs}
use Rattle.vk_range.specs.Selected.{IsSelection, first_place}
use Rattle.vk_range.specs.SelectedLaws.{first_place_is_selected}
use Rattle.vk_plan_tests.proofs.tests.range.selection_of.Goals as goal

three : (wires : List ℕ) (value : ℕ) → wires ≡ 0 ∷ 1 ∷ 2 ∷ []
    → IsSelection (record { wires = wires; value = value; width = 4 }) 3
three wires value same =
    let Below : ℕ → Type 0 = λ wire. wire < 3 in
    subst (λ (w : List ℕ). IsSelection (record { wires = w; value = value; width = 4 }) 3)
    (sym same) (record {
      names = All-cons Below 0 (1 ∷ 2 ∷ []) (lit< tt)
          (All-cons Below 1 (2 ∷ []) (lit< tt) (All-cons Below 2 [] (lit< tt) (All-nil Below)));
      one = lit≤ tt;
      most = lit≤ tt;
      wide = record { least = lit≤ tt; most = lit≤ tt };
    })

pub fill-requires-clause-fits : goal.fill-requires-clause-fits
fill-requires-clause-fits c =
    let same : 3 ≡ length c.push-3.new.self.items =
    omega (
      arith,
      c.in_ok-push-3.ensures.len,
      c.in_ok-push-2.ensures.len,
      c.in_ok-push.ensures.len,
      c.new-values.ensures.len,
      c.push-3.new.self.ok.0,
    ) in (
      plan_of_inputs 3,
      (
        three c.in_ok-three_wires.field-0 c.residue_or_zero-4.result
            c.in_ok-three_wires.ensures,
        same,
      ),
    )

pub fill-requires-clause-true_of : goal.fill-requires-clause-true_of
fill-requires-clause-true_of c =
    let relation : SelectedIs =
    record {
      wires = c.in_ok-three_wires.field-0;
      value = c.residue_or_zero-4.result;
      width = 4;
    } in
    let values = c.push-3.new.self.items in
    let found = rw c.as_slice.ensures.value at c.first_place.ensures in
    let long : length c.in_ok-three_wires.field-0 ≡ 3 = ap length c.in_ok-three_wires.ensures in (
      first_place relation values,
      first_place_is_selected relation values (omega (arith, c.if-first_place-ge3.false)),
    )
