use Rattle.std.proofs.Common.{ℕ, ◌≡◌, [], ◌∷◌, false, length, sym, ap, subst, arith, lit<, lit≤}
use Rattle.std.proofs.lemmas.List.Elements.{All-cons, All-nil}
use Rattle.vk_plan.specs.declared.form.Form.{Form}
use Rattle.vk_plan.specs.Forms.{NamesBelow}
use Rattle.vk_plan.specs.Plans.{IsPlan}
use Rattle.vk_plan.specs.PlanLaws.{IsPlan-inputs}
use Rattle.vk_range.specs.declared.ranges.Ranges.{Ranges}
use Rattle.vk_range.specs.Sets.{plus}
use Rattle.vk_range.specs.Forms.{difference_form}
use Rattle.vk_range.specs.Laws.{one_name, difference_names}
use Rattle.vk_range.specs.Ranges.{AreRanges}
use Rattle.vk_range.specs.Rooms.{ranges_room}
use Rattle.vk_plan_tests.proofs.tests.range.ranged_inputs.Goals as goal

abbrev wire : ℕ → Form
wire w = record { terms = plus w ∷ []; constant = 0 }

abbrev three : Ranges
three = record { forms = wire 0 ∷ wire 1 ∷ difference_form 2 3 false ∷ []; width = 3 }

fits : (relation : Ranges) (wires : ℕ) → relation ≡ three → wires ≡ 5 → AreRanges relation wires
fits relation wires same five =
    let Named : Form → Type 0 = λ form. NamesBelow 5 form.terms in
    let last = difference_form 2 3 false in
    subst (λ r. AreRanges r wires) (sym same) (subst (λ n. AreRanges three n) (sym five) (record {
      names = All-cons Named (wire 0) (wire 1 ∷ last ∷ []) (one_name 5 (plus 0) (lit< tt))
          (All-cons Named (wire 1) (last ∷ []) (one_name 5 (plus 1) (lit< tt))
          (All-cons Named last [] (difference_names 5 2 3 false (lit< tt) (lit< tt))
          (All-nil Named)));
      wide = record { least = lit≤ tt; most = lit≤ tt };
    }))

pub add_and_fill-requires-clause-room : goal.add_and_fill-requires-clause-room
add_and_fill-requires-clause-room c =
    let relation = c.in_ok-ranges.ranges in
    let kinds : length c.in_ok-plan.plan.kinds ≡ 5 =
    ap (λ plan. length plan.kinds) c.in_ok-plan.ensures in
    let rows : length c.in_ok-plan.plan.rows ≡ 0 =
    ap (λ plan. length plan.rows) c.in_ok-plan.ensures in
    let long : length relation.forms ≡ 3 = ap (λ r. length r.forms) c.in_ok-ranges.ensures in
    let wide : relation.width ≡ 3 = ap (λ r. r.width) c.in_ok-ranges.ensures in
    ranges_room c.in_ok-plan.plan relation
    (subst IsPlan (sym c.in_ok-plan.ensures) (IsPlan-inputs 5 (lit≤ tt)))
    (fits relation (length c.in_ok-plan.plan.kinds) c.in_ok-ranges.ensures kinds)
    (rw (long, wide) (omega arith)) (omega arith)
