-- How many seats, commitments and posted numbers there are of a lane.
use Rattle.std.proofs.Common.{◌≡◌, ℕ, zero, suc, ◌-◌, ◌<◌, ◌≤◌, All, List, [], ◌∷◌, ◌++◌, length, Bool, refl, arith, length-append, ◌∙◌, sym, subst}
use Rattle.std.proofs.lemmas.List.{length-map}
use Rattle.std.proofs.lemmas.List.Elements.{All-nil, All-cons}
use Rattle.std.proofs.lemmas.Option.{slice_get_within}
use Rattle.vk_lines.specs.Forms.{EachAfter}
use Rattle.vk_plan.specs.declared.wire.WireKind.TheVariants.{Split}
use Rattle.vk_plan.specs.Plans.{PlanValue, IsPlan}
use Rattle.vk_wire.specs.declared.wire.Shown.{Shown}
use Rattle.vk_row.specs.declared.case.LaneCase.{LaneCase}
use Rattle.vk_row.specs.Lanes.{HasCounts}
use Rattle.vk_board.specs.declared.board.SealLines.{SealLines}
use Rattle.vk_board.specs.declared.board.LaneLines.{LaneLines}
use Rattle.vk_board.specs.Values.{IsSealAfter, IsLaneLines}
use Rattle.vk_reply.specs.Values.{AreShown}
use Rattle.vk_judge.specs.Statement.{StatementValue, IsStatement}
use Rattle.vk_judge.specs.Behind.{case_of, later_wires, input_coms}
use Rattle.vk_judge.specs.Parts.{Fits}

each_has : (lanes index : ℕ) (before seals : List SealLines) → index < lanes
    → EachAfter (IsSealAfter lanes) before seals → All (λ seal. index < length seal.coms) seals
each_has lanes index before [] within each = All-nil (λ seal. index < length seal.coms)
each_has lanes index before (seal ∷ seals) within each =
    All-cons (λ seal. index < length seal.coms) seal seals
    (omega (arith, within, each.0.right.count))
    (each_has lanes index (before ++ seal ∷ []) seals within each.1)

-- each seal has a lane of that number
pub seals_have : (s : StatementValue) (index : ℕ) → IsStatement s → index < s.lanes
    → All (λ seal. index < length seal.coms) s.seals
seals_have s index is within = each_has s.lanes index [] s.seals within is.seals

inputs_within : (plan : PlanValue) (inputs : ℕ) → IsPlan plan → plan.inputs ≡ inputs
    → inputs ≤ length plan.kinds
inputs_within plan zero is same = omega arith
inputs_within plan (suc inputs) is same = slice_get_within plan.kinds inputs Split
    (is.inputs_are_split inputs (omega (arith, same)))

-- a case that was read has the counts that its check asks for
pub fits : (s : StatementValue) (number : ℕ) (lines : LaneLines) (case : LaneCase)
    → IsStatement s → IsLaneLines (later_wires s.plan) (length s.plan.rows) lines
    → case ≡ case_of s number lines
    → Fits s.plan case
fits s number lines case is right case_is =
    let within : s.plan.inputs ≤ length s.plan.kinds =
    inputs_within s.plan s.plan.inputs is.plan refl in
    let seal_coms : length (input_coms (number - 1) s.seals) ≡ length s.seals = length-map s.seals _
    in
    λ shown one_each. subst (λ (k : LaneCase). HasCounts s.plan k shown) (sym case_is) (record {
      seats = length-map s.seals (λ seal. seal.seat) ∙ sym is.inputs;
      coms = omega (
        arith,
        length-append (input_coms (number - 1) s.seals) lines.coms,
        seal_coms,
        is.inputs,
        within,
        right.wire_count,
      );
      posted = right.row_count;
      one_shown = one_each;
    })

-- a lane that was read has the counts that its check asks for
pub has_counts : (s : StatementValue) (number : ℕ) (bit : Bool) (lines : LaneLines)
    (shown : List Shown)
    → IsStatement s → IsLaneLines (later_wires s.plan) (length s.plan.rows) lines
    → AreShown s.plan.kinds bit shown
    → HasCounts s.plan (case_of s number lines) shown
has_counts s number bit lines shown is right are =
    fits s number lines (case_of s number lines) is right refl shown are.one_each
