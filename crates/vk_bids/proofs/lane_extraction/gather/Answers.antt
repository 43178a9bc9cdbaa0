use Rattle.std.proofs.Common.{◌≡◌, ◌∙◌, arith, All, IfOk, IfSome, Option, subst, sym}
use Rattle.vk_judge.specs.declared.stage.TwoLane.{TwoLane}
use Rattle.vk_judge.specs.Opened.{CheckedGoesOn, FileBase, IsNextOfFile, checked_base, checked_given, coming_of}
use Rattle.vk_bids.specs.Gathering.{added}
use Rattle.vk_bids.specs.Opening.{LaneOpens}
use Rattle.vk_bids.proofs.Leading.{both_held, both_told, leads_last, leads_on}
use Rattle.vk_bids.proofs.lane_extraction.gather.Goals as goal

pub returns-in-None-clause-modelled : goal.returns-in-None-clause-modelled
returns-in-None-clause-modelled g c =
    let old = c.lanes.checker in
    let new = c.in_ok-next.next in
    both_held (g.S.Shelf.held c.args.shelf.now) (g.S.Shelf.held c.lanes.shelf)
    c.lanes.invariant.held
    (λ files leads goes. let P : Option TwoLane
    → Type 0 = λ lane. CheckedGoesOn old lane new files in
    leads_last (checked_base c.args.checker) (coming_of c.args.checker files).ahead
    (coming_of old files).ahead (checked_given old) new files c.lanes.gathered leads
    (subst P c.in-None.is goes))
    c.lanes.invariant.modelled c.in_ok-next.ensures.next.modelled

pub with_lane-requires : goal.with_lane-requires
with_lane-requires g c =
    let L : Option TwoLane → Type 0 =
    λ lane. IfSome lane (IsNextOfFile c.lanes.checker c.in_ok-next.next) in
    let next = subst L c.in-Some.is c.in_ok-next.ensures.next.step.next in
    record {
      known = next.known;
      is = next.is;
      some = omega (arith, next.count);
      within = next.within;
      checked = next.checked;
    }

pub lanes-preserved : goal.lanes-preserved
lanes-preserved g c =
    let old = c.lanes.checker in
    let new = c.in_ok-next.next in
    let lane = c.in-Some.lane in
    let step = c.in_ok-next.ensures.next.step in
    let same : checked_base new ≡ checked_base c.args.checker = step.base
    ∙ c.lanes.invariant.base in
    let L : Option TwoLane → Type 0 = λ lane. IfSome lane (IsNextOfFile old new) in
    let next : IsNextOfFile old new lane = subst L c.in-Some.is step.next in
    let A : Option (FileBase g.row.H.Denot) → Type 0 =
    λ base. IfSome base (λ known. added known.base.statement (checked_given new) lane
    c.lanes.gathered ≡ c.in_ok-gathered-in-Some.gathered) in
    let O : Option (FileBase g.row.H.Denot) → Type 0 =
    λ base. IfSome base (λ known. IfOk c.lanes.gathered (All (LaneOpens known.base.statement))) in
    let adds = subst A same c.in_ok-gathered-in-Some.ensures.added in
    record {
      opens = both_told {R = λ known. IfOk c.in_ok-gathered-in-Some.gathered
          (All (LaneOpens known.base.statement))} (checked_base new)
          (λ known before after. after before)
          (subst O (sym step.base) c.lanes.invariant.opens)
          c.in_ok-gathered-in-Some.ensures.opens;
      modelled = both_held (g.S.Shelf.held c.args.shelf.now) (g.S.Shelf.held c.lanes.shelf)
          c.lanes.invariant.held
          (λ files leads goes. let P : Option TwoLane
          → Type 0 = λ lane. CheckedGoesOn old lane new files in
          leads_on (checked_base c.args.checker) (coming_of c.args.checker files).ahead
          (coming_of old files).ahead (checked_given old) (checked_given new) lane new files
          c.lanes.gathered c.in_ok-gathered-in-Some.gathered next.count adds leads
          (subst P c.in-Some.is goes))
          c.lanes.invariant.modelled c.in_ok-next.ensures.next.modelled;
      base = same;
      held = c.in_ok-next.ensures.next.shelf.held ∙ c.lanes.invariant.held;
      kept = c.in_ok-next.ensures.next.shelf.causes ∙ c.lanes.invariant.kept;
    }
