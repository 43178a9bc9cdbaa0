use Rattle.std.proofs.Common.{◌≡◌, ℕ, ◌<◌, ◌≤◌, ◌-◌, ◌∙◌, List, arith, sym, ap, subst, slice_index, slice_index_or, length}
use Rattle.std.proofs.lemmas.List.{get_or_default}
use Rattle.vk_plan.specs.Forms.{NamesBelow, no_row}
use Rattle.vk_plan.specs.Tables.{AreFlat, flat_rows, start_from}
use Rattle.vk_plan.specs.declared.flat.Flat.{Flat}
use Rattle.vk_plan.proofs.Tables.{sum_none, sum_more, named_below}
use Rattle.vk_plan.proofs.flat.Flat.sum.Goals as goal

-- the place is one of the row's, and names that wire, which has a value
record IsNamed (flat : Flat) (values : List ℕ) (row at wire : ℕ) : Type 0 where
  before : at < slice_index flat.ends.items row
  inside : at < length flat.wires.items
  wire_is : wire ≡ slice_index flat.wires.items at
  within : wire < length values

named_at : (flat : Flat) (values : List ℕ) (row at end wire : ℕ) → AreFlat flat
    → row < length flat.ends.items
    → NamesBelow (length values) (slice_index_or (flat_rows flat) row no_row).terms
    → end ≡ slice_index_or flat.ends.items row end
    → start_from 0 flat.ends.items row ≤ at → at < end
    → wire ≡ slice_index_or flat.wires.items at wire → IsNamed flat values row at wire
named_at flat values row at end wire are some names ends begun less read =
    let before : at < slice_index flat.ends.items row =
    subst (λ e. at < e) (ends ∙ get_or_default flat.ends.items row end 0 some) less in
    let inside : at < length flat.wires.items = omega (arith, before, are.within row 0 some) in
    let wire_is : wire ≡ slice_index flat.wires.items at =
    read ∙ get_or_default flat.wires.items at wire 0 inside in
    let below = named_below flat.wires.items flat.factors.items flat.ends.items flat.constants.items
    (length values) row at are some names begun before in
    record {
      before = before;
      inside = inside;
      wire_is = wire_is;
      within = subst (λ w. w < length values) (sym wire_is) below;
    }

pub loop-at-init : goal.loop-at-init
loop-at-init c =
    let flat = c.args.self.now in (
      omega (arith, c.start-at.ensures),
      c.new-sum.ensures
          ∙ sym (sum_none (slice_index_or (flat_rows flat) c.args.row no_row).terms
          c.args.values.now
          (c.start-at.result - start_from 0 flat.ends.items c.args.row)
          (omega (arith, c.start-at.ensures))),
    )

pub bounds-values-index : goal.bounds-values-index
bounds-values-index c =
    (named_at c.args.self.now c.args.values.now c.args.row c.loop-at.at _
    c.index-in-loop-at.result.now c.requires.flat c.requires.row
    c.requires.names c.index-at-end.ensures c.loop-at.invariant.0 c.loop-at-test.true
    c.index-in-loop-at.ensures).within

pub loop-at-preserved : goal.loop-at-preserved
loop-at-preserved c =
    let flat = c.args.self.now in
    let values = c.args.values.now in
    let at = c.loop-at.at in
    let named = named_at flat values c.args.row at _ c.index-in-loop-at.result.now c.requires.flat
    c.requires.row
    c.requires.names c.index-at-end.ensures c.loop-at.invariant.0 c.loop-at-test.true
    c.index-in-loop-at.ensures in
    let factor_is = c.index.ensures
    ∙ get_or_default flat.factors.items at c.index.result.now 0
    (omega (arith, named.inside, c.requires.flat.one_factor_each)) in
    let value_is : c.index-values-index.result
    ≡ slice_index values (slice_index flat.wires.items at) =
    c.index-values-index.is ∙ get_or_default values c.index-in-loop-at.result.now
    c.index-values-index.result 0 named.within ∙ ap (slice_index values) named.wire_is in (
      omega (arith, c.loop-at.invariant.0),
      c.take.ensures
          ∙ rw (c.loop-at.invariant.1, factor_is, value_is)
          (sym (sum_more flat.wires.items flat.factors.items flat.ends.items flat.constants.items
          values c.args.row at
          c.requires.flat c.requires.row c.loop-at.invariant.0 named.before)),
    )
