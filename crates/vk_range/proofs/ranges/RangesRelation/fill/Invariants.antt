use Rattle.std.proofs.Common.{◌≡◌, ◌++◌}
use Rattle.vk_range.specs.Series.{series_values}
use Rattle.vk_range.specs.Ranges.{form_at}
use Rattle.vk_range.proofs.ranges.RangesRelation.fill.Given as goal

abbrev pub invariant-loop-form : goal.invariant-loop-form
invariant-loop-form l =
    l.values.items ≡ l.fn.values.items
    ++ series_values l.fn.values.items (form_at l.self.forms) l.self.width l.form-index
