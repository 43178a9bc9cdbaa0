use Rattle.std.proofs.Common.{◌≡◌, ◌+◌}
use Rattle.vk_range.specs.Sets.{listed, plus}
use Rattle.vk_range.proofs.selected.selector_form.Given as goal

abbrev pub invariant-loop-place : goal.invariant-loop-place
invariant-loop-place l = l.terms.items ≡ listed (λ place. plus (l.start + place)) l.place
