use Rattle.std.proofs.Common.{sym, ◌∙◌, arith}
use Rattle.vk_range.specs.SelectedLaws.{first_place_found}
use Rattle.vk_range.proofs.selected.SelectedIs.first_place.Goals as goal

pub returns-then-serves : goal.returns-then-serves
returns-then-serves c =
    first_place_found c.args.self.now c.args.values.now c.loop-place.place (omega arith)
    c.loop-place.invariant (λ _. sym c.serves.ensures ∙ c.if-serves.true)

pub returns : goal.returns
returns c =
    first_place_found c.args.self.now c.args.values.now c.places.result (omega arith)
    (λ k h. c.loop-place.invariant k (omega arith)) (λ h. absurd (omega arith))
