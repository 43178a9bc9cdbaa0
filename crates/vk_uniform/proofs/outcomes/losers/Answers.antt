use Rattle.std.proofs.Common.{◌+◌, ◌∷◌, ◌++◌, [], not, if◌then◌else◌, sym, ap, ◌∙◌}
use Rattle.std.proofs.lemmas.List.{append-nil}
use Rattle.vk_uniform.specs.Losers.{losers, losers_more}
use Rattle.vk_uniform.proofs.outcomes.losers.Goals as goal
use Rattle.vk_uniform.proofs.outcomes.losers.Goals.{then-not-contains+in_ok-push, else-not-contains}

pub loop-place-preserved : goal.loop-place-preserved
loop-place-preserved c =
    let winners = c.args.winners.now in
    let place = c.loop-place.place in
    let before = losers place winners in
    let more = losers_more place winners in
    elim c.if-not-contains.branch [
      | then-not-contains+in_ok-push w ↦
          ap (λ v. v.items) w.all-is ∙ w.in_ok-push.ensures.items
          ∙ ap (λ front. front ++ (place + 1) ∷ []) c.loop-place.invariant
          ∙ sym (more ∙ ap (λ b. before ++ (if not b then (place + 1) ∷ [] else []))
          (sym c.contains.ensures.value ∙ w.if-not-contains.true))
      | else-not-contains w ↦
          ap (λ v. v.items) w.all-is ∙ c.loop-place.invariant ∙ sym (append-nil before)
          ∙ sym (more ∙ ap (λ b. before ++ (if not b then (place + 1) ∷ [] else []))
          (sym c.contains.ensures.value ∙ w.if-not-contains.false))
    ]
