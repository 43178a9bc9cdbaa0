use Rattle.std.proofs.Common.{◌≡◌, ◌∙◌, ap, sym, rules, tests}
use Rattle.vk_keeper.specs.declared.auction.SealRow.{SealRow}
use Rattle.vk_rows.proofs.Exact.{one_number, one_string}
use Rattle.vk_rows.proofs.Same.{one_row}
use Rattle.vk_rows.proofs.sealed.seal_row_from.Goals as goal
use Rattle.vk_rows.proofs.sealed.seal_row_from.Goals.{then-stands_at-position-via-then-stands_at-position, then-stands_at-position-via-else-stands_at-position+then-seat-from}

pub returns-then-stands_at-position-clause-exact :
    goal.returns-then-stands_at-position-clause-exact
returns-then-stands_at-position-clause-exact c x there =
    let kept = c.in_ok-kept.kept in
    let texts = c.in_ok-kept.ensures in
    let position : c.in_ok-stands_at.stands_at ≡ c.args.position =
    one_number _ _ _ c.in_ok-stands_at.ensures.value there.1.position in
    let seal = one_string _ _ _ c.in_ok-text_at.ensures.value there.1.seal in
    let secret = one_string _ _ _ c.in_ok-text_at-2.ensures.value there.1.secret in
    let same : kept ≡ x = one_row kept x texts.right.0 texts.right.1 there.0.0 there.0.1
    (sym texts.seal_text ∙ seal) (sym texts.secret_text ∙ secret) in
    let seat : c.in_ok-seat.seat ≡ kept.seal.seat =
    one_number _ _ _ c.in_ok-seat.ensures.value there.1.seat
    ∙ ap (λ (r : SealRow). r.seal.seat) (sym same) in
    elim c.then-stands_at-position.branch [
      | then-stands_at-position-via-then-stands_at-position w ↦ search (tests, rules)
      | then-stands_at-position-via-else-stands_at-position+then-seat-from w ↦
          search (tests, rules)
    ]
