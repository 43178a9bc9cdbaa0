use Rattle.std.proofs.Common.{◌≡◌, ◌∙◌, [], ◌∷◌, refl, sym, ap}
use Rattle.vk_keeper_sql.proofs.Shapes.{pair}
use Rattle.vk_keeper_sql.proofs.layout.is_by_place.Goals as goal

pub returns-then-are : goal.returns-then-are
returns-then-are c = (
  λ yes.
      let first : c.position-item.result ≡ 1 ∷ 2 ∷ [] = sym c.as_slice-in-len2.ensures
      ∙ c.if-are.ensures.0 refl in
      let second : c.seat-item.result ≡ 1 ∷ 3 ∷ [] = sym c.as_slice-then-are.ensures
      ∙ c.are-then-are.ensures.0 yes in
      sym c.as_slice.ensures ∙ pair c.as_slice.result.now c.position-item.result c.seat-item.result
      c.in-len2.len_at_least c.in-len2.len_below c.position-item.is c.seat-item.is
      ∙ ap (λ key. key ∷ c.seat-item.result ∷ []) first
      ∙ ap (λ key. (1 ∷ 2 ∷ []) ∷ key ∷ []) second,
  λ whole.
      let keys : c.as_slice.result.now ≡ (1 ∷ 2 ∷ []) ∷ (1 ∷ 3 ∷ []) ∷ [] =
      c.as_slice.ensures ∙ whole in
      let second : c.seat-item.result ≡ 1 ∷ 3 ∷ [] = rw keys at c.seat-item.is in
      c.are-then-are.ensures.1 (c.as_slice-then-are.ensures ∙ second),
)

pub returns-else-are : goal.returns-else-are
returns-else-are c = (
  λ yes. absurd (let e = yes in let no = c.if-are.false in cc),
  λ whole.
      let keys : c.as_slice.result.now ≡ (1 ∷ 2 ∷ []) ∷ (1 ∷ 3 ∷ []) ∷ [] =
      c.as_slice.ensures ∙ whole in
      let first : c.position-item.result ≡ 1 ∷ 2 ∷ [] = rw keys at c.position-item.is in
      c.are.ensures.1 (c.as_slice-in-len2.ensures ∙ first),
)
