use Rattle.std.proofs.Common.{◌≡◌, ◌∙◌, [], ◌∷◌, sym, ap}
use Rattle.vk_keeper_sql.proofs.Shapes.{only}
use Rattle.vk_keeper_sql.proofs.layout.is_by_id.Goals as goal

pub returns-in-len1 : goal.returns-in-len1
returns-in-len1 c = (
  λ yes.
      let id : c.id-item.result ≡ 1 ∷ [] = sym c.as_slice-in-len1.ensures ∙ c.are.ensures.0 yes in
      sym c.as_slice.ensures ∙ only c.as_slice.result.now c.id-item.result c.in-len1.len_at_least
      c.in-len1.len_below c.id-item.is ∙ ap (λ key. key ∷ []) id,
  λ whole.
      let keys : c.as_slice.result.now ≡ (1 ∷ []) ∷ [] = c.as_slice.ensures ∙ whole in
      let id : c.id-item.result ≡ 1 ∷ [] = rw keys at c.id-item.is in
      c.are.ensures.1 (c.as_slice-in-len1.ensures ∙ id),
)
