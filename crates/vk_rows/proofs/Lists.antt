-- One more row at the end of those that show seals.
use Rattle.std.proofs.Common.{◌≡◌, ◌∙◌, ℕ, ◌+◌, ◌<◌, List, [], ◌∷◌, ◌++◌, length, map, take, get_or, sym, ap, subst, subst₂, arith}
use Rattle.std.proofs.lemmas.List.{take_more, length-take-le, length-map, map-append}
use Rattle.sqlite.specs.Order.{Row}
use Rattle.vk_keeper.specs.declared.auction.SealRow.{SealRow}
use Rattle.vk_rows.specs.declared.texts.SealTexts.{SealTexts}
use Rattle.vk_rows.specs.Columns.{ShowSeals, ShowsSeal, seal_texts}

-- one more row shows one more seal
pub show_more : (before : ℕ) (rows : List Row) (seals : List SealTexts) (row : Row)
    (seal : SealTexts) → ShowSeals before rows seals
    → ShowsSeal row (before + length seals + 1) seal
    → ShowSeals before (rows ++ row ∷ []) (seals ++ seal ∷ [])
show_more before [] [] row seal shown last =
    (subst (λ n. ShowsSeal row n seal) (omega arith) last, tt)
show_more before [] (first ∷ seals) row seal shown last = absurd shown
show_more before (one ∷ rows) [] row seal shown last = absurd shown
show_more before (one ∷ rows) (first ∷ seals) row seal shown last = (
  shown.0,
  show_more (before + 1) rows seals row seal shown.1
      (subst (λ n. ShowsSeal row n seal) (omega arith) last),
)

pub next_one : {X : Type 0} (xs : List X) (i : ℕ) (x : X) → i < length xs → x ≡ get_or xs i x
    → take (i + 1) xs ≡ take i xs ++ x ∷ []
next_one xs i x within is = take_more xs i x within ∙ ap (λ y. take i xs ++ y ∷ []) (sym is)

-- the next row shows the next seal
pub show_next : (rows : List Row) (seals : List SealTexts) (i : ℕ) (row : Row) (seal : SealTexts)
    → i < length rows → row ≡ get_or rows i row
    → i < length seals → seal ≡ get_or seals i seal → ShowSeals 0 (take i rows) (take i seals)
    → ShowsSeal row (i + 1) seal
    → ShowSeals 0 (take (i + 1) rows) (take (i + 1) seals)
show_next rows seals i row seal in_rows row_is in_seals seal_is shown last =
    let many : length (take i seals) ≡ i = length-take-le i seals (omega (arith, in_seals)) in
    let one : ShowsSeal row (0 + length (take i seals) + 1) seal =
    subst (λ n. ShowsSeal row n seal) (omega arith) last in
    subst₂ (ShowSeals 0) (sym (next_one rows i row in_rows row_is))
    (sym (next_one seals i seal in_seals seal_is))
    (show_more 0 (take i rows) (take i seals) row seal shown one)

-- one more seal is read from the next row
pub show_read : (rows : List Row) (seals : List SealRow) (i : ℕ) (row : Row) (kept : SealRow)
    → i < length rows → row ≡ get_or rows i row
    → ShowSeals 0 (take i rows) (map seal_texts seals)
    → ShowsSeal row (length seals + 1) (seal_texts kept)
    → ShowSeals 0 (take (i + 1) rows) (map seal_texts (seals ++ kept ∷ []))
show_read rows seals i row kept within is shown last =
    let many : length (map seal_texts seals) ≡ length seals = length-map seals seal_texts in
    let one : ShowsSeal row (0 + length (map seal_texts seals) + 1) (seal_texts kept) =
    subst (λ n. ShowsSeal row n (seal_texts kept)) (omega arith) last in
    subst₂ (ShowSeals 0) (sym (next_one rows i row within is))
    (sym (map-append seal_texts seals (kept ∷ [])))
    (show_more 0 (take i rows) (map seal_texts seals) row (seal_texts kept) shown one)
