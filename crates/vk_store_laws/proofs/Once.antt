-- What the tables hold under an id is one auction.
use Rattle.std.proofs.Common.{◌≡◌, ℕ, ◌+◌, ◌<◌, ◌≤◌, pos, List, [], ◌∷◌, map, refl, ap, sym, subst, ◌∙◌, inl, inr, arith, Less, int_cmp}
use Rattle.std.specs.Prelude.{IsPermutation, slice_index_or}
use Rattle.std.proofs.lemmas.Bool.Decides.{nat_tests}
use Rattle.std.proofs.lemmas.List.Sorted.{IsPermutation-trans, IsPermutation-sym}
use Rattle.std.proofs.lemmas.Cmp.{tied_itself}
use Rattle.sqlite_value.specs.Order.{Row, column, value_cmp}
use Rattle.sqlite_value.proofs.OrderLemmas.{value_cmp_total, value_cmp-Int}
use Rattle.sqlite_trees.specs.Tree.{Trees, IsTable}
use Rattle.sqlite_rules.specs.Lists.{Has}
use Rattle.sqlite_rules.proofs.ListLemmas.{all_has, all_from}
use Rattle.sqlite.specs.declared.types.Value.TheVariants.{Int}
use Rattle.vk_keeper.specs.declared.auction.Auction.{Auction}
use Rattle.vk_keeper.specs.Auctions.{IsAuction, challenge_of}
use Rattle.vk_rows.specs.declared.texts.SealTexts.{SealTexts}
use Rattle.vk_rows.specs.Columns.{phase_number, seal_texts}
use Rattle.vk_rows.proofs.Joins.{are_stored}
use Rattle.vk_rows.proofs.Same.{bits_as, one_list, one_phase}
use Rattle.vk_store_laws.specs.Rows.{under, head_columns, term_columns, seal_columns}
use Rattle.vk_store_laws.specs.Holding.{head_row, term_row, columns_of, seal_rows, Stands}
use Rattle.vk_store_laws.proofs.Removes.{has_permuted}

lower : (a b : ℕ) → a < b → value_cmp (Int (pos a)) (Int (pos b)) ≡ Less
lower a b low = value_cmp-Int (pos a) (pos b) ∙ below a b low
  where
    below : (a b : ℕ) → a < b → int_cmp (pos a) (pos b) ≡ Less
    below a b low = grind (arith, nat_tests, low)

-- the rows of seals rise by their positions
pub rows_rise : (before : ℕ) (texts : List SealTexts) → IsTable (seal_rows before texts)
rows_rise before [] = tt
rows_rise before (text ∷ texts) = (
  all_from _ (seal_rows (before + 1) texts)
      (λ r h. later (before + 1) (before + 1) texts r (omega arith) h),
  rows_rise (before + 1) texts,
)
  where
    later : (at before : ℕ) (texts : List SealTexts) (r : Row) → at ≤ before
        → Has (seal_rows before texts) r → value_cmp (Int (pos at)) (column r 0) ≡ Less
    later at before [] r low h = absurd h
    later at before (text ∷ texts) r low (inl same) =
        subst (λ x. value_cmp (Int (pos at)) (column x 0) ≡ Less) (sym same)
        (lower at (before + 1) (omega (arith, low)))
    later at before (text ∷ texts) r low (inr more) =
        later at (before + 1) texts r (omega (arith, low)) more

never_both : (a b : Row) → value_cmp (column a 0) (column b 0) ≡ Less
    → value_cmp (column b 0) (column a 0) ≡ Less → ⊥
never_both a b p q =
    let loop = value_cmp_total.trans (column a 0) (column b 0) (column a 0) p q in
    absurd (let e = sym loop ∙ tied_itself value_cmp_total (column a 0) in cc)

not_itself : (a : Row) → value_cmp (column a 0) (column a 0) ≡ Less → ⊥
not_itself a p = absurd (let e = sym p ∙ tied_itself value_cmp_total (column a 0) in cc)

-- two tables with the same rows are one
pub same_tables : (xs ys : List Row) → IsTable xs → IsTable ys → ((r : Row) → Has xs r → Has ys r)
    → ((r : Row) → Has ys r → Has xs r) → xs ≡ ys
same_tables [] [] p q a b = refl
same_tables [] (y ∷ ys) p q a b = absurd (b y (inl refl))
same_tables (x ∷ xs) [] p q a b = absurd (a x (inl refl))
same_tables (x ∷ xs) (y ∷ ys) p q a b =
    let first : x ≡ y = elim (a x (inl refl)) [
      | inl same ↦ same
      | inr behind ↦ elim (b y (inl refl)) [
        | inl same ↦ sym same
        | inr after ↦ absurd
            (never_both x y (all_has _ xs y p.0 after) (all_has _ ys x q.0 behind))
      ]
    ] in
    let rest = same_tables xs ys p.1 q.1
    (λ r h. elim (a r (inr h)) [
      | inl same ↦ absurd (not_itself r
          (subst (λ z. value_cmp (column z 0) (column r 0) ≡ Less) (first ∙ sym same)
          (all_has _ xs r p.0 h)))
      | inr more ↦ more
    ])
    (λ r h. elim (b r (inr h)) [
      | inl same ↦ absurd (not_itself r
          (subst (λ z. value_cmp (column z 0) (column r 0) ≡ Less) (sym first ∙ sym same)
          (all_has _ ys r q.0 h)))
      | inr more ↦ more
    ]) in
    rw (first, rest) refl

texts_from : (before : ℕ) (a b : List SealTexts) → seal_rows before a ≡ seal_rows before b → a ≡ b
texts_from before [] [] is = refl
texts_from before [] (y ∷ b) is = absurd (let e = is in cc)
texts_from before (x ∷ a) [] is = absurd (let e = is in cc)
texts_from before (x ∷ a) (y ∷ b) is =
    let first : columns_of (before + 1) x ≡ columns_of (before + 1) y = cc in
    let rest = texts_from (before + 1) a b (let e = is in cc) in
    let same : x ≡ y = text_of x y first in
    rw (same, rest) refl
  where
    text_of : (x y : SealTexts) → columns_of (before + 1) x ≡ columns_of (before + 1) y → x ≡ y
    text_of x y e =
        let seat : x.seat ≡ y.seat = cc in
        let seal : x.seal ≡ y.seal = cc in
        let secret : x.secret ≡ y.secret = cc in
        rw (seat, seal, secret) refl

pub stands_one : (trees : Trees) (a b : Auction) → IsAuction a → IsAuction b → a.id ≡ b.id
    → Stands trees a → Stands trees b → a ≡ b
stands_one trees a b p q id one two =
    let moved : Stands trees a → (map head_columns (under b.id (trees 1)) ≡ head_row a ∷ [])
    × IsPermutation (map seal_columns (under b.id (trees 3)))
    (seal_rows 0 (map seal_texts a.seals)) =
    λ s. (
      subst (λ i. map head_columns (under i (trees 1)) ≡ head_row a ∷ []) id s.head,
      subst (λ i. IsPermutation (map seal_columns (under i (trees 3)))
          (seal_rows 0 (map seal_texts a.seals))) id s.seals,
    ) in
    let here = moved one in
    let heads : head_row a ∷ [] ≡ head_row b ∷ [] = sym here.0 ∙ two.head in
    let width : a.width ≡ b.width =
    column_at (head_row a) (head_row b) 0 heads a.width b.width refl refl in
    let lanes : a.lanes ≡ b.lanes =
    column_at (head_row a) (head_row b) 1 heads a.lanes b.lanes refl refl in
    let number : phase_number a.phase ≡ phase_number b.phase =
    column_at (head_row a) (head_row b) 2 heads (phase_number a.phase) (phase_number b.phase)
    refl refl in
    let seed = ap (λ rows. column (slice_index_or rows 0 []) 3) heads in
    let bits = bits_as (challenge_of a.phase)
    ∙ (ap (λ rows. column (slice_index_or rows 0 []) 4) heads
    ∙ sym (bits_as (challenge_of b.phase))) in
    let phase = one_phase a.phase b.phase p.held.challenge q.held.challenge number seed bits in
    let terms : term_row a ∷ [] ≡ term_row b ∷ [] =
    sym (subst (λ i. map term_columns (under i (trees 6)) ≡ term_row a ∷ []) id one.terms)
    ∙ two.terms in
    let version : a.version ≡ b.version =
    column_at (term_row a) (term_row b) 0 terms a.version b.version refl refl in
    let reserve : a.reserve ≡ b.reserve =
    column_at (term_row a) (term_row b) 1 terms a.reserve b.reserve refl refl in
    let same : IsPermutation (seal_rows 0 (map seal_texts a.seals))
    (seal_rows 0 (map seal_texts b.seals)) =
    IsPermutation-trans _ _ _ (IsPermutation-sym _ _ here.1) two.seals in
    let rows = same_tables _ _ (rows_rise 0 (map seal_texts a.seals))
    (rows_rise 0 (map seal_texts b.seals))
    (λ r h. has_permuted _ _ r (IsPermutation-sym _ _ same) h)
    (λ r h. has_permuted _ _ r same h) in
    let texts = texts_from 0 (map seal_texts a.seals) (map seal_texts b.seals) rows in
    let seals = one_list a.seals b.seals (are_stored a p) (are_stored b q) texts in
    same_parts a b id version width lanes reserve phase seals
  where
    column_at : (x y : Row) (at : ℕ) → x ∷ [] ≡ y ∷ [] → (m n : ℕ) → column x at ≡ Int (pos m)
        → column y at ≡ Int (pos n) → m ≡ n
    column_at x y at rows m n xs ys = let e : Int (pos m) ≡ Int (pos n) =
        sym xs ∙ (ap (λ (rows : List Row). column (slice_index_or rows 0 []) at) rows ∙ ys) in cc

    same_parts : (a b : Auction) → a.id ≡ b.id → a.version ≡ b.version → a.width ≡ b.width
        → a.lanes ≡ b.lanes → a.reserve ≡ b.reserve → a.phase ≡ b.phase → a.seals ≡ b.seals → a ≡ b
    same_parts a b id version width lanes reserve phase seals =
        rw (id, version, width, lanes, reserve, phase, seals) refl
