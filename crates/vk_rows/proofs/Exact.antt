-- What rows that show an auction show at each row of its seals.
use Rattle.std.proofs.Common.{◌≡◌, ◌∙◌, ℕ, suc, ◌+◌, ◌<◌, pos, List, [], ◌∷◌, ◌++◌, length, map, take, drop, get_or, refl, sym, ap, subst, arith}
use Rattle.std.specs.List.{AllByRecursion}
use Rattle.std.proofs.lemmas.List.{append_assoc, drop_more, get_or_push, length-map, length_push, take-append-drop}
use Rattle.sqlite.specs.Order.{Row}
use Rattle.sqlite.specs.declared.types.Value.{Value}
use Rattle.sqlite.specs.declared.types.Value.TheVariants.{Int, Text}
use Rattle.vk_keeper.specs.declared.auction.Phase.{Phase}
use Rattle.vk_keeper.specs.declared.auction.Phase.TheVariants.{Taking}
use Rattle.vk_keeper.specs.declared.auction.SealRow.{SealRow}
use Rattle.vk_keeper.specs.declared.auction.Auction.{Auction}
use Rattle.vk_keeper.specs.Auctions.{IsAuction}
use Rattle.vk_keeper.specs.Ledgers.{IsKeptUnder}
use Rattle.vk_rows.specs.declared.texts.SealTexts.{SealTexts}
use Rattle.vk_rows.specs.Columns.{IsPhase, IsStored, ShowSeals, ShowsPhase, ShowsSeal, ShowsSize, ShowsTerms, ShowsWhole, seal_texts}
use Rattle.vk_rows.proofs.Joins.{are_stored, first_seals}
use Rattle.vk_rows.proofs.Same.{one_list, one_phase, one_row}

-- ---- a column holds one value

pub one_number : (v : Value) (a b : ℕ) → v ≡ Int (pos a) → v ≡ Int (pos b) → a ≡ b
one_number v a b p q = let both : Int (pos a) ≡ Int (pos b) = sym p ∙ q in cc

pub one_string : (v : Value) (a b : List ℕ) → v ≡ Text a → v ≡ Text b → a ≡ b
one_string v a b p q = let both : Text a ≡ Text b = sym p ∙ q in cc

one_texts : (row : Row) (place : ℕ) (a b : SealTexts) → ShowsSeal row place a
    → ShowsSeal row place b → a ≡ b
one_texts row place a b p q =
    rw (
      one_number _ a.seat b.seat p.seat q.seat,
      one_string _ a.seal b.seal p.seal q.seal,
      one_string _ a.secret b.secret p.secret q.secret,
    ) refl

-- rows show one list of texts alone
one_shown : (before : ℕ) (rows : List Row) (a b : List SealTexts) → ShowSeals before rows a
    → ShowSeals before rows b → a ≡ b
one_shown before [] [] [] p q = refl
one_shown before [] [] (y ∷ b) p q = absurd q
one_shown before [] (x ∷ a) b p q = absurd p
one_shown before (row ∷ rows) [] b p q = absurd p
one_shown before (row ∷ rows) (x ∷ a) [] p q = absurd q
one_shown before (row ∷ rows) (x ∷ a) (y ∷ b) p q =
    rw (one_texts row (before + 1) x y p.0 q.0, one_shown (before + 1) rows a b p.1 q.1) refl

-- rows show the seals of one auction alone
pub one_seals : (rows : List Row) (a b : List SealRow) → AllByRecursion IsStored a
    → AllByRecursion IsStored b → ShowSeals 0 rows (map seal_texts a)
    → ShowSeals 0 rows (map seal_texts b) → a ≡ b
one_seals rows a b p q one two =
    one_list a b p q (one_shown 0 rows (map seal_texts a) (map seal_texts b) one two)

pub count_of : (before : ℕ) (rows : List Row) (seals : List SealTexts) → ShowSeals before rows seals
    → length rows ≡ length seals
count_of before [] [] shown = refl
count_of before [] (seal ∷ seals) shown = absurd shown
count_of before (row ∷ rows) [] shown = absurd shown
count_of before (row ∷ rows) (seal ∷ seals) shown =
    ap suc (count_of (before + 1) rows seals shown.1)

-- ---- the seal of one row among others

-- seals that rows show, at one row behind these
record IsSplit (before : ℕ) (rows : List Row) (row : Row) (seals : List SealRow) : Type 0 where
  pub first : List SealRow
  pub kept : SealRow
  pub later : List SealRow
  pub whole : seals ≡ first ++ kept ∷ later
  pub shown : ShowSeals before rows (map seal_texts first)
  pub here : ShowsSeal row (before + length rows + 1) (seal_texts kept)

split_at : (before : ℕ) (rows : List Row) (row : Row) (more : List Row) (seals : List SealRow)
    → ShowSeals before (rows ++ row ∷ more) (map seal_texts seals)
    → IsSplit before rows row seals
split_at before [] row more [] shown = absurd shown
split_at before [] row more (kept ∷ later) shown = record {
  first = [];
  kept = kept;
  later = later;
  whole = refl;
  shown = tt;
  here = subst (λ n. ShowsSeal row n (seal_texts kept)) (omega arith) shown.0;
}
split_at before (one ∷ rows) row more [] shown = absurd shown
split_at before (one ∷ rows) row more (seal ∷ seals) shown =
    let rest = split_at (before + 1) rows row more seals shown.1 in record {
      first = seal ∷ rest.first;
      kept = rest.kept;
      later = rest.later;
      whole = ap (λ l. seal ∷ l) rest.whole;
      shown = (shown.0, rest.shown);
      here = subst (λ n. ShowsSeal row n (seal_texts rest.kept)) (omega arith) rest.here;
    }

-- the row behind those that were read shows a seal that may join what was read
pub record IsNext (auction : Auction) (row : Row) : Type 0 where
  pub kept : SealRow
  pub stored : IsStored kept
  pub here : ShowsSeal row (length auction.seals + 1) (seal_texts kept)
  pub joined : IsAuction (record auction { seals = auction.seals ++ kept ∷ [] })

pub next_is : (auction : Auction) (seals : List SealRow) (rows : List Row) (i : ℕ) (row : Row)
    → i < length rows → row ≡ get_or rows i row → auction.phase ≡ Taking → IsAuction auction
    → ShowSeals 0 (take i rows) (map seal_texts auction.seals)
    → IsAuction (record auction { seals = seals }) → ShowSeals 0 rows (map seal_texts seals)
    → IsNext auction row
next_is auction seals rows i row within is taking right read whole shown =
    let more = drop (i + 1) rows in
    let behind : drop i rows ≡ row ∷ more = drop_more rows i row within
    ∙ ap (λ r. r ∷ more) (sym is) in
    let parts : take i rows ++ row ∷ more ≡ rows =
    ap (λ l. take i rows ++ l) (sym behind) ∙ take-append-drop i rows in
    let split = split_at 0 (take i rows) row more seals
    (subst (λ all. ShowSeals 0 all (map seal_texts seals)) (sym parts) shown) in
    let all : IsAuction (record auction { seals = split.first ++ split.kept ∷ split.later }) =
    subst (λ l. IsAuction (record auction { seals = l })) split.whole whole in
    let first = first_seals auction split.first (split.kept ∷ split.later) taking all in
    let same : split.first ≡ auction.seals = one_seals (take i rows) split.first auction.seals
    (are_stored (record auction { seals = split.first }) first) (are_stored auction right)
    split.shown read in
    let last = first_seals auction (split.first ++ split.kept ∷ []) split.later taking
    (subst (λ l. IsAuction (record auction { seals = l }))
    (sym (append_assoc split.first (split.kept ∷ []) split.later)) all) in
    let kept = last.held.rows (length split.first) split.kept
    (omega (arith, length_push split.first split.kept)) in
    let count = count_of 0 (take i rows) (map seal_texts auction.seals) read in
    let many = length-map auction.seals seal_texts in
    record {
      kept = split.kept;
      stored = subst IsStored (get_or_push split.first split.kept split.kept (length split.first)
          refl) (kept.seal, kept.secret);
      here = subst (λ n. ShowsSeal row n (seal_texts split.kept)) (omega (arith, count, many))
          split.here;
      joined = subst (λ l. IsAuction (record auction { seals = l ++ split.kept ∷ [] })) same last;
    }

-- two seals that one row shows are one
pub one_kept : (row : Row) (place : ℕ) (a b : SealRow) → IsStored a → IsStored b
    → ShowsSeal row place (seal_texts a) → ShowsSeal row place (seal_texts b) → a ≡ b
one_kept row place a b p q one two =
    one_row a b p.0 p.1 q.0 q.1
    (one_string _ _ _ one.seal two.seal) (one_string _ _ _ one.secret two.secret)

-- ---- the auction that rows show

same_parts : (a b : Auction) → a.id ≡ b.id → a.version ≡ b.version → a.width ≡ b.width
    → a.lanes ≡ b.lanes → a.reserve ≡ b.reserve → a.phase ≡ b.phase → a.seals ≡ b.seals → a ≡ b
same_parts a b id version width lanes reserve phase seals =
    rw (id, version, width, lanes, reserve, phase, seals) refl

-- an auction that rows show is the one that was read of them
pub one_whole : (id : List ℕ) (head terms : Row) (rows : List Row) (auction taking joined : Auction)
    (phase : Phase) → IsKeptUnder id auction → ShowsWhole head terms rows auction
    → taking.id ≡ id → ShowsSize head taking → ShowsTerms terms taking → IsAuction joined
    → joined ≡ record taking { seals = joined.seals }
    → ShowSeals 0 rows (map seal_texts joined.seals) → IsPhase phase → ShowsPhase head phase
    → auction ≡ record joined { phase = phase }
one_whole id head terms rows auction taking joined phase kept shown own size on right same seals is
    there =
    let held = shown.head.phase in
    let number = one_number _ _ _ held.number there.number in
    let phase_is = one_phase auction.phase phase kept.right.held.challenge is.challenge number
    (sym held.seed ∙ there.seed) (sym held.bits ∙ there.bits) in
    let seals_are = one_seals rows auction.seals joined.seals (are_stored auction kept.right)
    (are_stored joined right) shown.seals seals in
    let read : Auction = record taking { seals = joined.seals; phase = phase } in
    same_parts auction read (kept.own ∙ sym own)
    (one_number _ _ _ shown.terms.version on.version)
    (one_number _ _ _ shown.head.size.width size.width)
    (one_number _ _ _ shown.head.size.lanes size.lanes)
    (one_number _ _ _ shown.terms.reserve on.reserve) phase_is seals_are
    ∙ ap (λ (j : Auction). record j { phase = phase }) (sym same)
