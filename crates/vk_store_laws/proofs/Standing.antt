-- What is found under an id stands in the tables.
use Rattle.std.proofs.Common.{◌≡◌, true, ℕ, zero, suc, ◌+◌, ◌<◌, pos, List, [], ◌∷◌, map, take, length, refl, ap, sym, subst, ◌∙◌, arith, Option, Some, None}
use Rattle.std.specs.Prelude.{IsPermutation, IfSome}
use Rattle.std.specs.List.{AllByRecursion}
use Rattle.std.proofs.lemmas.List.{length-map}
use Rattle.std.proofs.lemmas.List.Sorted.{IsPermutation-sym, length_permutation}
use Rattle.sqlite_value.specs.Order.{Row, column}
use Rattle.sqlite_trees.proofs.ListLemmas.{all-permutation}
use Rattle.sqlite_trees.specs.Tree.{IsAscending}
use Rattle.sqlite.specs.declared.types.Value.TheVariants.{Int, Text}
use Rattle.sqlite.specs.Effect.{Database}
use Rattle.sqlite.specs.Store.{Ghosts}
use Rattle.sqlite.specs.Held.{Held, state}
use Rattle.sqlite_rules.proofs.ListLemmas.{all_from}
use Rattle.sqlite_rules.proofs.ProbeLemmas.{has_mapped}
use Rattle.sqlite.proofs.Callers.{one_permutation}
use Rattle.vk_keeper.specs.declared.auction.Auction.{Auction}
use Rattle.vk_keeper.specs.Auctions.{IsAuction, challenge_of}
use Rattle.vk_rows.specs.declared.texts.SealTexts.{SealTexts}
use Rattle.vk_rows.specs.Columns.{ShowsAuction, ShowsTerms, ShowSeals, ShowFound, seal_texts}
use Rattle.vk_rows.proofs.Exact.{count_of}
use Rattle.vk_rows.proofs.Same.{bits_as}
use Rattle.vk_keeper_sql.specs.Reading.{Finds, Reads}
use Rattle.vk_store_laws.specs.Tables.{store_schema}
use Rattle.vk_store_laws.specs.Rows.{under, head_columns, term_columns, seal_columns}
use Rattle.vk_store_laws.specs.Holding.{head_row, term_row, seal_rows, Holds}
use Rattle.vk_store_laws.proofs.Texts.{find_auction_is, find_terms_is}
use Rattle.vk_store_laws.proofs.Finds.{NotBelow, finds_heads, finds_terms, finds_seals, shown_leaves}

abbrev pub IsFour : Row → Type 0
IsFour row = row ≡ column row 0 ∷ column row 1 ∷ column row 2 ∷ column row 3 ∷ []

-- fewer rows than were asked for are all of them
pub all_taken : (n : ℕ) (order rows : List Row) → rows ≡ take n order → length rows < n
    → rows ≡ order
all_taken zero order rows is few = absurd (omega (arith, few))
all_taken (suc n) [] rows is few = is
all_taken (suc n) (x ∷ order) [] is few = absurd (let e = is in cc)
all_taken (suc n) (x ∷ order) (y ∷ rows) is few =
    let first : y ≡ x = cc in
    let rest : rows ≡ take n order = cc in
    let more = all_taken n order rows rest (omega (arith, few)) in
    rw (first, more) refl

pub rows_are : (before : ℕ) (rows : List Row) (seals : List SealTexts) → AllByRecursion IsFour rows
    → ShowSeals before rows seals → rows ≡ seal_rows before seals
rows_are before [] [] four shown = refl
rows_are before [] (seal ∷ seals) four shown = absurd shown
rows_are before (row ∷ rows) [] four shown = absurd shown
rows_are before (row ∷ rows) (seal ∷ seals) four shown =
    let first : row ≡ Int (pos (before + 1)) ∷ Int (pos seal.seat) ∷ Text seal.seal
    ∷ Text seal.secret ∷ [] =
    four.0 ∙ rw (shown.0.position, shown.0.seat, shown.0.seal, shown.0.secret) refl in
    rw (first, rows_are (before + 1) rows seals four.1 shown.1) refl

pub four_columns : (rows order : List Row) → IsPermutation (map seal_columns rows) order
    → AllByRecursion IsFour order
four_columns rows order same =
    all-permutation IsFour (map seal_columns rows) order same
    (all_from IsFour (map seal_columns rows)
    (λ x h. let from = has_mapped seal_columns rows x h in subst IsFour (sym from.2) refl))

-- the one row is this one, where any that shows as much is
one_is : (f : Row → Row) (Shows : Row → Type 0) (wanted : Row)
    → ((r : Row) → Shows (f r) → f r ≡ wanted) → (rows : List Row) (row : Row)
    → map f rows ≡ row ∷ [] → Shows row → map f rows ≡ wanted ∷ []
one_is f Shows wanted means [] row is shown = absurd (let e = is in cc)
one_is f Shows wanted means (r ∷ rows) row is shown =
    let first : row ≡ f r = cc in
    is ∙ ap (λ x. x ∷ []) (first ∙ means r (subst Shows first shown))

-- a row that shows the auction is its row
head_is : (rows : List Row) (head : Row) (auction : Auction) → map head_columns rows ≡ head ∷ []
    → ShowsAuction head auction → map head_columns rows ≡ head_row auction ∷ []
head_is rows head auction =
    one_is head_columns (λ row. ShowsAuction row auction) (head_row auction)
    (λ r shows. rw (
      shows.size.width,
      shows.size.lanes,
      shows.phase.number,
      shows.phase.seed,
      shows.phase.bits,
      bits_as (challenge_of auction.phase),
    ) refl) rows head

none_mapped : (f : Row → Row) (rows : List Row) → map f rows ≡ [] → rows ≡ []
none_mapped f [] is = refl
none_mapped f (r ∷ rows) is = absurd (let e = is in cc)

pub none_permuted : (rows order : List Row) → IsPermutation rows order → order ≡ [] → rows ≡ []
none_permuted [] order same is = refl
none_permuted (r ∷ rows) order same is =
    absurd (let len = length_permutation (r ∷ rows) order same in let none = ap length is in
    omega (arith, len, none))

pub one_permuted : (rows order : List Row) (row : Row) → IsPermutation rows order → order ≡ row ∷ []
    → rows ≡ row ∷ []
one_permuted rows order row same is =
    one_permutation row rows (subst (λ xs. IsPermutation xs rows) is
    (IsPermutation-sym rows order same))

-- a row that shows the terms is theirs
terms_are : (rows : List Row) (row : Row) (auction : Auction) → map term_columns rows ≡ row ∷ []
    → ShowsTerms row auction → map term_columns rows ≡ term_row auction ∷ []
terms_are rows row auction =
    one_is term_columns (λ row. ShowsTerms row auction) (term_row auction)
    (λ r shows. rw (shows.version, shows.reserve) refl) rows row

module _ {S : Type 0} (g : Ghosts S) (id : List ℕ) (old : Held S) (has : (state g old).now.schema ≡ store_schema) (heads terms rows : List Row) (it : Reads g id old heads terms rows) where
  -- what the three queries found
  pub record AreFound : Type 0 where
    pub head_order : List Row
    pub heads_in : IsPermutation (map head_columns (under id ((state g old).now.trees 1)))
        head_order
    pub heads_are : heads ≡ take 2 head_order
    pub term_order : List Row
    pub terms_in : IsPermutation (map term_columns (under id ((state g old).now.trees 6)))
        term_order
    pub terms_are : terms ≡ take 2 term_order
    pub seal_order : List Row
    pub seals_in : IsPermutation (map seal_columns (under id ((state g old).now.trees 3)))
        seal_order
    pub seals_are : rows ≡ take 65 seal_order
    pub seals_rise : IsAscending NotBelow seal_order

  pub are_found : AreFound
  are_found =
      let begun = state g (record old { in_transaction = true }) in
      let one = state g it.one in
      let two = state g it.two in
      let first = finds_heads begun one id heads has it.head in
      let left_one : one.now ≡ begun.now =
      (shown_leaves _ _ _ begun one heads has find_auction_is.1 it.head).0.now_is in
      let has_one = ap (λ (d : Database). d.schema) left_one ∙ has in
      let second = finds_terms one two id terms has_one it.term in
      let left_two : two.now ≡ begun.now =
      (shown_leaves _ _ _ one two terms has_one find_terms_is.1 it.term).0.now_is ∙ left_one in
      let third = finds_seals two (state g it.last) id rows
      (ap (λ (d : Database). d.schema) left_two ∙ has) it.seals in
      record {
        head_order = first.0;
        heads_in = first.1;
        heads_are = first.2;
        term_order = second.0;
        terms_in = subst (λ (d : Database). IsPermutation (map term_columns (under id (d.trees 6)))
            second.0) left_one second.1;
        terms_are = second.2;
        seal_order = third.0;
        seals_in = subst (λ (d : Database). IsPermutation (map seal_columns (under id (d.trees 3)))
            third.0) left_two third.1;
        seals_are = third.2;
        seals_rise = third.3;
      }

  pub stands_as_found : (found : Option Auction)
      → IfSome found (λ auction. (auction.id ≡ id) × IsAuction auction)
      → ShowFound heads terms rows found → AreFound → Holds (state g old).now.trees id found
  stands_as_found None right shown a = record {
    head = none_mapped head_columns _
        (none_permuted _ a.head_order a.heads_in
        (sym (all_taken 2 a.head_order heads a.heads_are (omega (arith, ap length shown.0)))
        ∙ shown.0));
    terms = none_mapped term_columns _
        (none_permuted _ a.term_order a.terms_in
        (sym (all_taken 2 a.term_order terms a.terms_are (omega (arith, ap length shown.1)))
        ∙ shown.1));
    seals = none_mapped seal_columns _
        (none_permuted _ a.seal_order a.seals_in
        (sym (all_taken 65 a.seal_order rows a.seals_are (omega (arith, ap length shown.2)))
        ∙ shown.2));
  }
  stands_as_found (Some auction) right shown a =
      let head = shown.0 in
      let term = shown.1 in
      let whole = shown.4 in
      let first = all_taken 2 a.head_order heads a.heads_are (omega (arith, ap length shown.2)) in
      let second = all_taken 2 a.term_order terms a.terms_are (omega (arith, ap length shown.3)) in
      let count = count_of 0 rows (map seal_texts auction.seals) whole.seals
      ∙ length-map auction.seals seal_texts in
      let third = all_taken 65 a.seal_order rows a.seals_are
      (omega (arith, count, right.1.held.few_seals)) in
      let one : map head_columns (under id ((state g old).now.trees 1)) ≡ head ∷ [] =
      one_permuted _ a.head_order head a.heads_in (sym first ∙ shown.2) in
      let two : map term_columns (under id ((state g old).now.trees 6)) ≡ term ∷ [] =
      one_permuted _ a.term_order term a.terms_in (sym second ∙ shown.3) in
      let order : a.seal_order ≡ seal_rows 0 (map seal_texts auction.seals) =
      rows_are 0 a.seal_order (map seal_texts auction.seals)
      (four_columns _ a.seal_order a.seals_in)
      (subst (λ xs. ShowSeals 0 xs (map seal_texts auction.seals)) third whole.seals) in (
        right.0,
        record {
          head = subst (λ i. map head_columns (under i ((state g old).now.trees 1))
              ≡ head_row auction ∷ []) (sym right.0) (head_is _ head auction one whole.head);
          terms = subst (λ i. map term_columns (under i ((state g old).now.trees 6))
              ≡ term_row auction ∷ []) (sym right.0) (terms_are _ term auction two whole.terms);
          seals = subst (λ i. IsPermutation (map seal_columns (under i ((state g old).now.trees 3)))
              (seal_rows 0 (map seal_texts auction.seals))) (sym right.0)
              (subst (IsPermutation _) order a.seals_in);
        },
      )

pub found_stands : {S : Type 0} (g : Ghosts S) (id : List ℕ) (old : Held S) (found : Option Auction)
    → (state g old).now.schema ≡ store_schema
    → IfSome found (λ auction. (auction.id ≡ id) × IsAuction auction) → Finds g id old found
    → Holds (state g old).now.trees id found
found_stands g id old found has right it =
    stands_as_found g id old has it.heads it.terms it.rows it.read found right it.shown
    (are_found g id old has it.heads it.terms it.rows it.read)

pub both_of : (id : List ℕ) (found : Option Auction) → IfSome found (λ auction. auction.id ≡ id)
    → IfSome found IsAuction → IfSome found (λ auction. (auction.id ≡ id) × IsAuction auction)
both_of id None own right = tt
both_of id (Some auction) own right = (own, right)
