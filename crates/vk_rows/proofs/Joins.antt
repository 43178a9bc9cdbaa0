-- Which seals an auction that takes seals may have first, and which may join them.
use Rattle.std.proofs.Common.{◌≡◌, ◌≢◌, ℕ, ◌^◌, ◌<◌, ◌≤◌, ◌==◌, nat_le, false, true, None, List, [], ◌∷◌, ◌++◌, length, length-append, IfSome, refl, sym, subst, subst₂, arith}
use Rattle.std.specs.List.{All, AllByRecursion}
use Rattle.std.proofs.lemmas.Bool.Decides.{nat_tests}
use Rattle.std.proofs.lemmas.List.{get_or_append_left, get_or_push, length_push}
use Rattle.std.proofs.lemmas.List.Elements.{recursion_from_All}
use Rattle.std.proofs.lemmas.Slice.Eq.{bytes_eq-Decides}
use Rattle.vk_keeper.specs.declared.auction.Phase.TheVariants.{Taking}
use Rattle.vk_keeper.specs.declared.auction.SealRow.{SealRow}
use Rattle.vk_keeper.specs.declared.auction.Auction.{Auction}
use Rattle.vk_keeper.specs.Auctions.{IsAuction, IsSealRow, seed_of}
use Rattle.vk_keeper.specs.Joining.{first_of, is_taken, join_refusal, with_last}
use Rattle.vk_rows.specs.Columns.{IsStored}

-- ---- what a test says

differs : (m n : ℕ) → m ≢ n → (m == n) ≡ false
differs m n apart = grind (arith, nat_tests, apart)

same : (m n : ℕ) → m ≡ n → (m == n) ≡ true
same m n equal = grind (arith, nat_tests, equal)

below : (most n : ℕ) → n < most → nat_le most n ≡ false
below most n low = grind (arith, nat_tests, low)

free_seat : (seat : ℕ) (held : List SealRow)
    → AllByRecursion (λ (earlier : SealRow). earlier.seal.seat ≢ seat) held
    → is_taken seat held ≡ false
free_seat seat [] apart = refl
free_seat seat (row ∷ held) apart =
    rw (differs row.seal.seat seat apart.0, free_seat seat held apart.1) refl

-- ---- the seals of an auction

pub are_stored : (auction : Auction) → IsAuction auction → AllByRecursion IsStored auction.seals
are_stored auction is = recursion_from_All IsStored auction.seals
    (λ k d low. ((is.held.rows k d low).seal, (is.held.rows k d low).secret))

-- the first seals of an auction that takes seals are those of such an auction
pub first_seals : (auction : Auction) (xs ys : List SealRow) → auction.phase ≡ Taking
    → IsAuction (record auction { seals = xs ++ ys }) → IsAuction (record auction { seals = xs })
first_seals auction xs ys taking is = record {
  held = record {
    id = is.held.id;
    size = is.held.size;
    few_seals = let all = is.held.few_seals in omega (arith, length-append xs ys, all);
    rows = λ k d low. subst (IsSealRow auction.id auction.width auction.lanes)
        (get_or_append_left xs ys d k low)
        (is.held.rows k d (omega (arith, length-append xs ys, low)));
    seats = λ i j d up low. subst₂ (λ (a b : SealRow). a.seal.seat ≢ b.seal.seat)
        (get_or_append_left xs ys d i (omega (arith, up, low)))
        (get_or_append_left xs ys d j low)
        (is.held.seats i j d up (omega (arith, length-append xs ys, low)));
    some_seal = subst (λ phase. IfSome (seed_of phase) (λ seed. 1 ≤ length xs)) (sym taking) tt;
    seed = is.held.seed;
    challenge = is.held.challenge;
    bits = is.held.bits;
  };
  terms = is.terms;
}

-- the last seal of an auction isn't refused by those before it
pub last_joins : (auction : Auction) (row : SealRow) → IsAuction (with_last auction row)
    → join_refusal auction row.seal row.secret ≡ None
unfolding first_of
last_joins auction row is =
    let count = length_push auction.seals row in
    let few = is.held.few_seals in
    let last : IsSealRow auction.id auction.width auction.lanes row =
    subst (IsSealRow auction.id auction.width auction.lanes)
    (get_or_push auction.seals row row (length auction.seals) refl)
    (is.held.rows (length auction.seals) row (omega (arith, count))) in
    let apart : All (λ (earlier : SealRow). earlier.seal.seat ≢ row.seal.seat) auction.seals =
    λ k d low. subst₂ (λ (a b : SealRow). a.seal.seat ≢ b.seal.seat)
    (get_or_append_left auction.seals (row ∷ []) d k low)
    (get_or_push auction.seals row d (length auction.seals) refl)
    (is.held.seats k (length auction.seals) d low (omega (arith, count))) in
    rw (
      below 64 (length auction.seals) (omega (arith, count, few)),
      (bytes_eq-Decides row.seal.auction auction.id).1 last.id,
      free_seat row.seal.seat auction.seals (recursion_from_All _ auction.seals apart),
      same (length row.seal.lanes) auction.lanes last.count,
      below (2 ^ auction.width) row.secret.bid last.small_bid,
      last.matched,
    ) refl
