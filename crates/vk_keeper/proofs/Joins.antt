-- A seal and its secret that aren't refused may join an auction.
use Rattle.std.proofs.Common.{◌≡◌, ◌≢◌, ℕ, ◌^◌, ◌==◌, nat_le, not, ◌||◌, Bool, true, false, List, [], ◌∷◌, length, Option, Some, None, option_map, Result, Ok, Err, refl, ap, arith}
use Rattle.std.specs.List.{All}
use Rattle.std.specs.Option.{is_some}
use Rattle.std.specs.Result.{result_err}
use Rattle.std.specs.Str.{bytes_eq}
use Rattle.std.proofs.lemmas.Bool.{true≢false, leb-false}
use Rattle.std.proofs.lemmas.Bool.Decides.{nat_tests}
use Rattle.std.proofs.lemmas.List.Elements.{All-nil, All-cons}
use Rattle.std.proofs.lemmas.Slice.Eq.{bytes_eq-Decides}
use Rattle.vk_seal.specs.declared.matching.Mismatch as seal_mismatch
use Rattle.vk_seal.specs.Match.{match_of}
use Rattle.vk_seal.specs.Values.{IsSeal, IsSecret}
use Rattle.vk_keeper.specs.declared.auction.SealRow.{SealRow}
use Rattle.vk_keeper.specs.declared.auction.Auction.{Auction}
use Rattle.vk_keeper.specs.declared.joining.Refusal.{Refusal}
use Rattle.vk_keeper.specs.declared.joining.Refusal.TheVariants.{Full, OtherAuction, SeatTaken, Length, BidTooLarge, Mismatch}
use Rattle.vk_keeper.specs.Auctions.{IsAuction}
use Rattle.vk_keeper.specs.Joining.{refused_if, first_of, is_taken, join_refusal, with_last}
use Rattle.vk_keeper.proofs.Rows.{with_row}

-- where none is the first, none is there
none_here : {X : Type 0} (here : Option X) (rest : List (Option X)) → first_of (here ∷ rest) ≡ None
    → (here ≡ None) × (first_of rest ≡ None)
unfolding first_of
none_here None rest none = (refl, none)
none_here (Some x) rest none = absurd (true≢false (ap is_some none))

-- the test of a refusal that isn't there fails
test_fails : (test : Bool) (refusal : Refusal) → refused_if test refusal ≡ None → test ≡ false
test_fails false refusal none = refl
test_fails true refusal none = absurd (true≢false (ap is_some none))

-- ---- what a test says that holds, or fails

denied : (test : Bool) → not test ≡ false → test ≡ true
denied true fails = refl
denied false fails = absurd (true≢false fails)

same : (m n : ℕ) → (m == n) ≡ true → m ≡ n
same m n test = grind (arith, nat_tests)

other : (m n : ℕ) → (m == n) ≡ false → m ≢ n
other m n test = λ equal. grind (arith, nat_tests)

neither : (a b : Bool) → (a || b) ≡ false → (a ≡ false) × (b ≡ false)
neither false false none = (refl, refl)
neither false true none = absurd (true≢false none)
neither true b none = absurd (true≢false none)

-- a seal in which no field differs is that of the secret
no_mismatch : (found : Result Unit seal_mismatch.Mismatch)
    → option_map Mismatch (result_err found) ≡ None → found ≡ Ok tt
no_mismatch (Ok done) none = refl
no_mismatch (Err mismatch) none = absurd (true≢false (ap is_some none))

-- no held seal has a seat that isn't taken
others_at : (seat : ℕ) (held : List SealRow) → is_taken seat held ≡ false
    → All (λ earlier. earlier.seal.seat ≢ seat) held
others_at seat [] free = All-nil (λ earlier. earlier.seal.seat ≢ seat)
others_at seat (row ∷ held) free =
    let none = neither (row.seal.seat == seat) (is_taken seat held) free in
    All-cons (λ earlier. earlier.seal.seat ≢ seat) row held (other row.seal.seat seat none.0)
    (others_at seat held none.1)

pub may_join : (auction : Auction) (row : SealRow) → IsAuction auction → IsSeal row.seal
    → IsSecret row.secret → join_refusal auction row.seal row.secret ≡ None
    → IsAuction (with_last auction row)
may_join auction row is seal secret none =
    let full = none_here _ _ none in
    let foreign = none_here _ _ full.1 in
    let taken = none_here _ _ foreign.1 in
    let length_of = none_here _ _ taken.1 in
    let large = none_here _ _ length_of.1 in
    let unmatched = none_here _ _ large.1 in
    let own = denied _ (test_fails (not (bytes_eq row.seal.auction auction.id))
    (OtherAuction row.seal.auction) foreign.0) in
    let count = denied _ (test_fails (not (length row.seal.lanes == auction.lanes))
    (Length auction.lanes (length row.seal.lanes)) length_of.0) in
    with_row auction row is (leb-false 64 (length auction.seals)
    (test_fails (nat_le 64 (length auction.seals)) Full full.0))
    (record {
      seal = seal;
      secret = secret;
      id = (bytes_eq-Decides row.seal.auction auction.id).0 own;
      count = same (length row.seal.lanes) auction.lanes count;
      matched = no_mismatch (match_of row.secret row.seal) unmatched.0;
      small_bid = leb-false (2 ^ auction.width) row.secret.bid
          (test_fails (nat_le (2 ^ auction.width) row.secret.bid) BidTooLarge large.0);
    })
    (others_at row.seal.seat auction.seals
    (test_fails (is_taken row.seal.seat auction.seals) SeatTaken taken.0))
