-- The auction of a sample is one that is proved, with the seats and the bids of the sample.
use Rattle.std.proofs.Common.{◌≡◌, ◌≢◌, ℕ, zero, suc, ◌+◌, ◌<◌, ◌≤◌, List, [], ◌∷◌, ◌++◌, length, map, take, get_or, Option, Some, None, Ok, refl, sym, ap, subst, ◌∙◌, arith}
use Rattle.std.specs.Prelude.{All, AllPairs}
use Rattle.std.proofs.lemmas.List.{get_or-map, length-map, length_push, map-append, take_all, take_more}
use Rattle.std.proofs.lemmas.Nat.{pow_pos}
use Rattle.std.proofs.lemmas.List.Elements.{All-nil, All-push}
use Rattle.vk_judge.proofs.Steps.{bind_ok}
use Rattle.vk_keeper.specs.declared.auction.SealRow.{SealRow}
use Rattle.vk_keeper.specs.Auctions.{IsAuction, IsSealRow}
use Rattle.vk_job.specs.Proofs.{Dry}
use Rattle.vk_report.specs.declared.sample.SampleCase.{SampleCase}
use Rattle.vk_report.specs.Samples.{IsCase}
use Rattle.vk_sample_parts.specs.Auctions.{auction_with, rows_onto, sealed, secret_at, unless_dry}
use Rattle.vk_sample_parts.proofs.Seals.{IsRowAt, row_is}

-- ---- the rows so far

record AreRows (sample : SampleCase) (rows : List SealRow) : Type 0 where
  right : All (IsSealRow sample.auction sample.width sample.lanes) rows
  seats_are : map (λ (row : SealRow). row.seal.seat) rows ≡ take (length rows) sample.seats
  bids_are : map (λ (row : SealRow). row.secret.bid) rows ≡ take (length rows) sample.bids

-- one more of each
taken_more : (of : SealRow → ℕ) (rows : List SealRow) (row : SealRow) (values : List ℕ)
    → length rows < length values → map of rows ≡ take (length rows) values
    → of row ≡ get_or values (length rows) 0
    → map of (rows ++ row ∷ []) ≡ take (length (rows ++ row ∷ [])) values
taken_more of rows row values within so_far here =
    map-append of rows (row ∷ []) ∙ ap (λ vs. vs ++ of row ∷ []) so_far
    ∙ ap (λ v. take (length rows) values ++ v ∷ []) here
    ∙ sym (take_more values (length rows) 0 within)
    ∙ ap (λ n. take n values) (sym (length_push rows row))

row_added : (sample : SampleCase) → IsCase sample → (rows : List SealRow) (row : SealRow)
    → length rows < length sample.seats → AreRows sample rows → IsRowAt sample (length rows) row
    → AreRows sample (rows ++ row ∷ [])
row_added sample case rows row within are is = record {
  right = All-push (IsSealRow sample.auction sample.width sample.lanes) rows row are.right is.right;
  seats_are = taken_more (λ r. r.seal.seat) rows row sample.seats within are.seats_are is.seat_is;
  bids_are = taken_more (λ r. r.secret.bid) rows row sample.bids (omega (arith, case.bid_count))
      are.bids_are is.bid_is;
}

rows_are : (sample : SampleCase) → IsCase sample
    → (before : List SealRow) (more : ℕ) (rows : List SealRow)
    → length before + more ≤ length sample.seats → AreRows sample before
    → rows_onto sample before more ≡ Ok rows
    → (length rows ≡ length before + more) × AreRows sample rows
unfolding rows_onto
rows_are sample case before zero rows few are is =
    let same : before ≡ rows = cc in
    (omega (arith, ap length same), subst (AreRows sample) same are)
rows_are sample case before (suc more) rows few are is =
    let first = bind_ok (sealed (secret_at sample (length before)))
    (λ row. rows_onto sample (before ++ row ∷ []) more) rows is in
    let row = row_is sample case (length before) (omega arith) first.0 first.1 in
    let added = row_added sample case before first.0 (omega arith) are row in
    let rest = rows_are sample case (before ++ first.0 ∷ []) more rows
    (omega (arith, length_push before first.0)) added first.2 in
    (rest.0 ∙ omega (arith, length_push before first.0), rest.1)

-- ---- all rows

pub record AllRows (sample : SampleCase) (rows : List SealRow) : Type 0 where
  pub count : length rows ≡ length sample.seats
  pub right : All (IsSealRow sample.auction sample.width sample.lanes) rows
  pub seats_are : map (λ (row : SealRow). row.seal.seat) rows ≡ sample.seats
  pub bids_are : map (λ (row : SealRow). row.secret.bid) rows ≡ sample.bids

pub all_rows : (sample : SampleCase) → IsCase sample → (rows : List SealRow)
    → rows_onto sample [] (length sample.seats) ≡ Ok rows → AllRows sample rows
all_rows sample case rows is =
    let none : AreRows sample [] =
    record {
      right = All-nil (IsSealRow sample.auction sample.width sample.lanes);
      seats_are = refl;
      bids_are = refl;
    } in
    let are = rows_are sample case [] (length sample.seats) rows (omega arith) none is in
    record {
      count = omega (arith, are.0);
      right = are.1.right;
      seats_are = are.1.seats_are ∙ take_all (length rows) sample.seats (omega (arith, are.0));
      bids_are = are.1.bids_are
          ∙ take_all (length rows) sample.bids (omega (arith, are.0, case.bid_count));
    }

-- ---- the auction

pub seats_differ : (rows : List SealRow) (seats : List ℕ)
    → map (λ (row : SealRow). row.seal.seat) rows ≡ seats
    → AllPairs (λ earlier later. earlier ≢ later) seats
    → AllPairs (λ (earlier : SealRow) (later : SealRow). earlier.seal.seat ≢ later.seal.seat) rows
seats_differ rows seats are differ i j d before within =
    let of : SealRow → ℕ = λ row. row.seal.seat in
    let long : length seats ≡ length rows = sym (ap length are) ∙ length-map rows of in
    let at : (k : ℕ) → k < length rows → get_or seats k 0 ≡ of (get_or rows k d) =
    λ k lt. sym (ap (λ ss. get_or ss k 0) are) ∙ get_or-map of rows k d 0 lt in
    λ same. differ i j 0 before (omega (arith, long))
    (at i (omega arith) ∙ same ∙ sym (at j within))

pub is_auction : (sample : SampleCase) → IsCase sample → (rows : List SealRow) → AllRows sample rows
    → IsAuction (auction_with sample rows)
is_auction sample case rows all =
    let some : 1 ≤ length rows = omega (arith, all.count, case.some_seal) in
    record {
      held = record {
        id = case.id;
        size = case.size;
        few_seals = omega (arith, all.count, case.few_seals);
        rows = all.right;
        seats = seats_differ rows sample.seats all.seats_are case.seats_differ;
        some_seal = some;
        seed = case.seed;
        challenge = tt;
        bits = tt;
      };
      terms = record {
        least = omega arith;
        most = omega arith;
        small = pow_pos sample.width;
        unnamed = λ _. refl;
      };
    }

pub none_dry : {X : Type 0} (auction other : X) (dry : Option Dry)
    → unless_dry auction dry ≡ Ok other → (dry ≡ None) × (auction ≡ other)
none_dry auction other None is = (refl, cc)
none_dry auction other (Some dry) is = cc
