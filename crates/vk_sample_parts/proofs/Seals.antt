-- A secret that was drawn for a sample, and its seal, may stand in the sample's auction.
use Rattle.std.proofs.Common.{◌≡◌, ℕ, ◌+◌, ◌^◌, ◌<◌, ◌≤◌, List, [], ◌∷◌, length, Some, Result, Ok, Err, refl, subst, arith}
use Rattle.std.specs.Prelude.{slice_index, slice_index_or}
use Rattle.std.specs.List.{AllByRecursion}
use Rattle.std.proofs.lemmas.List.Elements.{All-nil, recursion_from_All}
use Rattle.std.proofs.Math.Nat.{pow-le-pow_right}
use Rattle.vk_commit.proofs.Digests.{digest_is_bytes}
use Rattle.vk_dice.specs.Draws.{after_residue, drawn_residue}
use Rattle.vk_dice.specs.Many.{drawn_onto}
use Rattle.vk_dice.specs.Stream.{word_at}
use Rattle.vk_dice.specs.Words.{later}
use Rattle.vk_dice.proofs.Drawing.{drawn_each}
use Rattle.vk_wire.specs.Values.{IsCom}
use Rattle.vk_seal.specs.declared.secret.XTape.{XTape}
use Rattle.vk_seal.specs.declared.secret.Secret.{Secret}
use Rattle.vk_seal.specs.Made.{by_lane, drawn_tape, lane_coms, seal_of, secret_with, tape_drawing, tape_with}
use Rattle.vk_seal.specs.Values.{IsXTape}
use Rattle.vk_seal.proofs.SealsMatch.{made_matches}
use Rattle.vk_seal.proofs.Tapes.{length-lane_coms}
use Rattle.vk_keeper.specs.declared.auction.SealRow.{SealRow}
use Rattle.vk_keeper.specs.Auctions.{IsSealRow}
use Rattle.vk_job.proofs.Drawing.{key_is_bytes, of_some, residue_is}
use Rattle.vk_report.specs.declared.sample.SampleCase.{SampleCase}
use Rattle.vk_report.specs.Samples.{IsCase}
use Rattle.vk_sample_parts.specs.Auctions.{sealed, secret_at}

-- ---- the tapes

tape_is : (ahead : ℕ → ℕ) (tape : XTape) → drawn_tape ahead ≡ Some tape → IsXTape tape
tape_is ahead tape is =
    let drawn = of_some (λ mask. tape_with mask (after_residue ahead)) (drawn_residue ahead) tape is
    in
    let P : XTape → Type 0 = λ t. IsXTape t in
    subst P drawn.2 (
      residue_is 4 ahead drawn.0 drawn.1,
      key_is_bytes (after_residue ahead),
      key_is_bytes (later 4 (after_residue ahead)),
    )

-- ---- the seal

coms_are : (auction : List ℕ) (seat bid lane : ℕ) (tapes : List XTape)
    → AllByRecursion IsCom (lane_coms auction seat bid lane tapes)
coms_are auction seat bid lane [] = tt
coms_are auction seat bid lane (tape ∷ tapes) =
    ((digest_is_bytes _, digest_is_bytes _), coms_are auction seat bid (lane + 1) tapes)

-- the secret with these tapes, and its seal
abbrev row_with : List ℕ → ℕ → ℕ → List XTape → SealRow
row_with auction seat bid tapes =
    let secret : Secret = record { auction = auction; seat = seat; bid = bid; lanes = tapes } in
    record { seal = seal_of secret; secret = secret }

row_drawn : (auction : List ℕ) (seat bid : ℕ) (drawn : Result (List XTape) ℕ) (row : SealRow)
    → sealed (secret_with auction seat bid (by_lane drawn)) ≡ Ok row
    → (tapes : List XTape) × (drawn ≡ Ok tapes) × (row_with auction seat bid tapes ≡ row)
row_drawn auction seat bid (Ok tapes) row is = (tapes, refl, cc)
row_drawn auction seat bid (Err before) row is = cc

-- ---- the row of the seal at that index

pub record IsRowAt (sample : SampleCase) (index : ℕ) (row : SealRow) : Type 0 where
  pub right : IsSealRow sample.auction sample.width sample.lanes row
  pub seat_is : row.seal.seat ≡ slice_index sample.seats index
  pub bid_is : row.secret.bid ≡ slice_index sample.bids index

pub row_is : (sample : SampleCase) → IsCase sample → (index : ℕ) → index < length sample.seats
    → (row : SealRow) → sealed (secret_at sample index) ≡ Ok row → IsRowAt sample index row
row_is sample case index within row is =
    let seat = slice_index sample.seats index in
    let bid = slice_index sample.bids index in
    let ahead = word_at (slice_index_or sample.seeds index []) sample.auction (65536 + seat) in
    let drawn = row_drawn sample.auction seat bid (drawn_onto tape_drawing [] sample.lanes ahead)
    row is in
    let tapes = drawn.0 in
    let are = drawn_each tape_drawing (λ tape. IsXTape tape) tape_is [] sample.lanes ahead tapes
    (All-nil (λ tape. IsXTape tape)) drawn.1 in
    let seat_within : (101 ≤ seat) × (seat ≤ 100 + length sample.seats) = case.seats index 0 within
    in
    let bid_within : bid < 2 ^ sample.width = case.bids index 0 (omega (arith, case.bid_count)) in
    let widest : 2 ^ sample.width ≤ 2 ^ 40 =
    pow-le-pow_right {n = 2} (omega arith) case.size.width.most in
    let long : length (lane_coms sample.auction seat bid 1 tapes) ≡ sample.lanes =
    omega (arith, length-lane_coms sample.auction seat bid 1 tapes, are.0) in
    let right : IsSealRow sample.auction sample.width sample.lanes
    (row_with sample.auction seat bid tapes) = record {
      seal = record {
        id = case.id;
        some_seat = omega (arith, seat_within.0);
        last_seat = omega (arith, seat_within.1, case.few_seals);
        count = record {
          least = omega (arith, long, case.size.lanes.least);
          most = omega (arith, long, case.size.lanes.most);
        };
        coms = coms_are sample.auction seat bid 1 tapes;
      };
      secret = record {
        id = case.id;
        some_seat = omega (arith, seat_within.0);
        last_seat = omega (arith, seat_within.1, case.few_seals);
        small_bid = omega (arith, bid_within, widest);
        count = record {
          least = omega (arith, are.0, case.size.lanes.least);
          most = omega (arith, are.0, case.size.lanes.most);
        };
        tapes = recursion_from_All (λ tape. IsXTape tape) tapes are.1;
      };
      id = refl;
      count = long;
      matched = made_matches (row_with sample.auction seat bid tapes).secret;
      small_bid = bid_within;
    } in
    let made : IsRowAt sample index (row_with sample.auction seat bid tapes) =
    record { right = right; seat_is = refl; bid_is = refl } in
    subst (IsRowAt sample index) drawn.2 made
