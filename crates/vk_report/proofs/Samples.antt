-- What the sample of every number has.
use Rattle.std.proofs.Common.{◌≡◌, ◌≢◌, ◌⊎◌, ℕ, ◌+◌, ◌^◌, ◌<◌, ◌≤◌, not, List, length, map, take, slice_index, arith, refl, subst, sym, ◌∙◌, inl, inr}
use Rattle.std.specs.List.{All, AllPairs}
use Rattle.std.specs.Int.{w16, w32, from_be_bytes}
use Rattle.std.proofs.lemmas.Bool.{cases_lt}
use Rattle.std.proofs.lemmas.List.{get_or-take, get_or_past, length-map, length-take-le}
use Rattle.std.proofs.lemmas.List.FromFn.{length-map-range_with_len, get_or-map-range_with_len}
use Rattle.vk_residue.specs.Limits.{IsWidth}
use Rattle.vk_commit.specs.Values.{AreBytes}
use Rattle.vk_commit.proofs.Digests.{digest_is_bytes}
use Rattle.vk_report.proofs.BitCounts.{leading_count}
use Rattle.vk_report.specs.declared.sample.SampleCase.{SampleCase}
use Rattle.vk_report.specs.declared.sample.Sizes.{Sizes}
use Rattle.vk_report.specs.Samples.{AreSizes, IsCaseOf, IsSampleCase, auction_sizes, bid_of, bidder_seed, case_of, digest_at, first_bits, front_number, of_each_seal, sample_of, seat_of}

-- the first of so many bytes
first_bytes : (count most : ℕ) (bytes : List ℕ) → count ≤ most → AreBytes most bytes
    → AreBytes count (take count bytes)
first_bytes count most bytes within are = (
  length-take-le count bytes (rw are.0 within),
  λ i. elim (cases_lt i count) [
    | inl inside ↦ rw (get_or-take count bytes i 0 inside) (are.1 i)
    | inr past ↦ rw (get_or_past (take count bytes) i 0
        (rw (length-take-le count bytes (rw are.0 within)) past)) (omega arith)
  ],
)

-- 4 bytes are a number below 2^32
word_is_small : (bytes : List ℕ) → ((i : ℕ) → slice_index bytes i < 256)
    → from_be_bytes w32 bytes < 2 ^ 32
word_is_small bytes small =
    omega (arith, small 0, small 1, small 2, small 3)

-- 2 bytes are a number below 2^16
half_is_small : (bytes : List ℕ) → ((i : ℕ) → slice_index bytes i < 256)
    → from_be_bytes w16 bytes < 2 ^ 16
half_is_small bytes small =
    omega (arith, small 0, small 1)

-- the first bytes of a digest are a number below 2^width
front_is_small : (width : ℕ) (digest : List ℕ) → AreBytes 32 digest → (width ≡ 8) ⊎ (width ≡ 16)
    ⊎ (width ≡ 32) → front_number width digest < 2 ^ width
front_is_small width digest are wide = elim wide [
  | inl is ↦ rw is (are.1 0)
  | inr (inl is) ↦ rw is (half_is_small (take 2 digest)
      (first_bytes 2 32 digest (omega arith) are).1)
  | inr (inr is) ↦ rw is (word_is_small (take 4 digest)
      (first_bytes 4 32 digest (omega arith) are).1)
]

-- so many bits as lanes
first_count : (sizes : Sizes) (number : ℕ) → AreSizes sizes
    → length (first_bits sizes number) ≡ sizes.lanes
unfolding first_bits digest_at
first_count sizes number are =
    let digest = digest_at sizes.letters number 2 in
    let bytes : length digest ≡ 32 = (digest_is_bytes _).0 in
    leading_count sizes.lanes digest bytes (omega (arith, are.lanes.most))

-- what is true of each seal's is true of all of them
of_all : {X : Type 0} (P : X → Type 0) (seals : ℕ) (of_seal : ℕ → X)
    → ((seal : ℕ) → 1 ≤ seal → seal ≤ seals → P (of_seal seal)) → All P (of_each_seal seals of_seal)
of_all P seals of_seal each i d within =
    let inside : i < seals = subst (λ count. i < count) (length-map-range_with_len of_seal 1 seals)
    within in
    rw (get_or-map-range_with_len of_seal 1 seals i (1 + i) d inside refl)
    (each (1 + i) (omega arith) (omega arith))

-- the seats are all different
seats_differ : (seals : ℕ) → AllPairs (λ earlier later. earlier ≢ later)
    (of_each_seal seals seat_of)
seats_differ seals i j d before within =
    let inside : j < seals = subst (λ count. j < count) (length-map-range_with_len seat_of 1 seals)
    within in
    rw (get_or-map-range_with_len seat_of 1 seals i (1 + i) d (omega arith) refl)
    (rw (get_or-map-range_with_len seat_of 1 seals j (1 + j) d inside refl)
    (λ same. omega (arith, same)))

-- the width is one that bids may have
wide_enough : (width : ℕ) → (width ≡ 8) ⊎ (width ≡ 16) ⊎ (width ≡ 32) → IsWidth width
wide_enough width wide = elim wide [
  | inl is ↦ record { least = omega (arith, is); most = omega (arith, is) }
  | inr (inl is) ↦ record { least = omega (arith, is); most = omega (arith, is) }
  | inr (inr is) ↦ record { least = omega (arith, is); most = omega (arith, is) }
]

pub is_case : (sizes : Sizes) → AreSizes sizes → (number : ℕ)
    → IsCaseOf sizes (case_of sizes number)
unfolding case_of digest_at bid_of
is_case sizes are number =
    let letters = sizes.letters in
    let seals = sizes.seals in
    let count : length (of_each_seal seals seat_of) ≡ seals =
    length-map-range_with_len seat_of 1 seals in
    let bits = first_count sizes number are in
    let turned : length (map not (first_bits sizes number)) ≡ sizes.lanes =
    length-map (first_bits sizes number) not ∙ bits in
    record {
      right = record {
        size = record { width = wide_enough sizes.width are.width; lanes = are.lanes };
        id = first_bytes 16 32 (digest_at letters number 0) (omega arith) (digest_is_bytes _);
        seed = digest_is_bytes _;
        some_seal = omega (arith, count, are.some_seal);
        few_seals = omega (arith, count, are.few_seals);
        seats = of_all (λ seat. (101 ≤ seat) × (seat ≤ 100 + length (of_each_seal seals seat_of)))
            seals seat_of (λ seal some few. (omega arith, omega (arith, count)));
        seats_differ = seats_differ seals;
        seed_count = length-map-range_with_len (bidder_seed sizes number) 1 seals ∙ sym count;
        seeds = of_all (AreBytes 32) seals (bidder_seed sizes number)
            (λ seal some few. digest_is_bytes _);
        bid_count = length-map-range_with_len (bid_of sizes number) 1 seals ∙ sym count;
        bids = of_all (λ bid. bid < 2 ^ sizes.width) seals (bid_of sizes number)
            (λ seal some few. front_is_small sizes.width (digest_at letters number (64 + seal))
            (digest_is_bytes _) are.width);
        first = record {
          some_bit = omega (arith, bits, are.lanes.least);
          few_bits = omega (arith, bits, are.lanes.most);
        };
        first_count = bits;
        second = record {
          some_bit = omega (arith, turned, are.lanes.least);
          few_bits = omega (arith, turned, are.lanes.most);
        };
        second_count = turned;
        turned = refl;
      };
      width_is = refl;
      lanes_are = refl;
      seals_are = count;
    }

-- the case of sizes that there are is one of them
pub made_is_case : (sizes : Sizes) (number : ℕ) (case : SampleCase) → AreSizes sizes
    → case ≡ case_of sizes number → IsCaseOf sizes case
made_is_case sizes number case are is = subst (IsCaseOf sizes) (sym is) (is_case sizes are number)

auction_are : AreSizes auction_sizes
auction_are = record {
  letters = refl;
  some_seal = omega arith;
  few_seals = omega arith;
  width = inr (inr refl);
  lanes = record { least = omega arith; most = omega arith };
}

pub sample_is_case : (number : ℕ) → IsSampleCase (sample_of number)
sample_is_case number = is_case auction_sizes auction_are number
