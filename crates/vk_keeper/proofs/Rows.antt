-- An auction with one more seal, and in a later phase.
use Rattle.std.proofs.Common.{◌≡◌, ◌≢◌, ℕ, ◌<◌, ◌≤◌, List, [], ◌∷◌, ◌++◌, length, length-append, Option, Some, None, IfSome, arith}
use Rattle.std.specs.List.{All, AllPairs}
use Rattle.std.proofs.lemmas.List.Elements.{All-push}
use Rattle.std.proofs.lemmas.List.Quantifiers.{all_pairs_push}
use Rattle.vk_commit.specs.Values.{AreBytes}
use Rattle.vk_reply.specs.Values.{IsChallenge}
use Rattle.vk_keeper.specs.declared.auction.SealRow.{SealRow}
use Rattle.vk_keeper.specs.declared.auction.Auction.{Auction}
use Rattle.vk_keeper.specs.declared.auction.Phase.{Phase}
use Rattle.vk_keeper.specs.Auctions.{IsAuction, IsSealRow, seed_of, challenge_of}

one_seal : (seed : Option (List ℕ)) (count : ℕ) → 1 ≤ count → IfSome seed (λ _. 1 ≤ count)
one_seal None count some = tt
one_seal (Some seed) count some = some

-- the same auction with these seals, in that phase
with_seals : (auction : Auction) (seals : List SealRow) (phase : Phase) → IsAuction auction
    → length seals ≤ 64 → All (IsSealRow auction.id auction.width auction.lanes) seals
    → AllPairs (λ earlier later. earlier.seal.seat ≢ later.seal.seat) seals
    → IfSome (seed_of phase) (λ _. 1 ≤ length seals)
    → IfSome (seed_of phase) (AreBytes 32) → IfSome (challenge_of phase) IsChallenge
    → IfSome (challenge_of phase) (λ challenge. length challenge.bits ≡ auction.lanes)
    → IsAuction (record auction { seals = seals; phase = phase })
with_seals auction seals phase is few rows seats some seed challenge bits = record {
  held = record {
    id = is.held.id;
    size = is.held.size;
    few_seals = few;
    rows = rows;
    seats = seats;
    some_seal = some;
    seed = seed;
    challenge = challenge;
    bits = bits;
  };
  terms = is.terms;
}

-- a seal of the auction, at a seat that no earlier one has
pub with_row : (auction : Auction) (row : SealRow) → IsAuction auction → length auction.seals < 64
    → IsSealRow auction.id auction.width auction.lanes row
    → All (λ earlier. earlier.seal.seat ≢ row.seal.seat) auction.seals
    → IsAuction (record auction { seals = auction.seals ++ row ∷ [] })
with_row auction row is room right seat =
    with_seals auction (auction.seals ++ row ∷ []) auction.phase is
    (omega (arith, length-append auction.seals (row ∷ [])))
    (All-push (IsSealRow auction.id auction.width auction.lanes) auction.seals row is.held.rows
    right)
    (all_pairs_push (λ earlier later. earlier.seal.seat ≢ later.seal.seat) auction.seals row
    is.held.seats seat)
    (one_seal (seed_of auction.phase) _ (omega (arith, length-append auction.seals (row ∷ []))))
    is.held.seed is.held.challenge is.held.bits

-- the same auction in a phase that has a seed, and perhaps a challenge
pub in_phase : (auction : Auction) (phase : Phase) → IsAuction auction → 1 ≤ length auction.seals
    → IfSome (seed_of phase) (AreBytes 32) → IfSome (challenge_of phase) IsChallenge
    → IfSome (challenge_of phase) (λ challenge. length challenge.bits ≡ auction.lanes)
    → IsAuction (record auction { phase = phase })
in_phase auction phase is some =
    with_seals auction auction.seals phase is is.held.few_seals is.held.rows is.held.seats
    (one_seal (seed_of phase) (length auction.seals) some)
