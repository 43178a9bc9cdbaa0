-- A seal matches a secret exactly where it is the secret's seal.
use Rattle.std.proofs.Common.{◌≡◌, ℕ, ◌+◌, ◌==◌, Bool, true, false, if◌then◌else◌, List, [], ◌∷◌, length, Result, Ok, Err, refl, ap, sym, ◌∙◌, arith, subst}
use Rattle.std.specs.Prelude.{◌↔◌, IsOk}
use Rattle.std.specs.Str.{bytes_eq}
use Rattle.std.proofs.lemmas.Bool.{eqb-true}
use Rattle.std.proofs.lemmas.Bool.Decides.{Decides-eqb}
use Rattle.std.proofs.lemmas.Slice.Eq.{bytes_eq-Decides}
use Rattle.vk_wire.specs.declared.wire.WireCom.{WireCom}
use Rattle.vk_seal.specs.declared.matching.Mismatch.{Mismatch}
use Rattle.vk_seal.specs.declared.matching.Mismatch.TheVariants.{Auction, Seat, Lanes, Digest}
use Rattle.vk_seal.specs.declared.secret.XTape.{XTape}
use Rattle.vk_seal.specs.declared.secret.Secret.{Secret}
use Rattle.vk_seal.specs.declared.secret.Seal.{Seal}
use Rattle.vk_seal.specs.Made.{lane_com, lane_coms, seal_of}
use Rattle.vk_seal.specs.Match.{and_then, com_match, half_match, coms_match, match_of}
use Rattle.vk_seal.proofs.Tapes.{length-lane_coms}

same_bytes : (bytes : List ℕ) → bytes_eq bytes bytes ≡ true
same_bytes bytes = (bytes_eq-Decides bytes bytes).1 refl

com_match-same : (lane : ℕ) (kept : WireCom) → com_match lane kept kept ≡ Ok tt
com_match-same lane kept = rw (same_bytes kept.first, same_bytes kept.second) refl

pub coms_match-made : (auction : List ℕ) (seat bid lane : ℕ) (tapes : List XTape)
    → coms_match auction seat bid lane tapes (lane_coms auction seat bid lane tapes) ≡ Ok tt
coms_match-made auction seat bid lane [] = refl
coms_match-made auction seat bid lane (tape ∷ tapes) =
    ap (λ r. and_then r (coms_match auction seat bid (lane + 1) tapes
    (lane_coms auction seat bid (lane + 1) tapes)))
    (com_match-same lane (lane_com auction seat bid lane tape))
    ∙ coms_match-made auction seat bid (lane + 1) tapes

-- what a test shows
ok_if : (test : Bool) (next : Result Unit Mismatch) (e : Mismatch)
    → IsOk (if test then next else Err e) → (test ≡ true) × IsOk next
ok_if true next e ok = (refl, ok)
ok_if false next e ok = cc

ok_then : (first next : Result Unit Mismatch) → IsOk (and_then first next) → IsOk first × IsOk next
ok_then (Ok done) next ok = (refl, ok)
ok_then (Err e) next ok = cc

com_same : (kept made : WireCom) → kept.first ≡ made.first → kept.second ≡ made.second → kept ≡ made
com_same kept made first second =
    let of : List ℕ → List ℕ → WireCom = λ f s. record { first = f; second = s } in
    ap (λ f. of f kept.second) first ∙ ap (λ s. of made.first s) second

com_match-ok : (lane : ℕ) (kept made : WireCom) → IsOk (com_match lane kept made) → kept ≡ made
com_match-ok lane kept made ok =
    let both = ok_then (half_match lane false kept.first made.first)
    (half_match lane true kept.second made.second) ok in
    let first = ok_if (bytes_eq kept.first made.first) (Ok tt)
    (Digest lane false kept.first made.first) both.0 in
    let second = ok_if (bytes_eq kept.second made.second) (Ok tt)
    (Digest lane true kept.second made.second) both.1 in
    com_same kept made ((bytes_eq-Decides kept.first made.first).0 first.0)
    ((bytes_eq-Decides kept.second made.second).0 second.0)

coms_match-ok : (auction : List ℕ) (seat bid lane : ℕ) (tapes : List XTape) (coms : List WireCom)
    → length coms ≡ length tapes → IsOk (coms_match auction seat bid lane tapes coms)
    → coms ≡ lane_coms auction seat bid lane tapes
coms_match-ok auction seat bid lane [] [] same ok = refl
coms_match-ok auction seat bid lane [] (kept ∷ coms) same ok = absurd (omega arith)
coms_match-ok auction seat bid lane (tape ∷ tapes) [] same ok = absurd (omega arith)
coms_match-ok auction seat bid lane (tape ∷ tapes) (kept ∷ coms) same ok =
    let both = ok_then (com_match lane kept (lane_com auction seat bid lane tape))
    (coms_match auction seat bid (lane + 1) tapes coms) ok in
    let first = com_match-ok lane kept (lane_com auction seat bid lane tape) both.0 in
    let rest = coms_match-ok auction seat bid (lane + 1) tapes coms (omega arith) both.1 in
    ap (λ k. k ∷ coms) first ∙ ap (λ cs. lane_com auction seat bid lane tape ∷ cs) rest

seal_same : (a b : Seal) → a.auction ≡ b.auction → a.seat ≡ b.seat → a.lanes ≡ b.lanes → a ≡ b
seal_same a b auction seat lanes =
    let of : List ℕ → ℕ → List WireCom → Seal = λ i s l. record { auction = i; seat = s; lanes = l }
    in
    ap (λ i. of i a.seat a.lanes) auction ∙ ap (λ s. of b.auction s a.lanes) seat
    ∙ ap (λ l. of b.auction b.seat l) lanes

pub made_matches : (secret : Secret) → match_of secret (seal_of secret) ≡ Ok tt
made_matches secret =
    let seats : (secret.seat == secret.seat) ≡ true = (Decides-eqb secret.seat secret.seat).1 refl
    in
    let lanes : (length (seal_of secret).lanes == length secret.lanes) ≡ true =
    (Decides-eqb (length (seal_of secret).lanes) (length secret.lanes)).1
    (length-lane_coms secret.auction secret.seat secret.bid 1 secret.lanes) in
    rw (same_bytes secret.auction, seats, lanes)
    (coms_match-made secret.auction secret.seat secret.bid 1 secret.lanes)

pub match_exact : (secret : Secret) (seal : Seal) → IsOk (match_of secret seal)
    ↔ (seal ≡ seal_of secret)
match_exact secret seal = (
  λ ok.
      let auction = ok_if (bytes_eq seal.auction secret.auction) _
      (Auction seal.auction secret.auction) ok in
      let seat = ok_if (seal.seat == secret.seat) _ (Seat seal.seat secret.seat) auction.1 in
      let lanes = ok_if (length seal.lanes == length secret.lanes) _
      (Lanes (length seal.lanes) (length secret.lanes)) seat.1 in
      let coms = coms_match-ok secret.auction secret.seat secret.bid 1 secret.lanes seal.lanes
      (eqb-true (length seal.lanes) (length secret.lanes) lanes.0) lanes.1 in
      seal_same seal (seal_of secret) ((bytes_eq-Decides seal.auction secret.auction).0 auction.0)
      (eqb-true seal.seat secret.seat seat.0) coms,
  λ same.
      let P : Seal → Type 0 = λ s. IsOk (match_of secret s) in
      let ok : IsOk (match_of secret (seal_of secret)) = rw (made_matches secret) refl in
      subst P (sym same) ok,
)
