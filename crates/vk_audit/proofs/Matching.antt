-- A secret has at most one seal on a board, so of its seal one answer alone holds.
use Rattle.std.proofs.Common.{◌≡◌, ◌≢◌, ℕ, ◌+◌, ◌<◌, All, [], length, get_or, Result, Err, sym, ap, subst, ◌∙◌, arith}
use Rattle.std.specs.Prelude.{IsOk, slice_get}
use Rattle.std.proofs.lemmas.List.{get_or-map}
use Rattle.std.proofs.lemmas.Option.{get_or_from_slice_get, same_Some, slice_get_within}
use Rattle.vk_seal.specs.declared.matching.Mismatch.{Mismatch as MismatchKind}
use Rattle.vk_seal.specs.declared.secret.Secret.{Secret}
use Rattle.vk_seal.specs.Match.{match_of}
use Rattle.vk_seal.proofs.SealsMatch.{match_exact}
use Rattle.vk_board.specs.declared.board.SealLines.{SealLines}
use Rattle.vk_board.specs.declared.front.Front.{Front}
use Rattle.vk_board.specs.Values.{AreSeals}
use Rattle.vk_board.proofs.Winners.{seat_found}
use Rattle.vk_bids.specs.declared.confrontation.Confrontation.{Confrontation}
use Rattle.vk_bids.specs.declared.confrontation.Confrontation.TheVariants.{Refused, Same, Malformed, NoSeal, Mismatch, Clash, Held}
use Rattle.vk_bids.specs.declared.extraction.Extracted.{Extracted}
use Rattle.vk_bids.specs.Binding.{HasMismatch, IsConfrontationOf, IsSealAt, IsSealOf, seal_with}
use Rattle.vk_bids.specs.Confrontation.{no_seal}

no_fault : (mismatch : MismatchKind) → IsOk {T = Unit {0}} {E = MismatchKind} (Err mismatch) → ⊥
no_fault mismatch ok = cc

module _ (front : Front) (secret : Secret) where
  seat_at : (index : ℕ) (at : IsSealAt front secret index) → (index < length front.seals)
      × ((get_or front.seals index no_seal).seat ≡ secret.seat)
  seat_at index at = (
    slice_get_within front.seals index at.lines at.on_board,
    ap (λ (l : SealLines). l.seat)
        (get_or_from_slice_get front.seals index at.lines no_seal at.on_board) ∙ at.seat,
  )

  none_there : (index : ℕ) → IsSealAt front secret index
      → All (λ lines. lines.seat ≢ secret.seat) front.seals → ⊥
  none_there index at none = let is = seat_at index at in none index no_seal is.0 is.1

  module _ (are : AreSeals front.head front.seals) where
    same_place : (index other : ℕ) → IsSealAt front secret index → IsSealAt front secret other
        → index ≡ other
    same_place index other at there =
        let seat_of : SealLines → ℕ = λ seal. seal.seat in
        let one = seat_at index at in
        let another = seat_at other there in
        let first = seat_found front.head.lanes secret.seat 0 index [] front.seals are.each one.0
        (get_or-map seat_of front.seals index no_seal 0 one.0
        ∙ one.1) in
        let second = seat_found front.head.lanes secret.seat 0 other [] front.seals are.each
        another.0
        (get_or-map seat_of front.seals other no_seal 0 another.0 ∙ another.1) in
        let same : 0 + index ≡ 0 + other = same_Some (0 + index) (0 + other) (sym first ∙ second) in
        omega (arith, same)

    same_lines : (index other : ℕ) (at : IsSealAt front secret index)
        (there : IsSealAt front secret other) → at.lines ≡ there.lines
    same_lines index other at there =
        same_Some at.lines there.lines
        (sym at.on_board ∙ (ap (λ i. slice_get front.seals i) (same_place index other at there)
        ∙ there.on_board))

    -- no seal is the secret's where one of its seat differs from it
    never_both : (mismatch : MismatchKind) (index : ℕ) → HasMismatch front secret mismatch
        → IsSealOf front secret index → ⊥
    never_both mismatch index has seal =
        let lines = same_lines has.index index has.stands seal.stands in
        let ok : IsOk (match_of secret (seal_with front seal.stands.lines)) =
        (match_exact secret (seal_with front seal.stands.lines)).1 seal.matches in
        let differs : match_of secret (seal_with front seal.stands.lines) ≡ Err mismatch =
        ap (λ l. match_of secret (seal_with front l)) (sym lines)
        ∙ has.differs in
        no_fault mismatch (subst IsOk differs ok)

    mismatch_same : (one another : MismatchKind) → HasMismatch front secret one
        → HasMismatch front secret another → one ≡ another
    mismatch_same one another has other =
        let lines = same_lines has.index other.index has.stands other.stands in
        let same : ◌≡◌ {A = Result (Unit {0}) MismatchKind} (Err one) (Err another) =
        sym has.differs ∙ (ap (λ l. match_of secret (seal_with front l)) lines ∙ other.differs) in
        cc

-- ---- against the bids that are found

module _ (secret : Secret) (found : Extracted) where
  -- where no seal has the seat, that is the answer
  pub no_seal_alone : (seat : ℕ) (confrontation : Confrontation) → seat ≡ secret.seat
      → All (λ lines. lines.seat ≢ secret.seat) found.front.seals
      → IsConfrontationOf secret found confrontation → confrontation ≡ NoSeal seat
  no_seal_alone seat (Refused second verdict) seat_is none is = absurd is
  no_seal_alone seat Same seat_is none is = absurd is
  no_seal_alone seat (Malformed line) seat_is none is = absurd is
  no_seal_alone seat (NoSeal other) seat_is none is = ap NoSeal (is.0 ∙ sym seat_is)
  no_seal_alone seat (Mismatch mismatch) seat_is none is =
      absurd (none_there found.front secret is.index is.stands none)
  no_seal_alone seat (Clash clash) seat_is none is =
      absurd (none_there found.front secret is.index is.seal.stands none)
  no_seal_alone seat (Held other) seat_is none is =
      absurd (none_there found.front secret is.1.index is.1.seal.stands none)

  -- where the seal of the seat isn't the secret's, that is the answer
  pub mismatch_alone : (mismatch : MismatchKind) (confrontation : Confrontation)
      → AreSeals found.front.head found.front.seals
      → HasMismatch found.front secret mismatch
      → IsConfrontationOf secret found confrontation → confrontation ≡ Mismatch mismatch
  mismatch_alone mismatch (Refused second verdict) are has is = absurd is
  mismatch_alone mismatch Same are has is = absurd is
  mismatch_alone mismatch (Malformed line) are has is = absurd is
  mismatch_alone mismatch (NoSeal seat) are has is =
      absurd (none_there found.front secret has.index has.stands is.1)
  mismatch_alone mismatch (Mismatch other) are has is =
      ap Mismatch (mismatch_same found.front secret are other mismatch is has)
  mismatch_alone mismatch (Clash clash) are has is =
      absurd (never_both found.front secret are mismatch is.index has is.seal)
  mismatch_alone mismatch (Held seat) are has is =
      absurd (never_both found.front secret are mismatch is.1.index has is.1.seal)
