-- Seals have the commitments of their secrets.
use Rattle.std.proofs.Common.{◌≡◌, ℕ, zero, suc, ◌+◌, ◌-◌, ◌<◌, ◌≤◌, List, [], ◌∷◌, length, get_or, refl, sym, ap, ◌∙◌, arith}
use Rattle.std.specs.Prelude.{IsOk, slice_index_or}
use Rattle.vk_row.specs.Lanes.{no_digests}
use Rattle.vk_seal.specs.Made.{lane_com, lane_coms, seal_of}
use Rattle.vk_seal.specs.Match.{match_of}
use Rattle.vk_seal.specs.declared.secret.Seal.{Seal}
use Rattle.vk_seal.specs.declared.secret.XTape.{XTape}
use Rattle.vk_seal.proofs.SealsMatch.{match_exact}
use Rattle.vk_extractor.specs.Confronting.{no_tape, secret_com, tape_in}
use Rattle.vk_keeper.specs.Auctions.{IsSealRow}
use Rattle.vk_keeper.specs.declared.auction.SealRow.{SealRow}
use Rattle.vk_job.proofs.Drawing.{lanes_of}

-- the commitments of a lane
lane_coms_at : (auction : List ℕ) (seat bid lane at : ℕ) (tapes : List XTape) → at < length tapes
    → get_or (lane_coms auction seat bid lane tapes) at no_digests
    ≡ lane_com auction seat bid (lane + at) (get_or tapes at no_tape)
lane_coms_at auction seat bid lane at [] within = absurd (omega arith)
lane_coms_at auction seat bid lane zero (tape ∷ tapes) within =
    let same : lane ≡ lane + zero = omega arith in
    ap (λ n. lane_com auction seat bid n tape) same
lane_coms_at auction seat bid lane (suc at) (tape ∷ tapes) within =
    let same : lane + 1 + at ≡ lane + suc at = omega arith in
    lane_coms_at auction seat bid (lane + 1) at tapes (omega arith)
    ∙ ap (λ n. lane_com auction seat bid n (get_or tapes at no_tape)) same

module _ (id : List ℕ) (width lanes : ℕ) (row : SealRow) (is : IsSealRow id width lanes row) where
  -- the seal is that of the secret
  seal_is : row.seal ≡ seal_of row.secret
  seal_is = let ok : IsOk (match_of row.secret row.seal) = rw is.matched refl in
      (match_exact row.secret row.seal).0 ok

  pub same_auction : row.secret.auction ≡ id
  same_auction = sym (ap (λ (seal : Seal). seal.auction) seal_is) ∙ is.id

  pub same_seat : row.secret.seat ≡ row.seal.seat
  same_seat = sym (ap (λ (seal : Seal). seal.seat) seal_is)

  -- its commitments in a lane are those of the secret
  pub seal_commits : (lane : ℕ) → 1 ≤ lane → lane ≤ lanes
      → slice_index_or row.seal.lanes (lane - 1) no_digests ≡ secret_com row.secret lane
  seal_commits lane some within =
      let secret = row.secret in
      let number : 1 + (lane - 1) ≡ lane = omega arith in
      ap (λ (seal : Seal). slice_index_or seal.lanes (lane - 1) no_digests) seal_is
      ∙ (lane_coms_at secret.auction secret.seat secret.bid 1 (lane - 1) secret.lanes
      (omega (arith, lanes_of id width lanes row is))
      ∙ ap (λ n. lane_com secret.auction secret.seat secret.bid n (tape_in secret lane)) number)
