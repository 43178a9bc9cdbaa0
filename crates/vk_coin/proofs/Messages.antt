-- What two equal messages of shares have in common: all of the shares.
use Rattle.std.proofs.Common.{◌≡◌, ℕ, suc, ◌-◌, ◌*◌, ◌/◌, ◌^◌, ◌≤◌, ◌<◌, Bool, true, false, List, [], ◌∷◌, ◌++◌, length, take, arith, refl, sym, ap, ap₂, ◌∙◌, length-append}
use Rattle.std.specs.Prelude.{codes}
use Rattle.std.specs.Int.{w16, w64, to_be_bytes, from_be_bytes}
use Rattle.std.proofs.lemmas.Nat.{from_be_bytes-to_be_bytes_2}
use Rattle.std.proofs.Math.Nat.{pow-succ'}
use Rattle.std.proofs.Math.Pow.{pow_mono, suc_ones}
use Rattle.std.proofs.Math.Seq.{take-append_seam}
use Rattle.vk_commit.proofs.Messages.{same_ends, same_number}
use Rattle.vk_coin.specs.declared.share.Share.{Share}
use Rattle.vk_coin.specs.Shares.{IsShare, bits_number, share_message, weighed}

-- ---- bits by their number

weighed_below : (weight : ℕ) (bits : List Bool) → weighed weight bits ≤ 2 * weight - 1
weighed_below weight [] = omega arith
weighed_below weight (true ∷ bits) = let rest = weighed_below (weight / 2) bits in omega arith
weighed_below weight (false ∷ bits) = let rest = weighed_below (weight / 2) bits in omega arith

-- each of the bits counts something
abbrev EachCounts : ℕ → List Bool → Type 0
EachCounts weight [] = Unit {0}
EachCounts weight (bit ∷ bits) = (1 ≤ weight) × EachCounts (weight / 2) bits

each_counts : (weight : ℕ) (bits : List Bool) → 2 ^ length bits ≤ 2 * weight
    → EachCounts weight bits
each_counts weight [] enough = tt
each_counts weight (bit ∷ []) enough = (omega arith, tt)
each_counts weight (bit ∷ next ∷ bits) enough =
    let this = pow-succ' 2 (suc (length bits)) in
    let after = pow-succ' 2 (length bits) in
    let some = suc_ones (length bits) in
    (omega arith, each_counts (weight / 2) (next ∷ bits) (omega arith))

same_bits : (weight : ℕ) (bits others : List Bool) → length bits ≡ length others
    → EachCounts weight bits → weighed weight bits ≡ weighed weight others → bits ≡ others
same_bits weight [] [] long counts same = refl
same_bits weight [] (other ∷ others) long counts same = absurd (omega arith)
same_bits weight (bit ∷ bits) [] long counts same = absurd (omega arith)
same_bits weight (true ∷ bits) (true ∷ others) long counts same =
    ap (λ bs. true ∷ bs) (same_bits (weight / 2) bits others (omega arith) counts.1 (omega arith))
same_bits weight (false ∷ bits) (false ∷ others) long counts same =
    ap (λ bs. false ∷ bs) (same_bits (weight / 2) bits others (omega arith) counts.1 (omega arith))
same_bits weight (true ∷ bits) (false ∷ others) long counts same =
    let some = counts.0 in
    let less = weighed_below (weight / 2) others in
    absurd (omega arith)
same_bits weight (false ∷ bits) (true ∷ others) long counts same =
    let some = counts.0 in
    let less = weighed_below (weight / 2) bits in
    absurd (omega arith)

-- ---- the parts of a message

same_parts : (xs ys zs ws : List ℕ) → length ys ≡ length ws → xs ++ ys ≡ zs ++ ws
    → (xs ≡ zs) × (ys ≡ ws)
same_parts xs ys zs ws long same =
    let fronts : length xs ≡ length zs =
    omega (arith, long, length-append xs ys, length-append zs ws, ap length same) in (
      sym (take-append_seam xs ys) ∙ ap₂ take fronts same ∙ take-append_seam zs ws,
      same_ends xs ys zs ws long same,
    )

same_short : (m n : ℕ) → m < 2 ^ 16 → n < 2 ^ 16 → to_be_bytes w16 m ≡ to_be_bytes w16 n → m ≡ n
same_short m n fits_m fits_n same =
    sym (from_be_bytes-to_be_bytes_2 m fits_m) ∙ ap (from_be_bytes w16) same
    ∙ from_be_bytes-to_be_bytes_2 n fits_n

-- the message up to the auction, the auditor, the number of bits, and the key
abbrev to_auction : Share → List ℕ
to_auction share = codes "VKJ1" ++ share.auction

abbrev to_auditor : Share → List ℕ
to_auditor share = to_auction share ++ to_be_bytes w16 share.auditor

abbrev to_count : Share → List ℕ
to_count share = to_auditor share ++ to_be_bytes w16 (length share.bits)

abbrev to_key : Share → List ℕ
to_key share = to_count share ++ share.key

abbrev made : List ℕ → ℕ → List Bool → List ℕ → Share
made auction auditor bits key =
    record { auction = auction; auditor = auditor; bits = bits; key = key }

-- shares of the same fields are one
same_fields : (first second : Share) → first.auction ≡ second.auction
    → first.auditor ≡ second.auditor → first.bits ≡ second.bits → first.key ≡ second.key
    → first ≡ second
same_fields first second auction auditor bits key =
    ap₂ (λ a n. made a n first.bits first.key) auction auditor
    ∙ ap₂ (made second.auction second.auditor) bits key

number_fits : (bits : List Bool) → bits_number bits < 2 ^ 64
number_fits bits = let below = weighed_below (2 ^ 63) bits in omega arith

pub same_share : (first second : Share) → IsShare first → IsShare second
    → share_message first ≡ share_message second → first ≡ second
same_share first second is_first is_second same =
    let number = same_parts (to_key first) (to_be_bytes w64 (bits_number first.bits))
    (to_key second) (to_be_bytes w64 (bits_number second.bits)) refl same in
    let key = same_parts (to_count first) first.key (to_count second) second.key
    (is_first.key.0 ∙ sym is_second.key.0) number.0 in
    let count = same_parts (to_auditor first) (to_be_bytes w16 (length first.bits))
    (to_auditor second) (to_be_bytes w16 (length second.bits)) refl key.0 in
    let auditor = same_parts (to_auction first) (to_be_bytes w16 first.auditor) (to_auction second)
    (to_be_bytes w16 second.auditor) refl count.0 in
    let auction = same_parts (codes "VKJ1") first.auction (codes "VKJ1") second.auction
    (is_first.id.0 ∙ sym is_second.id.0) auditor.0 in
    let few = is_first.count.most in
    let few_too = is_second.count.most in
    let one = is_first.auditor.most in
    let other = is_second.auditor.most in
    let long = same_short (length first.bits) (length second.bits) (omega arith) (omega arith)
    count.1 in
    let value = same_number (bits_number first.bits) (bits_number second.bits)
    (number_fits first.bits) (number_fits second.bits) number.1 in
    same_fields first second auction.1
    (same_short first.auditor second.auditor (omega arith) (omega arith) auditor.1)
    (same_bits (2 ^ 63) first.bits second.bits long (each_counts (2 ^ 63) first.bits (pow_mono few))
    value) key.1

pub message_length : (share : Share) → IsShare share → length (share_message share) ≡ 64
message_length share is =
    let id = is.id.0 in
    let key = is.key.0 in
    omega (
      arith,
      length-append (to_key share) (to_be_bytes w64 (bits_number share.bits)),
      length-append (to_count share) share.key,
      length-append (to_auditor share) (to_be_bytes w16 (length share.bits)),
      length-append (to_auction share) (to_be_bytes w16 share.auditor),
      length-append (codes "VKJ1") share.auction,
    )
