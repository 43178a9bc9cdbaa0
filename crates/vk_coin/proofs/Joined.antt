-- The bits that the shares of a coin are together.
use Rattle.std.proofs.Common.{◌≡◌, ℕ, ◌≤◌, List, [], ◌∷◌, length, map, take, drop, get_or, sym, ap, ◌∙◌, arith}
use Rattle.std.specs.List.{All}
use Rattle.std.proofs.lemmas.List.Elements.{All-drop, All-map, All-take, All-weaker}
use Rattle.std.proofs.lemmas.Option.{slice_get-get_or}
use Rattle.vk_reply.specs.Values.{IsChallenge}
use Rattle.vk_coin.specs.declared.coin.Coin.{Coin}
use Rattle.vk_coin.specs.declared.share.Share.{Share}
use Rattle.vk_coin.specs.Bits.{HaveBits, joint_of}
use Rattle.vk_coin.specs.Coins.{IsCoin, joint_challenge}
use Rattle.vk_coin.proofs.Xors.{joint_count}

-- each share has so many bits
all_have : (coin : Coin) → IsCoin coin → All (λ share. length share.bits ≡ coin.bits) coin.shares
all_have coin is index share within =
    (is.shares index (get_or coin.shares index share)
    (slice_get-get_or coin.shares index share within)).bits

-- those after the first have as many as the first
pub others_have : (coin : Coin) (shares : List Share) (first : Share) (bits count : ℕ) → IsCoin coin
    → shares ≡ coin.shares → get_or shares 0 first ≡ first → bits ≡ length first.bits
    → HaveBits bits (map (λ share. share.bits) (take count (drop 1 shares)))
others_have coin shares first bits count is all begins long =
    let own : length first.bits ≡ coin.bits =
    ap (λ share. length share.bits) (sym begins ∙ ap (λ xs. get_or xs 0 first) all)
    ∙ all_have coin is 0 first (omega arith) in
    All-map (λ list. length list ≡ bits) (λ share. share.bits) (take count (drop 1 shares))
    (All-take (λ share. length share.bits ≡ bits) count (drop 1 shares)
    (All-drop (λ share. length share.bits ≡ bits) 1 shares
    (rw all (All-weaker (λ share. length share.bits ≡ coin.bits) (λ share. length share.bits ≡ bits)
    (λ share same. same ∙ sym own ∙ sym long) coin.shares (all_have coin is)))))

joint_length : (shares : List Share) (count : ℕ) → 1 ≤ length shares
    → All (λ share. length share.bits ≡ count) shares
    → length (joint_of (map (λ share. share.bits) shares)) ≡ count
joint_length [] count some have = absurd (omega arith)
joint_length (first ∷ others) count some have =
    joint_count first.bits (map (λ share. share.bits) others) ∙ have 0 first (omega arith)

-- so the joint challenge is one
pub joint_is_challenge : (coin : Coin) → IsCoin coin → IsChallenge (joint_challenge coin)
joint_is_challenge coin is =
    let some = is.auditors.least in
    let one_each = is.one_each in
    let long = joint_length coin.shares coin.bits (omega arith) (all_have coin is) in
    let least = is.bits.least in
    let most = is.bits.most in
    record { some_bit = omega arith; few_bits = omega arith }
