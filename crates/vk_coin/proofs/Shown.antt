-- The shares of a coin, in turn and each at its place.
use Rattle.std.proofs.Common.{◌≡◌, ℕ, ◌+◌, List, [], length, slice_get, Some, arith, subst}
use Rattle.vk_lines.specs.Forms.{EachAfter}
use Rattle.vk_lines.proofs.Each.{at_from_each, each_from_at}
use Rattle.vk_coin.specs.Coins.{IsShareOf}
use Rattle.vk_coin.specs.declared.share.Share.{Share}

pub shares_at_places : (auction : List ℕ) (bits : ℕ) (shares : List Share)
    → EachAfter (λ before. IsShareOf auction bits (length before + 1)) [] shares
    → (index : ℕ) (share : Share) → slice_get shares index ≡ Some share
    → IsShareOf auction bits (index + 1) share
shares_at_places auction bits shares each index share some =
    let N : ℕ → Type 0 = λ n. IsShareOf auction bits (n + 1) share in
    let same : 0 + index ≡ index = omega arith in
    subst N same (at_from_each (λ n. IsShareOf auction bits (n + 1)) [] shares each index share
    some)

pub shares_in_turn : (auction : List ℕ) (bits : ℕ) (shares : List Share)
    → ((index : ℕ) (share : Share) → slice_get shares index ≡ Some share
    → IsShareOf auction bits (index + 1) share)
    → EachAfter (λ before. IsShareOf auction bits (length before + 1)) [] shares
shares_in_turn auction bits shares at =
    each_from_at (λ n. IsShareOf auction bits (n + 1)) [] shares (λ index share some.
    let N : ℕ → Type 0 = λ n. IsShareOf auction bits (n + 1) share in
    let same : index ≡ 0 + index = omega arith in
    subst N same (at index share some))
