use Rattle.std.proofs.Common.{◌≡◌, ◌<◌, ℕ, List, [], ◌∷◌, length, map, take, drop, slice_index_or, ap, ◌∙◌, arith}
use Rattle.sha2.specs.Sha256.{compress, padded_message, sha256}
use Rattle.vk_digests.specs.Lanes.{lane}
use Rattle.vk_digests.proofs.PaddedMessages.{Hash, digest_of_hash}
use Rattle.vk_digests.proofs.hashing.digests.Goals as goal

-- four values are those of the four items
mapped_four : (f : List ℕ → List ℕ) (items : List (List ℕ)) → length items ≡ 4 → (a b c d : List ℕ)
    → a ≡ f (slice_index_or items 0 []) → b ≡ f (slice_index_or items 1 [])
    → c ≡ f (slice_index_or items 2 []) → d ≡ f (slice_index_or items 3 [])
    → a ∷ b ∷ c ∷ d ∷ [] ≡ map f items
mapped_four f (w ∷ x ∷ y ∷ z ∷ []) four a b c d at_a at_b at_c at_d = rw (at_a, at_b, at_c, at_d)
mapped_four f [] four a b c d at_a at_b at_c at_d = absurd (omega arith)
mapped_four f (w ∷ []) four a b c d at_a at_b at_c at_d = absurd (omega arith)
mapped_four f (w ∷ x ∷ []) four a b c d at_a at_b at_c at_d = absurd (omega arith)
mapped_four f (w ∷ x ∷ y ∷ []) four a b c d at_a at_b at_c at_d = absurd (omega arith)
mapped_four f (w ∷ x ∷ y ∷ z ∷ v ∷ rest) four a b c d at_a at_b at_c at_d = absurd (omega arith)

pub returns : goal.returns
returns c =
    let messages = c.args.messages.now in
    let sizes = c.last_word.ensures.sizes in
    let hashed : (j : ℕ) → j < 4
    → Hash (slice_index_or messages j []) (lane j c.compress_last-hash.result) =
    λ j lt.
    let first = c.compress-first.ensures j lt _ (c.first_words.ensures j lt (sizes j lt)) in
    let last = c.compress_last-hash.ensures j lt _ (sizes j lt) (c.last_word.ensures.words j lt) in
    last ∙ ap (λ hash. compress hash (drop 64 (padded_message (slice_index_or messages j []))))
    (first ∙ ap (λ hash. compress hash (take 64 (padded_message (slice_index_or messages j []))))
    (c.initial_hash.ensures j lt)) in
    mapped_four sha256 messages c.told-messages _ _ _ _
    (c.digest.ensures ∙ digest_of_hash _ _ (sizes 0 (omega arith)) (hashed 0 (omega arith)))
    (c.digest-2.ensures ∙ digest_of_hash _ _ (sizes 1 (omega arith)) (hashed 1 (omega arith)))
    (c.digest-3.ensures ∙ digest_of_hash _ _ (sizes 2 (omega arith)) (hashed 2 (omega arith)))
    (c.digest-4.ensures ∙ digest_of_hash _ _ (sizes 3 (omega arith)) (hashed 3 (omega arith)))
