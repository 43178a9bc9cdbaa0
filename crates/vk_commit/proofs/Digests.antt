-- A digest is 32 bytes.
use Rattle.std.proofs.Common.{ℕ, zero, suc, ◌<◌, List, [], ◌∷◌, ◌++◌, slice_index, arith}
use Rattle.std.specs.Int.{w32, to_be_bytes}
use Rattle.sha2.specs.Sha256.{sha256, digest_bytes}
use Rattle.sha2.proofs.Facts256.{length-sha256}
use Rattle.vk_commit.specs.Values.{AreBytes}

below_in_both : (xs ys : List ℕ) → ((i : ℕ) → slice_index xs i < 256)
    → ((i : ℕ) → slice_index ys i < 256)
    → (i : ℕ) → slice_index (xs ++ ys) i < 256
below_in_both [] ys in_xs in_ys i = in_ys i
below_in_both (x ∷ xs) ys in_xs in_ys zero = in_xs zero
below_in_both (x ∷ xs) ys in_xs in_ys (suc i) = below_in_both xs ys (λ k. in_xs (suc k)) in_ys i

word_is_bytes : (n i : ℕ) → slice_index (to_be_bytes w32 n) i < 256
word_is_bytes n zero = omega arith
word_is_bytes n (suc zero) = omega arith
word_is_bytes n (suc (suc zero)) = omega arith
word_is_bytes n (suc (suc (suc zero))) = omega arith
word_is_bytes n (suc (suc (suc (suc i)))) = omega arith

words_are_bytes : (words : List ℕ) (n i : ℕ) → slice_index (digest_bytes words n) i < 256
unfolding digest_bytes
words_are_bytes words zero i = omega arith
words_are_bytes words (suc n) i =
    below_in_both (digest_bytes words n) (to_be_bytes w32 (slice_index words n))
    (words_are_bytes words n) (word_is_bytes (slice_index words n)) i

pub digest_is_bytes : (message : List ℕ) → AreBytes 32 (sha256 message)
unfolding sha256
digest_is_bytes message = (length-sha256 message, words_are_bytes _ 8)
