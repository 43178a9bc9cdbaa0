-- The words of a stream: ChaCha20 (RFC 8439, section 2.3) in its original layout, with a block
-- counter of 64 bits and a stream number of 64 bits.
use Rattle.std.specs.Prelude.{ℕ, ◌+◌, ◌*◌, ◌%◌, ◌^◌, List, ◌++◌, codes}
use Rattle.sha2.specs.Sha256.{sha256}
use Rattle.rand_chacha.specs.ChaCha.{ChaCha, key_of}
use Rattle.rand_chacha.specs.ChaCha.{word_at as half_at}

-- the key: SHA-256 (FIPS 180-4) of `VKT1`, the seed and the auction's id
abbrev pub stream_key : List ℕ → List ℕ → List ℕ
stream_key seed auction = key_of (sha256 (codes "VKT1" ++ seed ++ auction))

-- the word of 64 bits at a place of 32-bit words: the word of 32 bits there is its lower half, and
-- the next its upper half. Places count modulo 2^68
abbrev pub word_from : List ℕ → ℕ → ℕ → ℕ
word_from key stream place =
    half_at 10 key stream (place % 2 ^ 68) + 2 ^ 32 * half_at 10 key stream ((place + 1) % 2 ^ 68)

-- word number i of the stream
abbrev pub word_at : List ℕ → List ℕ → ℕ → ℕ → ℕ
word_at seed auction stream i = word_from (stream_key seed auction) stream (2 * i)

-- the words that a generator of 32-bit words has ahead
abbrev pub words_ahead : ChaCha → ℕ → ℕ
words_ahead generator k = word_from generator.key generator.stream (generator.word_pos + 2 * k)
