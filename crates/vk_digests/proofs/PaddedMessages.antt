-- The two blocks of a padded message of 68 bytes.
use Rattle.std.proofs.Common.{◌≡◌, ◌+◌, ◌*◌, ◌/◌, ◌≤◌, ℕ, zero, suc, List, [], ◌∷◌, ◌++◌, length, take, drop, arith, refl, sym, ap, ap₂, ◌∙◌, length-append, length-drop}
use Rattle.std.proofs.lemmas.List.{take-append-le, drop-append-le, take_all, get_or-take, get_or-drop}
use Rattle.sha2.specs.Sha256.{padding, padded_message, compress, digest_bytes, first_words, hash_after, initial_hash_256, sha256, word_at}

-- the first has none of the padding
pub first_block_is : (message : List ℕ) → length message ≡ 68
    → take 64 (padded_message message) ≡ take 64 message
first_block_is message size = take-append-le 64 message (padding (length message)) (omega arith)

-- the last is four bytes, and the padding of 68
pub last_block_is : (message : List ℕ) → length message ≡ 68
    → drop 64 (padded_message message) ≡ drop 64 message ++ padding 68
last_block_is message size = drop-append-le 64 message (padding (length message)) (omega arith)
    ∙ ap (λ n. drop 64 message ++ padding n) size

-- ---- their words

-- a word of what a list begins with
word_in_front : (list : List ℕ) (count at : ℕ) → at + 4 ≤ count
    → word_at (take count list) at ≡ word_at list at
word_in_front list count at within = rw (
  get_or-take count list at 0 (omega arith),
  get_or-take count list (at + 1) 0 (omega arith),
  get_or-take count list (at + 2) 0 (omega arith),
  get_or-take count list (at + 3) 0 (omega arith),
) refl

words_in_front : (list : List ℕ) (count words : ℕ) → 4 * words ≤ count
    → first_words (take count list) words ≡ first_words list words
unfolding first_words
words_in_front list count zero within = refl
words_in_front list count (suc words) within =
    ap₂ (λ before word. before ++ word ∷ []) (words_in_front list count words (omega arith))
    (word_in_front list count (4 * words) (omega arith))

-- those of the first are the message's first sixteen
pub first_words_of : (message : List ℕ) → length message ≡ 68
    → first_words (take 64 (padded_message message)) 16 ≡ first_words message 16
first_words_of message size = ap (λ block. first_words block 16) (first_block_is message size)
    ∙ words_in_front message 64 16 (omega arith)

-- the words of a block that ends with the padding of 68
padded_words : (rest : List ℕ) → length rest ≡ 4 → first_words (rest ++ padding 68) 16
    ≡ word_at rest 0 ∷ 2147483648 ∷ 0 ∷ 0 ∷ 0 ∷ 0 ∷ 0 ∷ 0 ∷ 0 ∷ 0 ∷ 0 ∷ 0 ∷ 0 ∷ 0 ∷ 0 ∷ 544 ∷ []
unfolding first_words
padded_words (a ∷ b ∷ c ∷ d ∷ []) four = refl
padded_words [] four = absurd (omega arith)
padded_words (a ∷ []) four = absurd (omega arith)
padded_words (a ∷ b ∷ []) four = absurd (omega arith)
padded_words (a ∷ b ∷ c ∷ []) four = absurd (omega arith)
padded_words (a ∷ b ∷ c ∷ d ∷ e ∷ rest) four = absurd (omega arith)

-- those of the last are a word of the message, and the padding's
pub last_words_of : (message : List ℕ) → length message ≡ 68
    → first_words (drop 64 (padded_message message)) 16 ≡ word_at message 64
    ∷ 2147483648 ∷ 0 ∷ 0 ∷ 0 ∷ 0 ∷ 0 ∷ 0 ∷ 0 ∷ 0 ∷ 0 ∷ 0 ∷ 0 ∷ 0 ∷ 0 ∷ 544 ∷ []
last_words_of message size =
    let end = drop 64 message in
    let word : word_at end 0 ≡ word_at message 64 = rw (
      get_or-drop 64 message 0 0,
      get_or-drop 64 message 1 0,
      get_or-drop 64 message 2 0,
      get_or-drop 64 message 3 0,
    ) refl in
    ap (λ block. first_words block 16) (last_block_is message size)
    ∙ (padded_words end (omega (arith, length-drop 64 message))
    ∙ ap (λ w. w ∷ 2147483648 ∷ 0 ∷ 0 ∷ 0 ∷ 0 ∷ 0 ∷ 0 ∷ 0 ∷ 0 ∷ 0 ∷ 0 ∷ 0 ∷ 0 ∷ 0 ∷ 544 ∷ []) word)

-- ---- the digest

-- the hash value of a message after its two blocks
abbrev pub Hash : List ℕ → List ℕ → Type 0
Hash message hash =
    hash ≡ compress (compress initial_hash_256 (take 64 (padded_message message)))
    (drop 64 (padded_message message))

-- its bytes are the digest
pub digest_of_hash : (message hash : List ℕ) → length message ≡ 68 → Hash message hash
    → digest_bytes hash 8 ≡ sha256 message
unfolding sha256 hash_after
digest_of_hash message hash size hashed =
    let p = padded_message message in
    let whole : length p ≡ 128 = length-append message (padding (length message))
    ∙ ap (λ n. n + length (padding n)) size in
    let blocks : length p / 64 ≡ 2 = omega arith in
    let last : take 64 (drop 64 p) ≡ drop 64 p =
    take_all 64 (drop 64 p) (omega (arith, length-drop 64 p)) in
    ap (λ (h : List ℕ). digest_bytes h 8)
    (hashed ∙ sym (ap (hash_after initial_hash_256 p) blocks
    ∙ ap (compress (compress initial_hash_256 (take 64 p))) last))
