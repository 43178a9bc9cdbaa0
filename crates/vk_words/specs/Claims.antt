-- The kinds of claims, by the words that name them, and what a command on claims is to do.
use Rattle.std.specs.Prelude.{ℕ, if◌then◌else◌, List, codes, Option, Some, None}
use Rattle.std.specs.Str.{bytes_eq}
use Rattle.vk_words.specs.declared.audits.ClaimOrder.{ClaimOrder}
use Rattle.vk_words.specs.declared.audits.ClaimOrder.TheVariants as orders
use Rattle.vk_words.specs.declared.claim.Kind.{Kind}
use Rattle.vk_words.specs.declared.claim.Kind.TheVariants.{Uniform, Matching}
use Rattle.vk_words.specs.Names.{ExtractWords, VerifyWords, extract_seen, verify_seen}

-- the word of a kind
abbrev pub kind_word : Kind → List ℕ
kind_word Uniform = codes "uniform"
kind_word Matching = codes "matching"

-- the kind that a word names
abbrev pub kind_named : List ℕ → Option Kind
kind_named word =
    if bytes_eq word (codes "uniform") then Some Uniform
    else if bytes_eq word (codes "matching") then Some Matching
    else None

-- what is to be done, by the names of the files
pub data ClaimWords : Type 0 where
  Verify : VerifyWords → ClaimWords
  Extract : ExtractWords → ClaimWords

abbrev pub claim_order_seen : ClaimOrder → ClaimWords
claim_order_seen (orders.Verify names) = Verify (verify_seen names)
claim_order_seen (orders.Extract names) = Extract (extract_seen names)
