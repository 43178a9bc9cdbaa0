-- How large a sample's claim is, and that none of its files is too long to be read.
use Rattle.std.proofs.Common.{◌≡◌, ℕ, ◌+◌, ◌-◌, ◌*◌, ◌^◌, ◌<◌, ◌≤◌, List, [], ◌∷◌, length, map, codes, decimal, refl, arith}
use Rattle.std.proofs.lemmas.Nat.{mul-le}
use Rattle.vk_lines.specs.Forms.{line, spaced}
use Rattle.vk_lines.proofs.Words.{fixed_line, id_line_is}
use Rattle.vk_lines.proofs.Parts.{each_from_all}
use Rattle.vk_board.specs.Values.{AreSealsOf}
use Rattle.vk_reply.specs.declared.challenge.Challenge.{Challenge}
use Rattle.vk_reply.specs.Values.{IsChallenge}
use Rattle.vk_claim.specs.declared.front.ClaimHead.{ClaimHead}
use Rattle.vk_words.specs.declared.claim.Kind.{Kind}
use Rattle.vk_words.specs.declared.claim.Kind.TheVariants.{Uniform, Matching}
use Rattle.vk_words.specs.Claims.{kind_word}
use Rattle.vk_claim.specs.Values.{AreNumbers, IsClaimHead}
use Rattle.vk_claim.specs.Texts.{claim_head_text, numbers_text}
use Rattle.vk_job.specs.Proofs.{IsProof, ProofValue, file_of, lanes_shown_from, reply_in, seal_lines_of}
use Rattle.vk_job.proofs.Parts.{length_shown, reply_is}
use Rattle.vk_honest.specs.Sizes.{IsShort}
use Rattle.vk_honest.proofs.Counted.{HasLines, both_have, flat_have, line_has, lines_as}
use Rattle.vk_honest.proofs.Sizes.{file_has, number_has, reply_has, short_text}

kind_has : (kind : Kind) → HasLines 1 (line (spaced (codes "kind" ∷ kind_word kind ∷ [])))
kind_has Uniform = line_has (fixed_line (codes "kind uniform") refl (omega arith)) tt tt
kind_has Matching = line_has (fixed_line (codes "kind matching") refl (omega arith)) tt tt

numbers_have : (numbers : List ℕ) → AreNumbers numbers
    → HasLines (1 + length numbers * 1) (numbers_text numbers)
unfolding numbers_text
numbers_have numbers are =
    both_have (number_has (codes "numbers") 1 128 (length numbers) refl (omega arith) (omega arith)
    are.some are.few)
    (flat_have {IsValue = λ before number. number < 2 ^ 64}
    {text = λ number. line (spaced (codes "n" ∷ decimal number ∷ []))} 1
    (λ before number small. number_has (codes "n") 0 (2 ^ 64 - 1) number refl (omega arith)
    (omega arith) (omega arith) (omega (arith, small)))
    [] numbers (each_from_all (λ number. number < 2 ^ 64) [] numbers are.small))

pub head_has : (head : ClaimHead) → IsClaimHead head
    → HasLines (6 + length head.numbers) (claim_head_text head)
unfolding claim_head_text
head_has head is =
    lines_as (1 + (1 + (1 + (1 + (1 + (1 + length head.numbers * 1)))))) (6 + length head.numbers) _
    (both_have (line_has (fixed_line (codes "vickrey-claim 1") refl (omega arith)) tt tt)
    (both_have (line_has (id_line_is (codes "auction") refl (omega arith)) head.auction is.id)
    (both_have (kind_has head.kind)
    (both_have (number_has (codes "lanes") 1 64 head.lanes refl (omega arith) (omega arith)
    is.lanes.least is.lanes.most)
    (both_have (number_has (codes "inputs") 1 512 head.inputs refl (omega arith) (omega arith)
    is.some_input is.few_inputs)
    (numbers_have head.numbers is.numbers))))))
    (omega arith)

-- of a proof of at most 64 inputs with so few wires and rows
module _ (proof : ProofValue) (is : IsProof proof) (wires : length proof.plan.kinds ≤ 10000) (rows : length proof.plan.rows ≤ 1000) where
  pub file_is_short : (head : ClaimHead) → IsClaimHead head → length proof.rows ≤ 64
      → AreSealsOf (length proof.rows) proof.lanes (map seal_lines_of proof.rows)
      → IsShort (file_of (claim_head_text head) proof)
  file_is_short head right few seals =
      let of_seals = mul-le (length proof.rows) (1 + proof.lanes) 64 65 few
      (omega (arith, is.count.most)) in
      let of_lanes = mul-le proof.lanes
      (1 + (length proof.plan.kinds - proof.plan.inputs) + length proof.plan.rows) 64 11001
      is.count.most (omega (arith, wires, rows)) in
      short_text _ _ (file_has proof is seals (6 + length head.numbers) (claim_head_text head)
      (head_has head right)) (omega (arith, right.numbers.few, of_seals, of_lanes))

  pub reply_is_short : (challenge : Challenge) → IsChallenge challenge
      → length challenge.bits ≡ proof.lanes → IsShort (reply_in proof challenge.bits)
  reply_is_short challenge right count =
      let shown = lanes_shown_from proof 1 challenge.bits in
      let few : length shown ≤ 64 =
      omega (arith, length_shown proof 1 challenge.bits, right.few_bits) in
      let of_lanes = mul-le (length shown) (1 + length proof.plan.kinds) 64 10001 few
      (omega (arith, wires)) in
      short_text _ _ (reply_has proof.plan.kinds _ shown (reply_is proof challenge is right count))
      (omega (arith, of_lanes))
