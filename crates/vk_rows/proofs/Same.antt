-- What stands in the columns of a row is that of one value alone.
use Rattle.std.proofs.Common.{◌≡◌, ◌∙◌, ℕ, List, [], ◌∷◌, map, refl, ap, sym, Option, Some, None, option_map, Result, Ok, IfSome}
use Rattle.std.specs.List.{AllByRecursion}
use Rattle.sqlite.specs.declared.types.Value.TheVariants.{Text, Blob}
use Rattle.sqlite.specs.Values.{or_null}
use Rattle.vk_lines.specs.Forms.{IsWhole}
use Rattle.vk_lines.specs.Lines.{Rest}
use Rattle.vk_reply.specs.declared.challenge.Challenge.{Challenge}
use Rattle.vk_reply.specs.Values.{IsChallenge}
use Rattle.vk_reply.specs.Texts.{bits_text}
use Rattle.vk_reply.specs.Tokens.{bits_of}
use Rattle.vk_reply.proofs.Lines.{bits_token}
use Rattle.vk_seal.specs.Texts.{seal_text, secret_text}
use Rattle.vk_seal.specs.Values.{IsSeal, IsSecret}
use Rattle.vk_seal.proofs.Forms.{seal_is_whole, secret_is_whole}
use Rattle.vk_keeper.specs.declared.auction.Phase.{Phase}
use Rattle.vk_keeper.specs.declared.auction.Phase.TheVariants.{Taking, Proved, Answered}
use Rattle.vk_keeper.specs.declared.auction.SealRow.{SealRow}
use Rattle.vk_keeper.specs.Auctions.{seed_of, challenge_of}
use Rattle.vk_rows.specs.declared.texts.SealTexts.{SealTexts}
use Rattle.vk_rows.specs.Columns.{IsStored, bits_value, phase_number, phase_of, seal_texts}

-- two values with one text are one
pub one_text : {X : Type 0} {IsValue : X → Type 0} {text : X → List ℕ}
    {read : Rest → Result (X × Rest) ℕ} → IsWhole IsValue text read → (a b : X) → IsValue a
    → IsValue b → text a ≡ text b → a ≡ b
one_text {X} {IsValue} {text} {read} whole a b is also same =
    let rest : Rest = record { taken = 0; left = text a } in
    let first = whole.found rest a is refl in
    let second = whole.found rest b also same in
    ap (λ (p : X × Rest). p.0) (same_ok (sym first.1 ∙ second.1))
  where
    same_ok : {B E : Type 0} {a b : B} → ◌≡◌ {A = Result B E} (Ok a) (Ok b) → a ≡ b
    same_ok e = cc

pub one_challenge : (a b : Challenge) → IsChallenge a → IsChallenge b
    → bits_text a.bits ≡ bits_text b.bits → a ≡ b
one_challenge a b p q same =
    let first = bits_token.found a.bits (p.some_bit, p.few_bits) in
    let second = bits_token.found b.bits (q.some_bit, q.few_bits) in
    let both : ◌≡◌ {A = Option (List _)} (Some a.bits) (Some b.bits) =
    sym first ∙ (ap bits_of same ∙ second) in
    let bits : a.bits ≡ b.bits = cc in
    rw bits refl

-- the characters of a challenge are read as its bits
pub bits_found : (text : List ℕ) (challenge : Challenge)
    → IsChallenge challenge × (text ≡ bits_text challenge.bits) → bits_of text ≡ None → ⊥
bits_found text challenge (is, text_is) none =
    let found = bits_token.found challenge.bits (is.some_bit, is.few_bits) in
    absurd (let e = sym (ap bits_of text_is ∙ found) ∙ none in cc)

one_seed : (a b : Option (List ℕ)) → or_null Blob a ≡ or_null Blob b → a ≡ b
one_seed None None is = refl
one_seed None (Some b) is = absurd (let e = is in cc)
one_seed (Some a) None is = absurd (let e = is in cc)
one_seed (Some a) (Some b) is = let same : a ≡ b = cc in ap Some same

one_bits : (a b : Option Challenge) → IfSome a IsChallenge → IfSome b IsChallenge
    → or_null bits_value a ≡ or_null bits_value b → a ≡ b
one_bits None None p q is = refl
one_bits None (Some b) p q is = absurd (let e = is in cc)
one_bits (Some a) None p q is = absurd (let e = is in cc)
one_bits (Some a) (Some b) p q is =
    let same : bits_text a.bits ≡ bits_text b.bits = cc in ap Some (one_challenge a b p q same)

-- a phase is the one of its number, seed and challenge
pub phase_back : (phase : Phase)
    → phase_of (phase_number phase) (seed_of phase) (challenge_of phase) ≡ Some phase
phase_back Taking = refl
phase_back (Proved seed) = refl
phase_back (Answered seed challenge) = refl

-- what stands in the columns of a phase is its number, its seed and its challenge
pub phase_there : (phase : Phase) (number : ℕ) (seed : Option (List ℕ))
    (challenge : Option Challenge) → IfSome challenge IsChallenge
    → IfSome (challenge_of phase) IsChallenge → number ≡ phase_number phase
    → or_null Blob seed ≡ or_null Blob (seed_of phase)
    → or_null bits_value challenge ≡ or_null bits_value (challenge_of phase)
    → phase_of number seed challenge ≡ Some phase
phase_there phase number seed challenge p q number_is seed_is bits_is =
    rw (
      number_is,
      one_seed seed (seed_of phase) seed_is,
      one_bits challenge (challenge_of phase) p q bits_is,
    ) (phase_back phase)

-- a seal and its secret are those of their texts
pub one_row : (a b : SealRow) → IsSeal a.seal → IsSecret a.secret → IsSeal b.seal
    → IsSecret b.secret → seal_text a.seal ≡ seal_text b.seal
    → secret_text a.secret ≡ secret_text b.secret → a ≡ b
one_row a b seal secret other_seal other_secret seals secrets =
    rw (
      one_text seal_is_whole a.seal b.seal seal other_seal seals,
      one_text secret_is_whole a.secret b.secret secret other_secret secrets,
    ) refl

-- seals with the same texts are the same
pub one_list : (a b : List SealRow) → AllByRecursion IsStored a → AllByRecursion IsStored b
    → map seal_texts a ≡ map seal_texts b → a ≡ b
one_list [] [] p q is = refl
one_list [] (y ∷ b) p q is = absurd (let e = is in cc)
one_list (x ∷ a) [] p q is = absurd (let e = is in cc)
one_list (x ∷ a) (y ∷ b) p q is =
    let first : seal_texts x ≡ seal_texts y = cc in
    let same = one_row x y p.0.0 p.0.1 q.0.0 q.0.1 (ap (λ (t : SealTexts). t.seal) first)
    (ap (λ (t : SealTexts). t.secret) first) in
    let rest = one_list a b p.1 q.1 (let e = is in cc) in
    rw (same, rest) refl

-- the columns of a phase are those of no other
pub one_phase : (a b : Phase) → IfSome (challenge_of a) IsChallenge
    → IfSome (challenge_of b) IsChallenge → phase_number a ≡ phase_number b
    → or_null Blob (seed_of a) ≡ or_null Blob (seed_of b)
    → or_null bits_value (challenge_of a) ≡ or_null bits_value (challenge_of b) → a ≡ b
one_phase a b p q number seed bits =
    let both : ◌≡◌ {A = Option Phase} (Some a) (Some b) = sym (phase_back a)
    ∙ phase_there b (phase_number a) (seed_of a) (challenge_of a) p q number seed bits in
    cc

-- a challenge stands as the text of its bits
pub bits_as : (challenge : Option Challenge)
    → or_null bits_value challenge ≡ or_null Text (option_map (λ c. bits_text c.bits) challenge)
bits_as None = refl
bits_as (Some challenge) = refl
