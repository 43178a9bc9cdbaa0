-- Claim files are read from their texts alone.
use Rattle.std.proofs.Common.{◌≡◌, ℕ, ◌^◌, ◌-◌, ◌≤◌, ◌<◌, if◌then◌else◌, List, [], ◌∷◌, ◌++◌, length, codes, decimal, flat_map, Bool, true, false, Some, None, Result, Ok, refl, ap, arith}
use Rattle.std.specs.List.{AllByRecursion}
use Rattle.std.specs.Str.{bytes_eq}
use Rattle.std.proofs.lemmas.Slice.Eq.{bytes_eq-Decides}
use Rattle.hex.specs.Hex.{IsBytes}
use Rattle.vk_residue.specs.Steps.{◌>>=◌}
use Rattle.vk_lines.specs.Lines.{Rest, line_by}
use Rattle.vk_lines.specs.Forms.{line, spaced, is_word, EachAfter, IsLine, IsPart, IsToken, IsWhole}
use Rattle.vk_lines.specs.Tokens.{hex_text, id_line, number_line}
use Rattle.vk_lines.proofs.Words.{below_from, below_to, from_test, id_line_is, number_line_is, one_line, to_test, InRange}
use Rattle.vk_lines.proofs.Parts.{all_from_each, each_from_all, line_part, many_part, part_headed, part_last, part_same, part_then, whole_same, whole_then}
use Rattle.vk_board.specs.Values.{AreSealsOf, Shape}
use Rattle.vk_board.specs.Texts.{behind_text, seal_lines_text}
use Rattle.vk_board.proofs.Boards.{BehindOf, behind_is_whole}
use Rattle.vk_board.proofs.Forms.{seal_lines_are_part}
use Rattle.vk_claim.specs.declared.front.ClaimHead.{ClaimHead}
use Rattle.vk_words.specs.declared.claim.Kind.{Kind}
use Rattle.vk_words.specs.declared.claim.Kind.TheVariants.{Uniform, Matching}
use Rattle.vk_words.specs.Claims.{kind_named, kind_word}
use Rattle.vk_claim.specs.Values.{AreNumbers, IsClaimFile, IsClaimFront, IsClaimHead, claim_frame}
use Rattle.vk_claim.specs.Texts.{claim_front_text, claim_head_text, claim_text, numbers_text}
use Rattle.vk_claim.specs.Reading.{claim_file_at, claim_file_with, claim_front_at, claim_front_with, claim_head_at, head_with, kind_line, n_line, numbers_at}

-- ---- lines

kind_found : (kind : Kind) → kind_named (kind_word kind) ≡ Some kind
kind_found Uniform = refl
kind_found Matching = refl

-- which of the two tests a kind passes
abbrev IsTested : Bool → Bool → Kind → Type 0
IsTested uniform matching Uniform = uniform ≡ true
IsTested uniform matching Matching = matching ≡ true

kind_tested : (uniform matching : Bool) (kind : Kind)
    → (if uniform then Some Uniform else if matching then Some Matching else None) ≡ Some kind
    → IsTested uniform matching kind
kind_tested true matching Uniform some = refl
kind_tested true matching Matching some = cc
kind_tested false true Uniform some = cc
kind_tested false true Matching some = refl
kind_tested false false kind some = cc

kind_shown : (word : List ℕ) (kind : Kind) → kind_named word ≡ Some kind → word ≡ kind_word kind
kind_shown word Uniform some =
    (bytes_eq-Decides word (codes "uniform")).0
    (kind_tested (bytes_eq word (codes "uniform")) (bytes_eq word (codes "matching")) Uniform some)
kind_shown word Matching some =
    (bytes_eq-Decides word (codes "matching")).0
    (kind_tested (bytes_eq word (codes "uniform")) (bytes_eq word (codes "matching")) Matching some)

kind_plain : (kind : Kind) → is_word (kind_word kind) ≡ true
kind_plain Uniform = refl
kind_plain Matching = refl

kind_short : (kind : Kind) → length (kind_word kind) ≤ 8
kind_short Uniform = omega arith
kind_short Matching = omega arith

kind_token : IsToken 8 (λ kind. Unit {0}) kind_word kind_named
kind_token = record {
  found = λ kind is. kind_found kind;
  shown = λ word kind some. (tt, kind_shown word kind some);
  word = λ kind is. kind_plain kind;
  short = λ kind is. kind_short kind;
}

n_line_is : IsLine (InRange 0 (2 ^ 64 - 1)) (λ number. spaced (codes "n" ∷ decimal number ∷ []))
    n_line
n_line_is = number_line_is (codes "n") 0 (2 ^ 64 - 1) refl (omega arith) (omega arith)

-- ---- the numbers

small_from : (numbers : List ℕ) → AllByRecursion (InRange 0 (2 ^ 64 - 1)) numbers
    → AllByRecursion (λ number. number < 2 ^ 64) numbers
small_from [] all = tt
small_from (number ∷ numbers) all =
    (below_from (2 ^ 64) number (omega arith) all.0.0, small_from numbers all.1)

small_to : (numbers : List ℕ) → AllByRecursion (λ number. number < 2 ^ 64) numbers
    → AllByRecursion (InRange 0 (2 ^ 64 - 1)) numbers
small_to [] all = tt
small_to (number ∷ numbers) all =
    ((below_to (2 ^ 64) number all.0, to_test 0 number (omega arith)), small_to numbers all.1)

numbers_part : IsPart AreNumbers numbers_text numbers_at
unfolding numbers_text numbers_at
numbers_part =
    part_same (
    part_then {IsZ = λ count numbers. (length numbers ≡ count)
    × EachAfter (λ _. InRange 0 (2 ^ 64 - 1)) [] numbers}
    {text_z = λ count numbers. flat_map (λ number. line (spaced (codes "n" ∷ decimal number ∷ [])))
    numbers} length
    (line_part (number_line_is (codes "numbers") 1 128 refl (omega arith) (omega arith)))
    (λ count _. many_part count (λ _. line_part n_line_is)) (λ count numbers is. is.0)
    )
    (λ numbers is. record {
      some = from_test 1 (length numbers) is.0.1;
      few = is.0.0;
      small = small_from numbers (all_from_each (InRange 0 (2 ^ 64 - 1)) [] numbers is.1.1);
    })
    (λ numbers is. (
      (is.few, to_test 1 (length numbers) is.some),
      (refl, each_from_all (InRange 0 (2 ^ 64 - 1)) [] numbers (small_to numbers is.small)),
    ))
    (λ numbers. refl)

-- ---- the head

-- what is read from the numbers, the inputs, the lanes, the kind and the id on
abbrev NumbersOf : List ℕ → Kind → ℕ → ℕ → ClaimHead → Type 0
NumbersOf auction kind lanes inputs head = AreNumbers head.numbers
    × (head ≡ head_with auction kind lanes inputs head.numbers)

abbrev InputsOf : List ℕ → Kind → ℕ → ClaimHead → Type 0
InputsOf auction kind lanes head = InRange 1 512 head.inputs
    × NumbersOf auction kind lanes head.inputs head

abbrev LanesOf : List ℕ → Kind → ClaimHead → Type 0
LanesOf auction kind head = InRange 1 64 head.lanes × InputsOf auction kind head.lanes head

abbrev KindOf : List ℕ → ClaimHead → Type 0
KindOf auction head = Unit {0} × LanesOf auction head.kind head

abbrev IdOf : ClaimHead → Type 0
IdOf head = ((length head.auction ≡ 16) × IsBytes head.auction) × KindOf head.auction head

abbrev inputs_text : ClaimHead → List ℕ
inputs_text head = line (spaced (codes "inputs" ∷ decimal head.inputs ∷ []))
    ++ numbers_text head.numbers

abbrev lanes_text : ClaimHead → List ℕ
lanes_text head = line (spaced (codes "lanes" ∷ decimal head.lanes ∷ [])) ++ inputs_text head

abbrev kind_text : ClaimHead → List ℕ
kind_text head = line (spaced (codes "kind" ∷ kind_word head.kind ∷ [])) ++ lanes_text head

abbrev id_text : ClaimHead → List ℕ
id_text head = line (spaced (codes "auction" ∷ hex_text head.auction ∷ [])) ++ kind_text head

abbrev inputs_at : List ℕ → Kind → ℕ → Rest → Result (ClaimHead × Rest) ℕ
inputs_at auction kind lanes rest =
    line_by (number_line (codes "inputs") 1 512) rest >>= λ inputs. numbers_at inputs.1 >>=
    λ numbers.
    Ok (head_with auction kind lanes inputs.0 numbers.0, numbers.1)

abbrev lanes_at : List ℕ → Kind → Rest → Result (ClaimHead × Rest) ℕ
lanes_at auction kind rest = line_by (number_line (codes "lanes") 1 64) rest >>= λ lanes.
    inputs_at auction kind lanes.0 lanes.1

abbrev kind_at : List ℕ → Rest → Result (ClaimHead × Rest) ℕ
kind_at auction rest = line_by kind_line rest >>= λ kind. lanes_at auction kind.0 kind.1

abbrev id_at : Rest → Result (ClaimHead × Rest) ℕ
id_at rest = line_by (id_line (codes "auction")) rest >>= λ auction. kind_at auction.0 auction.1

inputs_part : (auction : List ℕ) (kind : Kind) (lanes : ℕ)
    → IsPart (InputsOf auction kind lanes) inputs_text (inputs_at auction kind lanes)
inputs_part auction kind lanes =
    part_then {IsZ = λ inputs head. NumbersOf auction kind lanes inputs head}
    {text_z = λ inputs head. numbers_text head.numbers} (λ head. head.inputs)
    (line_part (number_line_is (codes "inputs") 1 512 refl (omega arith) (omega arith)))
    (λ inputs _. part_last (λ head. head.numbers) (head_with auction kind lanes inputs)
    (λ numbers. refl) numbers_part)
    (λ inputs head is. ap (λ h. h.inputs) is.1)

lanes_part : (auction : List ℕ) (kind : Kind)
    → IsPart (LanesOf auction kind) lanes_text (lanes_at auction kind)
lanes_part auction kind =
    part_then {IsZ = λ lanes head. InputsOf auction kind lanes head}
    {text_z = λ lanes head. inputs_text head} (λ head. head.lanes)
    (line_part (number_line_is (codes "lanes") 1 64 refl (omega arith) (omega arith)))
    (λ lanes _. inputs_part auction kind lanes) (λ lanes head is. ap (λ h. h.lanes) is.1.1)

kind_part : (auction : List ℕ) → IsPart (KindOf auction) kind_text (kind_at auction)
kind_part auction =
    part_then {IsZ = λ kind head. LanesOf auction kind head} {text_z = λ kind head. lanes_text head}
    (λ head. head.kind)
    (line_part (one_line (codes "kind") refl kind_token (omega arith)))
    (λ kind _. lanes_part auction kind) (λ kind head is. ap (λ h. h.kind) is.1.1.1)

id_part : IsPart IdOf id_text id_at
id_part =
    part_then {IsZ = λ auction head. KindOf auction head} {text_z = λ auction head. kind_text head}
    (λ head. head.auction)
    (line_part (id_line_is (codes "auction") refl (omega arith)))
    (λ auction _. kind_part auction) (λ auction head is. ap (λ h. h.auction) is.1.1.1.1)

pub claim_head_part : IsPart IsClaimHead claim_head_text claim_head_at
unfolding claim_head_text claim_head_at
claim_head_part =
    part_same (part_headed (codes "vickrey-claim 1") refl (omega arith) id_part)
    (λ head is. record {
      id = is.0;
      lanes = record { least = from_test 1 head.lanes is.1.1.0.1; most = is.1.1.0.0 };
      some_input = from_test 1 head.inputs is.1.1.1.0.1;
      few_inputs = is.1.1.1.0.0;
      numbers = is.1.1.1.1.0;
    })
    (λ head is. (
      is.id,
      (
        tt,
        (
          (is.lanes.most, to_test 1 head.lanes is.lanes.least),
          ((is.few_inputs, to_test 1 head.inputs is.some_input), (is.numbers, refl)),
        ),
      ),
    ))
    (λ head. refl)

-- ---- the front

pub claim_front_part : IsPart IsClaimFront claim_front_text claim_front_at
unfolding claim_front_at
claim_front_part =
    part_same (
    part_then {IsZ = λ head front. AreSealsOf head.inputs head.lanes front.seals
    × (front ≡ claim_front_with head front.seals)}
    {text_z = λ head front. flat_map seal_lines_text front.seals} (λ front. front.head)
    claim_head_part
    (λ head _. part_last (λ front. front.seals) (claim_front_with head) (λ seals. refl)
    (seal_lines_are_part head.inputs head.lanes))
    (λ head front is. ap (λ f. f.head) is.1)
    )
    (λ front is. record { head = is.0; seals = is.1.0 })
    (λ front is. (is.head, (is.seals, refl)))
    (λ front. refl)

-- ---- whole files

pub claim_file_whole : (shape : ClaimHead → Shape)
    → IsWhole (IsClaimFile shape) claim_text (claim_file_at shape)
unfolding claim_text claim_file_at
claim_file_whole shape =
    whole_same (
    whole_then {IsZ = λ head file. BehindOf (claim_frame shape head) (claim_file_with head)
    (λ f. f.seals) (λ f. f.lanes) file}
    {text_z = λ head file. behind_text file.seals file.lanes} (λ file. file.head) claim_head_part
    (λ head right. behind_is_whole (claim_frame shape head) (claim_file_with head) (λ f. f.seals)
    (λ f. f.lanes)
    right.lanes.most (λ seals lanes. refl) (λ seals lanes. refl))
    (λ head file is. ap (λ f. f.head) is.1.1)
    )
    (λ file is. record { head = is.0; seals = is.1.0; count = is.1.1.0.0; lanes = is.1.1.0.1 })
    (λ file is. (is.head, (is.seals, ((is.count, is.lanes), refl))))
    (λ file. refl)
