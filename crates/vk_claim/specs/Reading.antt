-- How a claim file is read, line by line. The laws say that this is exactly its text, and stops at
-- the fault line.
use Rattle.std.specs.Prelude.{ℕ, ◌^◌, ◌-◌, List, codes, Option, Result, Ok}
use Rattle.vk_residue.specs.Steps.{◌>>=◌}
use Rattle.vk_lines.specs.Lines.{Rest, line_by}
use Rattle.vk_lines.specs.Forms.{many_at}
use Rattle.vk_lines.specs.Tokens.{id_line, number_line, one_field, word_of}
use Rattle.vk_board.specs.declared.board.SealLines.{SealLines}
use Rattle.vk_board.specs.declared.board.LaneLines.{LaneLines}
use Rattle.vk_board.specs.Values.{Shape}
use Rattle.vk_board.specs.Reading.{behind_at, seal_lines_at}
use Rattle.vk_claim.specs.declared.front.ClaimHead.{ClaimHead}
use Rattle.vk_words.specs.declared.claim.Kind.{Kind}
use Rattle.vk_words.specs.Claims.{kind_named}
use Rattle.vk_claim.specs.declared.front.ClaimFront.{ClaimFront}
use Rattle.vk_claim.specs.Values.{ClaimFile, claim_frame}

-- ---- lines

abbrev pub kind_line : List ℕ → Option Kind
kind_line text = one_field (codes "kind") kind_named text

-- a number of the public part
abbrev pub n_line : List ℕ → Option ℕ
n_line text = number_line (codes "n") 0 (2 ^ 64 - 1) text

-- ---- parts

abbrev pub head_with : List ℕ → Kind → ℕ → ℕ → List ℕ → ClaimHead
head_with auction kind lanes inputs numbers =
    record { auction = auction; kind = kind; lanes = lanes; inputs = inputs; numbers = numbers }

-- how many numbers there are, and then each
unfoldable pub numbers_at : Rest → Result (List ℕ × Rest) ℕ
numbers_at rest = line_by (number_line (codes "numbers") 1 128) rest >>= λ count.
    many_at count.0 (λ _. line_by n_line) count.1

unfoldable pub claim_head_at : Rest → Result (ClaimHead × Rest) ℕ
claim_head_at rest =
    line_by (word_of (codes "vickrey-claim 1")) rest >>= λ heading.
    line_by (id_line (codes "auction")) heading.1 >>= λ auction.
    line_by kind_line auction.1 >>= λ kind.
    line_by (number_line (codes "lanes") 1 64) kind.1 >>= λ lanes.
    line_by (number_line (codes "inputs") 1 512) lanes.1 >>= λ inputs.
    numbers_at inputs.1 >>= λ numbers.
    Ok (head_with auction.0 kind.0 lanes.0 inputs.0 numbers.0, numbers.1)

abbrev pub claim_front_with : ClaimHead → List SealLines → ClaimFront
claim_front_with head seals = record { head = head; seals = seals }

-- what stands before the first lane
unfoldable pub claim_front_at : Rest → Result (ClaimFront × Rest) ℕ
claim_front_at rest =
    claim_head_at rest >>= λ head.
    seal_lines_at head.0.inputs head.0.lanes head.1 >>= λ seals.
    Ok (claim_front_with head.0 seals.0, seals.1)

abbrev pub claim_file_with : ClaimHead → List SealLines → List LaneLines → ClaimFile
claim_file_with head seals lanes = record { head = head; seals = seals; lanes = lanes }

-- a whole file, whose head tells the shape of its lanes
unfoldable pub claim_file_at : (ClaimHead → Shape) → Rest → Result (ClaimFile × Rest) ℕ
claim_file_at shape rest =
    claim_head_at rest >>= λ head. behind_at (claim_frame shape head.0) (claim_file_with head.0)
    head.1
