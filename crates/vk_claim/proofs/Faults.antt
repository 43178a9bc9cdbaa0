-- Reading a claim file stops at its fault line.
use Rattle.std.proofs.Common.{◌≡◌, ℕ, List, [], ◌∷◌, ◌++◌, refl}
use Rattle.std.specs.Result.{result_err}
use Rattle.vk_lines.specs.Lines.{line_by}
use Rattle.vk_lines.specs.Forms.{FindsFaults, Follows, Table, fault_line, many_at, whole}
use Rattle.vk_lines.proofs.Faults.{ends_then, fault_line_is, follows_done, follows_then, line_follows, many_follows}
use Rattle.vk_board.specs.Tables.{InHead, BoardPlace, behind_head, lane_place}
use Rattle.vk_board.specs.Values.{Shape}
use Rattle.vk_board.proofs.Faults.{behind_ends, head_line_then, seals_follow}
use Rattle.vk_claim.specs.declared.front.ClaimHead.{ClaimHead}
use Rattle.vk_claim.specs.declared.front.ClaimFront.{ClaimFront}
use Rattle.vk_claim.specs.Values.{claim_frame}
use Rattle.vk_claim.specs.Reading.{claim_file_at, claim_file_with, claim_front_at, claim_front_with, claim_head_at, head_with, n_line, numbers_at}
use Rattle.vk_claim.specs.Tables.{Auction, ClaimPlace, Count, Heading, Inputs, KindLine, Lanes, Number, claim_head_table, claim_table, number_place}

module _ (shape : ClaimHead → Shape) where
  abbrev table : Table (BoardPlace ClaimPlace)
  table = claim_table shape

  -- where all seals and lanes of the head are left
  abbrev behind : ClaimHead → BoardPlace ClaimPlace
  behind head = behind_head (claim_frame shape head)

  each_follows : (head : List ℕ → ClaimHead) (count : ℕ)
      → Follows table (number_place shape head count []) (many_at count (λ _. line_by n_line))
      (λ numbers. behind (head numbers))
  each_follows head count =
      many_follows table (λ left before. number_place shape head left before) (λ _. line_by n_line)
      (λ left before. line_follows table (InHead (Number head left before)) n_line
      (λ number. number_place shape head left (before ++ number ∷ [])) (λ text. refl) refl) count []

  numbers_follow : (head : List ℕ → ClaimHead)
      → Follows table (InHead (Count head)) numbers_at (λ numbers. behind (head numbers))
  unfolding numbers_at
  numbers_follow head =
      head_line_then (claim_head_table shape) (Count head) _
      (λ count. number_place shape head count []) (λ text. refl) (each_follows head)

  head_follows : Follows table (InHead Heading) claim_head_at behind
  unfolding claim_head_at
  head_follows =
      let head_table = claim_head_table shape in
      head_line_then head_table Heading _ (λ _. InHead Auction) (λ text. refl) (λ heading.
      head_line_then head_table Auction _ (λ auction. InHead (KindLine auction)) (λ text. refl)
      (λ auction.
      head_line_then head_table (KindLine auction) _ (λ kind. InHead (Lanes auction kind))
      (λ text. refl) (λ kind.
      head_line_then head_table (Lanes auction kind) _ (λ lanes. InHead (Inputs auction kind lanes))
      (λ text. refl) (λ lanes.
      head_line_then head_table (Inputs auction kind lanes) _
      (λ inputs. InHead (Count (head_with auction kind lanes inputs))) (λ text. refl) (λ inputs.
      follows_then table (InHead (Count (head_with auction kind lanes inputs)))
      (numbers_follow (head_with auction kind lanes inputs)) (λ numbers.
      follows_done table behind (head_with auction kind lanes inputs numbers)))))))

  -- where the lanes begin
  abbrev pub lanes_place : ClaimFront → BoardPlace ClaimPlace
  lanes_place front = lane_place (claim_frame shape front.head) 1 front.head.lanes

  pub front_follows : Follows table (InHead Heading) claim_front_at lanes_place
  unfolding claim_front_at
  front_follows =
      follows_then table (InHead Heading) head_follows (λ head.
      follows_then table (behind head)
      (seals_follow (claim_head_table shape) (claim_frame shape head)) (λ seals.
      follows_done table lanes_place (claim_front_with head seals)))

  pub file_ends : FindsFaults table (InHead Heading) (claim_file_at shape)
  unfolding claim_file_at
  file_ends =
      ends_then table (InHead Heading) head_follows
      (λ head. behind_ends (claim_head_table shape) (claim_frame shape head) (claim_file_with head))

pub claim_fault : (shape : ClaimHead → Shape) (bytes : List ℕ)
    → fault_line (claim_table shape) bytes ≡ result_err (whole (claim_file_at shape) bytes)
claim_fault shape bytes = fault_line_is (claim_table shape) (claim_file_at shape) (file_ends shape)
    bytes
