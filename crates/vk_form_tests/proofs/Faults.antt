-- Reading a sum file stops at its fault line: reading its head follows its table, and so does what
-- stands behind it.
use Rattle.std.proofs.Common.{◌≡◌, ℕ, List, refl}
use Rattle.std.specs.Result.{result_err}
use Rattle.vk_lines.specs.Forms.{FindsFaults, Follows, fault_line, whole}
use Rattle.vk_lines.proofs.Faults.{ends_then, fault_line_is, follows_done}
use Rattle.vk_board.specs.Tables.{InHead, BoardPlace, behind_head}
use Rattle.vk_board.proofs.Faults.{behind_ends, head_line_then}
use Rattle.vk_form_tests.specs.declared.form.SumHead.{SumHead}
use Rattle.vk_form_tests.specs.Forms.{Auction, Heading, SumPlace, Total, file_with, head_with, sum_file_at, sum_frame, sum_head_at, sum_head_table, sum_table}

head_follows : Follows sum_table (InHead Heading) sum_head_at (λ head. behind_head (sum_frame head))
unfolding sum_head_at
head_follows =
    let table = sum_head_table in
    let after : SumHead → BoardPlace SumPlace = λ head. behind_head (sum_frame head) in
    head_line_then table Heading _ (λ _. InHead Auction) (λ text. refl) (λ heading.
    head_line_then table Auction _ (λ auction. InHead (Total auction)) (λ text. refl) (λ auction.
    head_line_then table (Total auction) _ (λ total. after (head_with auction total)) (λ text. refl)
    (λ total.
    follows_done sum_table after (head_with auction total))))

pub file_ends : FindsFaults sum_table (InHead Heading) sum_file_at
unfolding sum_file_at
file_ends =
    ends_then sum_table (InHead Heading) head_follows
    (λ head. behind_ends sum_head_table (sum_frame head) (file_with head))

pub file_fault : (bytes : List ℕ)
    → fault_line sum_table bytes ≡ result_err (whole sum_file_at bytes)
file_fault bytes = fault_line_is sum_table sum_file_at file_ends bytes
