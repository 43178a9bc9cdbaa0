-- Sum files are read from their texts alone.
use Rattle.std.proofs.Common.{◌≡◌, ℕ, List, [], ◌∷◌, ◌++◌, codes, decimal, Result, Ok, refl, ap, arith}
use Rattle.vk_residue.specs.Steps.{◌>>=◌}
use Rattle.vk_lines.specs.Lines.{Rest, line_by}
use Rattle.vk_lines.specs.Forms.{line, spaced, IsPart, IsWhole}
use Rattle.vk_lines.specs.Tokens.{hex_text, id_line, number_line}
use Rattle.vk_lines.proofs.Words.{fixed_line, number_line_is, id_line_is, to_test, InRange}
use Rattle.vk_lines.proofs.Parts.{line_part, part_then, part_last, part_same, whole_then, whole_same}
use Rattle.vk_board.specs.Values.{AreBytes}
use Rattle.vk_board.specs.Texts.{behind_text}
use Rattle.vk_board.proofs.Boards.{BehindOf, behind_is_whole}
use Rattle.vk_form_tests.specs.declared.form.SumHead.{SumHead}
use Rattle.vk_form_tests.specs.Forms.{SumFile, IsSumHead, IsSumFile, head_with, file_with, sum_frame, sum_head_text, sum_head_at, sum_file_text, sum_file_at}

-- what is read from the total and the id on
abbrev TotalOf : List ℕ → SumHead → Type 0
TotalOf auction head = InRange 0 21 head.total × (head ≡ head_with auction head.total)

abbrev IdOf : SumHead → Type 0
IdOf head = AreBytes 16 head.auction × TotalOf head.auction head

abbrev total_text : SumHead → List ℕ
total_text head = line (spaced (codes "sum" ∷ decimal head.total ∷ []))

abbrev id_text : SumHead → List ℕ
id_text head = line (spaced (codes "auction" ∷ hex_text head.auction ∷ [])) ++ total_text head

abbrev total_at : List ℕ → Rest → Result (SumHead × Rest) ℕ
total_at auction rest =
    line_by (number_line (codes "sum") 0 21) rest >>= λ total.
    Ok (head_with auction total.0, total.1)

abbrev id_at : Rest → Result (SumHead × Rest) ℕ
id_at rest = line_by (id_line (codes "auction")) rest >>= λ auction. total_at auction.0 auction.1

total_part : (auction : List ℕ) → IsPart (TotalOf auction) total_text (total_at auction)
total_part auction =
    part_last (λ head. head.total) (head_with auction) (λ total. refl)
    (line_part (number_line_is (codes "sum") 0 21 refl (omega arith) (omega arith)))

id_part : IsPart IdOf id_text id_at
id_part =
    part_then {IsZ = λ auction head. TotalOf auction head}
    {text_z = λ auction head. total_text head} (λ head. head.auction)
    (line_part (id_line_is (codes "auction") refl (omega arith))) (λ auction _. total_part auction)
    (λ auction head is. ap (λ h. h.auction) is.1)

pub head_is_part : IsPart IsSumHead sum_head_text sum_head_at
unfolding sum_head_text sum_head_at
head_is_part =
    part_same (
    part_then {X = Unit {0}} {IsZ = λ _ head. IdOf head} {text_z = λ _ head. id_text head}
    (λ head. tt)
    (line_part (fixed_line (codes "sum-file 1") refl (omega arith))) (λ heading _. id_part)
    (λ heading head is. refl)
    )
    (λ head is. record { id = is.1.0; most = is.1.1.0.0 })
    (λ head is. (tt, (is.id, ((is.most, to_test 0 head.total (omega arith)), refl))))
    (λ head. refl)

-- ---- whole files

abbrev HeadOf : SumHead → SumFile → Type 0
HeadOf head file = BehindOf (sum_frame head) (file_with head) (λ f. f.seals) (λ f. f.lanes) file

pub file_is_whole : IsWhole IsSumFile sum_file_text sum_file_at
unfolding sum_file_text sum_file_at
file_is_whole =
    whole_same (
    whole_then {IsZ = λ head file. HeadOf head file}
    {text_z = λ head file. behind_text file.seals file.lanes}
    (λ file. file.head) head_is_part
    (λ head right. behind_is_whole (sum_frame head) (file_with head) (λ f. f.seals) (λ f. f.lanes)
    (omega arith) (λ seals lanes. refl) (λ seals lanes. refl))
    (λ head file is. ap (λ f. f.head) is.1.1)
    )
    (λ file is. record { head = is.0; seals = is.1.0; count = is.1.1.0.0; lanes = is.1.1.0.1 })
    (λ file is. (is.head, (is.seals, ((is.count, is.lanes), refl))))
    (λ file. refl)
