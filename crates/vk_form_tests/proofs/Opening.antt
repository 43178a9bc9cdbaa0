-- The statement of a sum file; and what two replies to it open: numbers of which the circuit's law
-- says what they come to.
use Rattle.std.proofs.Common.{◌≡◌, ℕ, ◌^◌, nat_lt, Bool, true, false, if◌then◌else◌, List, length, arith, refl, IfOk, Option, Some, None, IfSome, Result, Ok, Err, take, slice_index_or, sym, ap, subst, ◌∙◌}
use Rattle.vk_residue.specs.Steps.{◌>>=◌}
use Rattle.vk_plan.specs.Plans.{Holds}
use Rattle.vk_io.specs.Files.{Files}
use Rattle.vk_board.specs.declared.board.SealLines.{SealLines}
use Rattle.vk_board.specs.Values.{AreSealsOf}
use Rattle.vk_board.specs.Reading.{seal_lines_at}
use Rattle.vk_lines.specs.Lines.{Rest}
use Rattle.vk_judge.specs.declared.answers.Part.TheVariants as part
use Rattle.vk_judge.specs.declared.answers.Fault.{Fault}
use Rattle.vk_judge.specs.declared.answers.VErr.{VErr}
use Rattle.vk_judge.specs.declared.answers.VErr.TheVariants as verr
use Rattle.vk_judge.specs.declared.opened.Opened.{Opened}
use Rattle.vk_judge.specs.declared.opened.Refusal.{Refusal}
use Rattle.vk_judge.specs.Behind.{and_rest, in_part}
use Rattle.vk_judge.specs.Begun.{begun_file, five_rests, from_start, of_attempt, of_files, three_rests}
use Rattle.vk_judge.specs.Opened.{file_judged, in_file}
use Rattle.vk_judge.specs.Statement.{StatementValue, IsStatement}
use Rattle.vk_judge.proofs.Attempts.{attempt_begun, files_begun}
use Rattle.vk_judge.proofs.Steps.{read_ok, value_same}
use Rattle.vk_bids.specs.declared.bids.LaneBids.{LaneBids}
use Rattle.vk_bids.specs.declared.extraction.Extraction.TheVariants.{Refused, Same, Clash, Bids}
use Rattle.vk_bids.specs.FileExtraction.{FileExtraction, OpensFile, file_extraction}
use Rattle.vk_bids.specs.Opening.{LaneOpens}
use Rattle.vk_form_tests.specs.declared.form.SumHead.{SumHead}
use Rattle.vk_form_tests.specs.Sums.{SumTo, sum_plan}
use Rattle.vk_form_tests.specs.SumLaws.{sum_is_plan, sum_sound}
use Rattle.vk_form_tests.specs.Forms.{IsSumHead, sum_head_at}
use Rattle.vk_form_tests.proofs.Forms.{head_is_part}
use Rattle.vk_form_tests.specs.Judging.{Begins, IsSum, LaneSums, OpensSums, opened_at, opened_sum, sum_extraction_on, sum_front_at, sum_judged_on, sum_statement}

pub statement_right : (head : SumHead) (seals : List SealLines) → IsSumHead head
    → AreSealsOf 3 2 seals
    → IsStatement (sum_statement head seals)
unfolding sum_plan
statement_right head seals right are = record {
  id = right.id;
  count = record { least = omega arith; most = omega arith };
  seals = are.each;
  inputs = sym are.count;
  plan = sum_is_plan head.total;
}

lane_sums : (s : StatementValue) (head : SumHead) (lane : LaneBids) → IsSumHead head
    → s ≡ sum_statement head s.seals
    → LaneOpens s lane → LaneSums s head.total lane
lane_sums s head lane right is opens =
    let plan = ap (λ s. s.plan) is in
    let claim = sum_sound head.total opens.values right.most
    (subst (λ p. Holds p opens.values) plan opens.holds) in
    record {
      opens = opens;
      sums = subst (SumTo head.total)
          (ap (λ p. take p.inputs opens.values) (sym plan) ∙ opens.inputs) claim;
    }

-- of a file whose head is such
sums_such : (IsSuch : SumHead → Type 0) (opened : Result (Opened SumHead) (Refusal Unit))
    (found : FileExtraction SumHead Unit)
    → ((head : SumHead) → IsSuch head → IsSumHead head)
    → IfOk opened (IsSum IsSuch) → OpensFile opened found → OpensSums IsSuch found
sums_such IsSuch opened (Refused second fault) right such opens = tt
sums_such IsSuch opened Same right such opens = tt
sums_such IsSuch opened (Clash two) right such opens = tt
sums_such IsSuch opened (Bids found) right such opens =
    let front = subst (λ o. IfOk o (IsSum IsSuch)) opens.such such in
    record {
      front = front;
      lanes = λ k d h. lane_sums found.opened.statement found.head
          (slice_index_or found.opened.lanes k d)
          (right found.head front.such) front.is (opens.lanes k d h);
    }

pub sums_opened : (opened : Result (Opened SumHead) (Refusal Unit))
    (found : FileExtraction SumHead Unit)
    → IfOk opened (IsSum IsSumHead) → OpensFile opened found → OpensSums IsSumHead found
sums_opened opened found such opens =
    sums_such IsSumHead opened found (λ head right. right) such opens

-- ---- by the file

front_begins : (rest after : Rest) (opened : Opened SumHead) → opened_at rest ≡ Ok (opened, after)
    → IsSum (Begins rest.left) opened
unfolding opened_at
front_begins rest after opened read =
    let head = read_ok part.Board (sum_head_at rest)
    (λ head. in_part part.Board (seal_lines_at 3 2 head.1) >>= λ seals.
    Ok (opened_sum head.0 seals.0, seals.1)) (opened, after) read in
    let seals = read_ok part.Board (seal_lines_at 3 2 head.0.1)
    (λ seals. Ok (opened_sum head.0.0 seals.0, seals.1)) (opened, after) head.2 in
    let shown = head_is_part.shown rest head.0.0 head.0.1 head.1 in
    let same : opened_sum head.0.0 seals.0.0 ≡ opened =
    ap (λ p. p.0) (value_same (opened_sum head.0.0 seals.0.0, seals.0.1) (opened, after) seals.2)
    in
    subst (IsSum (Begins rest.left)) same (record {
      such = record { right = shown.0; more = head.0.1.left; text = shown.1 };
      is = refl;
    })

known_begins : (rest after : Rest) (read : Result (Opened SumHead × Rest) Fault)
    (opened : Result (Opened SumHead) (Refusal Unit)) → opened_at rest ≡ read
    → ◌≡◌ {A = Result (Opened SumHead × Rest) (Refusal Unit)} (in_file read) (and_rest opened after)
    → IfOk opened (IsSum (Begins rest.left))
known_begins rest after (Ok found) (Ok opened) is told =
    front_begins rest after opened
    (is ∙ ap (λ x. Ok x) (value_same found (opened, after) told))
known_begins rest after (Err fault) (Ok opened) is told = cc
known_begins rest after read (Err refusal) is told = tt

pub sums_of_file : (rest after : Rest) (opened : Result (Opened SumHead) (Refusal Unit))
    (found : FileExtraction SumHead Unit) → sum_front_at rest ≡ and_rest opened after
    → OpensFile opened found → OpensSums (Begins rest.left) found
sums_of_file rest after opened found told opens =
    sums_such (Begins rest.left) opened found (λ head begins. begins.right)
    (known_begins rest after (opened_at rest) opened refl told) opens

short_file : (bytes : List ℕ) (long : Bool) (rest : Rest) (refusal : VErr)
    → ◌≡◌ {A = Result Rest VErr} (if long then Err refusal else Ok (from_start bytes)) (Ok rest)
    → from_start bytes ≡ rest
short_file bytes true rest refusal ok = cc
short_file bytes false rest refusal ok = value_same (from_start bytes) rest ok

pub sums_of_begun : (file : Option (List ℕ)) (rest : Rest) (found : FileExtraction SumHead Unit)
    → begun_file part.Board file ≡ Ok rest
    → OpensSums (Begins rest.left) found → IfSome file (λ file. OpensSums (Begins file) found)
sums_of_begun None rest found is sums = tt
sums_of_begun (Some bytes) rest found is sums =
    let same = short_file bytes (nat_lt (2 ^ 30) (length bytes)) rest (verr.TooLong part.Board) is
    in
    subst (λ r. OpensSums (Begins r.left) found) (sym same) sums

-- three files that are begun, and then judged
pub sum_begun : (files : Files) (file challenge reply : List ℕ)
    → sum_judged_on files file challenge reply
    ≡ (of_attempt three_rests files file challenge reply >>= λ rests.
    Ok (file_judged sum_front_at rests.0 rests.1 rests.2))
unfolding sum_judged_on
sum_begun = attempt_begun (file_judged sum_front_at)

-- five files that are begun, and then extracted
pub sum_extraction_begun : (files : Files)
    (file first_challenge first_reply second_challenge second_reply : List ℕ)
    → sum_extraction_on files file first_challenge first_reply second_challenge second_reply
    ≡ (of_files five_rests files file first_challenge first_reply second_challenge second_reply >>=
    λ rests. Ok (file_extraction sum_front_at rests.0 rests.1 rests.2 rests.3 rests.4))
unfolding sum_extraction_on
sum_extraction_begun = files_begun (file_extraction sum_front_at)
