-- How a `coin-board` ends, by what the named file is.
use Rattle.std.proofs.Common.{◌≡◌, ℕ, List, [], length, unwrap_or, Result, Ok, Err, refl, ap, sym, subst, ◌∙◌, arith}
use Rattle.sha2.specs.Sha256.{sha256}
use Rattle.sha2.proofs.Facts256.{length-sha256}
use Rattle.vk_residue.specs.Limits.{IsLaneCount}
use Rattle.vk_residue.specs.Steps.{◌>>=◌}
use Rattle.vk_io.specs.Files.{Files, bytes_of}
use Rattle.vk_reply.specs.declared.challenge.Challenge.{Challenge}
use Rattle.vk_reply.specs.Texts.{challenge_text}
use Rattle.vk_report.specs.declared.report.Report.{Report}
use Rattle.vk_report.specs.declared.report.ReportErr.{ReportErr}
use Rattle.vk_report.specs.declared.report.ReportErr.TheVariants.{Missing, TooLong, Malformed, Price, Winner, Failed, NoMemory}
use Rattle.vk_report.specs.Meaning.{IsReportOn}
use Rattle.vk_report.specs.Reports.{report_on}
use Rattle.vk_report.proofs.Meaning.{is_reported, reported}
use Rattle.vk_report.proofs.Refusals.{unreported_exactly}
use Rattle.vk_audit.specs.Reports.{unreported_said}
use Rattle.vk_words.specs.Coins.{ChallengeWords}
use Rattle.vk_effect.specs.Effects.{writes_one}
use Rattle.vk_coin.specs.Derived.{derived_bits, derived_by, derived_in, derived_message}
use Rattle.vk_coin.proofs.Deriving.{lane_bits}
use Rattle.vk_coins.specs.Boards.{board_deed, derive_deed, derived_said}
use Rattle.vk_coins.specs.Meaning.{DerivesExactly}

-- the challenge behind a report
abbrev behind : Files → List ℕ → Report → Result Challenge ReportErr
behind files board report = Ok (derived_by report.head.lanes (bytes_of files board))

unfolded : (files : Files) (board : List ℕ)
    → derived_in files board ≡ (report_on files board >>= behind files board)
unfolding derived_in
unfolded files board = refl

lanes_are : (files : Files) (board : List ℕ) (report : Report) → IsReportOn files board report
    → IsLaneCount report.head.lanes
lanes_are files board report is =
    let publishes = is.holds in
    subst (λ (r : Report). IsLaneCount r.head.lanes) (sym publishes.report_is)
    publishes.is_board.head.size.lanes

pub derived_length : (lanes : ℕ) (bytes : List ℕ) → IsLaneCount lanes
    → length (derived_bits lanes bytes) ≡ lanes
unfolding derived_bits
derived_length lanes bytes count =
    lane_bits lanes (sha256 (derived_message bytes)) (derived_bits lanes bytes) count
    (length-sha256 (derived_message bytes)) refl

found : (files : Files) (board : List ℕ) (report : Report) (is : IsReportOn files board report)
    → derived_in files board ≡ Ok (record { bits = derived_bits report.head.lanes is.file })
found files board report is =
    let bytes : bytes_of files board ≡ is.file = ap (λ held. unwrap_or held []) is.held in
    unfolded files board ∙ ap (λ r. r >>= behind files board) (is_reported files board report is)
    ∙ ap (λ text. Ok (derived_by report.head.lanes text)) bytes

-- no fault has status 0
refuses : (board : List ℕ) (fault : ReportErr) → (unreported_said board fault).status ≡ 0 → ⊥
refuses board Missing zero = omega (arith, zero)
refuses board TooLong zero = omega (arith, zero)
refuses board (Malformed line) zero = omega (arith, zero)
refuses board Price zero = omega (arith, zero)
refuses board Winner zero = omega (arith, zero)
refuses board Failed zero = omega (arith, zero)
refuses board NoMemory zero = omega (arith, zero)

module _ (files : Files) (names : ChallengeWords) where
  derived_of : (report : Report) (is : IsReportOn files names.from report)
      → board_deed names files
      ≡ writes_one names.challenge
      (challenge_text (record { bits = derived_bits report.head.lanes is.file }))
      (derived_said report.head.lanes)
  derived_of report is =
      let bits = derived_bits report.head.lanes is.file in
      let challenge : Challenge = record { bits = bits } in
      ap (derive_deed names) (found files names.from report is)
      ∙ ap (λ count. writes_one names.challenge (challenge_text challenge) (derived_said count))
      (derived_length report.head.lanes is.file (lanes_are files names.from report is))

  unreported_of : (fault : ReportErr) → report_on files names.from ≡ Err fault
      → derived_in files names.from ≡ Err fault
  unreported_of fault is = unfolded files names.from ∙ ap (λ r. r >>= behind files names.from) is

  done_by : (read : Result Report ReportErr) → report_on files names.from ≡ read
      → (board_deed names files).said.status ≡ 0
      → (report : Report) × IsReportOn files names.from report
  done_by (Ok report) is zero = (report, reported files names.from report is)
  done_by (Err fault) is zero =
      absurd (refuses names.from fault
      (subst (λ c. (derive_deed names c).said.status ≡ 0) (unreported_of fault is) zero))

pub derives_exactly : DerivesExactly
derives_exactly files names = record {
  derived = derived_of files names;
  unreported = λ fault is. ap (derive_deed names)
      (unreported_of files names fault ((unreported_exactly files names.from fault).1 is));
  done = done_by files names (report_on files names.from) refl;
}
