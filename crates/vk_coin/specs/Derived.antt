-- The challenge that the bytes of a board give. Of it nothing is claimed but that it is this one.
use Rattle.std.specs.Prelude.{◌≡◌, ℕ, ◌++◌, Bool, List, length, codes, Option, IfSome, Result, Ok}
use Rattle.std.specs.List.{AllByRecursion}
use Rattle.sha2.specs.Hashers.{Holds256}
use Rattle.sha2.specs.Sha256.{sha256}
use Rattle.sha2.specs.declared.Sha256.{Sha256}
use Rattle.vk_residue.specs.Steps.{◌>>=◌}
use Rattle.vk_io.specs.Files.{Files, bytes_of}
use Rattle.vk_lines.specs.Lines.{LinesValue, Rest, rest_of}
use Rattle.vk_board.specs.declared.board.LaneLines.{LaneLines}
use Rattle.vk_board.specs.declared.front.Front.{Front}
use Rattle.vk_board.specs.Reading.{lane_lines_at}
use Rattle.vk_board.specs.Texts.{board_text, lanes_text}
use Rattle.vk_board.specs.Values.{IsLaneLines, Shape}
use Rattle.vk_reply.specs.declared.challenge.Challenge.{Challenge}
use Rattle.vk_report.specs.Bits.{leading_bits}
use Rattle.vk_report.specs.Meaning.{Publishes, auction_shape}
use Rattle.vk_report.specs.Reports.{passed, report_on}
use Rattle.vk_report.specs.declared.report.Report.{Report}
use Rattle.vk_report.specs.declared.report.ReportErr.{ReportErr}

-- what is hashed of a file's bytes: they stand behind `VKD1`
abbrev pub derived_message : List ℕ → List ℕ
derived_message bytes = codes "VKD1" ++ bytes

-- the first bits of their SHA-256 (FIPS 180-4), one for each lane, that of lane 1 first
unfoldable pub derived_bits : ℕ → List ℕ → List Bool
derived_bits lanes bytes = leading_bits lanes (sha256 (derived_message bytes))

-- the challenge for so many lanes
abbrev pub derived_by : ℕ → List ℕ → Challenge
derived_by lanes bytes = record { bits = derived_bits lanes bytes }

-- the challenge for the lanes of the named board, which may be reported on; or why it may not
unfoldable pub derived_in : Files → List ℕ → Result Challenge ReportErr
derived_in files board = do
  report ← report_on files board
  Ok (derived_by report.head.lanes (bytes_of files board))

-- a challenge of one text: the same bytes are those of a board that may be reported on, and those
-- that are hashed. So it is no challenge of bytes that were not tested, whatever becomes of a file
-- while it is read
pub record IsOfOneText (challenge : Challenge) : Type 0 where
  pub text : List ℕ
  pub report : Report
  pub publishes : Publishes text report
  pub derived : challenge ≡ derived_by report.head.lanes text

-- ---- how a board is hashed while it is read

-- a hasher took these bytes behind those that it held
abbrev pub Hashes : List ℕ → Sha256 → Sha256 → Type 0
Hashes text old new = (message : List ℕ) → Holds256 old message → Holds256 new (message ++ text)

-- so many lanes of this shape
pub record AreLanes (count : ℕ) (shape : Shape) (lanes : List LaneLines) : Type 0 where
  pub number : length lanes ≡ count
  pub each : AllByRecursion (IsLaneLines shape.wires shape.rows) lanes

-- what is left after so many lanes, which are not kept
abbrev pub lanes_gone : ℕ → Shape → Rest → Result (Unit {0} × Rest) ℕ
lanes_gone count shape rest = passed (lane_lines_at count shape rest)

-- the lanes that were read are those whose texts were hashed
pub record HashesLanes (held : Option Files) (count : ℕ) (shape : Shape)
    (before after : LinesValue) (old new : Sha256) : Type 0 where
  pub lanes : List LaneLines
  pub right : AreLanes count shape lanes
  pub hashed : Hashes (lanes_text 1 lanes) old new
  pub read : IfSome held (λ files.
      lane_lines_at count shape (rest_of before files) ≡ Ok (lanes, rest_of after files))

-- the board of this front and these lanes
abbrev pub text_with : Front → List LaneLines → List ℕ
text_with front lanes =
    board_text (record { head = front.head; seals = front.seals; lanes = lanes })

-- the text of the board that was read is what was hashed
pub record HashesBoard (held : Option Files) (name : List ℕ) (front : Front) (old new : Sha256)
    : Type 0 where
  pub lanes : List LaneLines
  pub right : AreLanes front.head.lanes (auction_shape front.head) lanes
  pub hashed : Hashes (text_with front lanes) old new
  pub read : IfSome held (λ files. bytes_of files name ≡ text_with front lanes)
