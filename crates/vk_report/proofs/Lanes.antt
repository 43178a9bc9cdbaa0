-- The loop over the lanes of a board, which keeps nothing of them: its turns and its exits, for any
-- modelled content.
use Rattle.std.proofs.Common.{◌≡◌, ℕ, ◌+◌, ◌<◌, List, [], ◌∷◌, ◌++◌, length, Option, Some, None, Result, Ok, Err, IfSome, refl, ap, sym, arith, length-append, subst}
use Rattle.vk_io.specs.Files.{Files}
use Rattle.vk_lines.specs.Forms.{many_onto}
use Rattle.vk_lines.specs.Lines.{Rest, GivesReading}
use Rattle.vk_lines.specs.declared.errors.ReadErr.{ReadErr}
use Rattle.vk_lines.specs.declared.errors.ReadErr.TheVariants.{Malformed, Failed, NoMemory}
use Rattle.vk_lines.proofs.Loops.{many_turn, many_stop, many_done}
use Rattle.vk_board.specs.declared.board.LaneLines.{LaneLines}
use Rattle.vk_board.specs.Values.{Shape}
use Rattle.vk_board.specs.Reading.{lane_at}
use Rattle.vk_report.specs.Reports.{passed}

abbrev pub next_lane : Shape → List LaneLines → Rest → Result (LaneLines × Rest) ℕ
next_lane shape before rest = lane_at (length before + 1) shape.wires shape.rows rest

-- so many lanes were read, and those that are left, read after them, give all
pub record HasPassed (held : Option Files) (shape : Shape) (index left : ℕ) (now : Files → Rest)
    (whole : Files → Result (List LaneLines × Rest) ℕ) : Type 0 where
  pub before : List LaneLines
  pub count : length before ≡ index
  pub modelled : IfSome held (λ files. many_onto before left (next_lane shape) (now files)
      ≡ whole files)

begins : (held : Option Files) (shape : Shape) (count : ℕ) (now : Files → Rest)
    → IfSome held (λ files. many_onto [] count (next_lane shape) (now files)
    ≡ many_onto [] count (next_lane shape) (now files))
begins None shape count now = tt
begins (Some files) shape count now = refl

pub passed_none : (held : Option Files) (shape : Shape) (count left : ℕ) (now : Files → Rest)
    → left ≡ count
    → HasPassed held shape 0 left now (λ files. many_onto [] count (next_lane shape) (now files))
passed_none held shape count left now all =
    rw all (record { before = []; count = refl; modelled = begins held shape count now })

pub passed_turn : (held now : Option Files) (shape : Shape)
    (whole : Files → Result (List LaneLines × Rest) ℕ) (index left next : ℕ) (lane : LaneLines)
    (before after : Files → Rest)
    → now ≡ held → next + 1 ≡ left
    → HasPassed held shape index left before whole
    → IfSome now (λ files. lane_at (index + 1) shape.wires shape.rows (before files)
    ≡ Ok (lane, after files))
    → HasPassed held shape (index + 1) next after whole
passed_turn held now shape whole index left next lane before after same fewer so_far step =
    let P : ℕ → Type 0 = λ n. IfSome now
    (λ files. lane_at (n + 1) shape.wires shape.rows (before files) ≡ Ok (lane, after files)) in
    record {
      before = so_far.before ++ lane ∷ [];
      count = omega (arith, length-append so_far.before (lane ∷ []), so_far.count);
      modelled = many_turn held now (next_lane shape) whole so_far.before
          (so_far.before ++ lane ∷ []) lane left next before after same fewer refl so_far.modelled
          (subst P (sym so_far.count) step);
    }

not_kept : (held : Option Files) (e : ReadErr) (after : Files → Rest)
    (whole : Files → Result (List LaneLines × Rest) ℕ)
    → IfSome held (λ files. GivesReading {T = List LaneLines} {X = List LaneLines} (λ x. x) (Err e)
    (after files) (whole files))
    → IfSome held (λ files. GivesReading {T = Unit {0}} {X = Unit {0}} (λ x. x) (Err e)
    (after files) (passed (whole files)))
not_kept None e after whole reads = tt
not_kept (Some files) (Malformed line) after whole reads = ap passed reads
not_kept (Some files) Failed after whole reads = tt
not_kept (Some files) NoMemory after whole reads = tt

pub passed_stop : (held now : Option Files) (shape : Shape)
    (whole : Files → Result (List LaneLines × Rest) ℕ) (index left : ℕ) (e : ReadErr)
    (result : Result (Unit {0}) ReadErr) (before after : Files → Rest)
    → now ≡ held → 0 < left → result ≡ Err e
    → HasPassed held shape index left before whole
    → IfSome now (λ files. GivesReading {T = LaneLines} {X = LaneLines} (λ x. x) (Err e)
    (after files) (lane_at (index + 1) shape.wires shape.rows (before files)))
    → IfSome held (λ files. GivesReading {T = Unit {0}} {X = Unit {0}} (λ x. x) result (after files)
    (passed (whole files)))
passed_stop held now shape whole index left e result before after same some is so_far step =
    let P : ℕ → Type 0 = λ n. IfSome now
    (λ files. GivesReading {T = LaneLines} {X = LaneLines} (λ x. x) (Err e) (after files)
    (lane_at (n + 1) shape.wires shape.rows (before files))) in
    let Q : Result (Unit {0}) ReadErr
    → Type 0 = λ r. IfSome held
    (λ files. GivesReading {T = Unit {0}} {X = Unit {0}} (λ x. x) r (after files)
    (passed (whole files))) in
    subst Q (sym is) (not_kept held e after whole
    (many_stop held now (next_lane shape) whole so_far.before e (Err e) left before after same
    some refl so_far.modelled (subst P (sym so_far.count) step)))

none_kept : (held : Option Files) (xs : List LaneLines) (now : Files → Rest)
    (whole : Files → Result (List LaneLines × Rest) ℕ)
    → IfSome held (λ files. GivesReading {T = List LaneLines} {X = List LaneLines} (λ x. x) (Ok xs)
    (now files) (whole files))
    → IfSome held (λ files. GivesReading {T = Unit {0}} {X = Unit {0}} (λ x. x) (Ok tt) (now files)
    (passed (whole files)))
none_kept None xs now whole reads = tt
none_kept (Some files) xs now whole reads = ap passed reads

pub passed_done : (held : Option Files) (shape : Shape)
    (whole : Files → Result (List LaneLines × Rest) ℕ) (index left : ℕ) (now : Files → Rest)
    → left ≡ 0
    → HasPassed held shape index left now whole
    → IfSome held (λ files. GivesReading {T = Unit {0}} {X = Unit {0}} (λ x. x) (Ok tt) (now files)
    (passed (whole files)))
passed_done held shape whole index left now none so_far =
    none_kept held so_far.before now whole
    (many_done held (next_lane shape) whole so_far.before left now none so_far.modelled)
