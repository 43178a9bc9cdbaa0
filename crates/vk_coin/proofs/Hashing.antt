-- A board that is hashed while it is read: its lanes one after another, and its whole text.
use Rattle.std.proofs.Common.{◌≡◌, ℕ, ◌+◌, List, [], ◌∷◌, ◌++◌, length, append_assoc, append-nil, length-append, Option, Some, None, Result, Ok, IfSome, refl, ap, sym, subst, ◌∙◌, arith}
use Rattle.std.specs.List.{AllByRecursion}
use Rattle.sha2.specs.Hashers.{Holds256}
use Rattle.sha2.specs.declared.Sha256.{Sha256}
use Rattle.vk_io.specs.Files.{Files}
use Rattle.vk_lines.specs.Forms.{many_onto, numbered_text}
use Rattle.vk_lines.specs.Lines.{LinesValue, Rest, rest_of}
use Rattle.vk_lines.proofs.Loops.{many_done, many_turn}
use Rattle.vk_board.specs.declared.board.Head.{Head}
use Rattle.vk_board.specs.declared.board.LaneLines.{LaneLines}
use Rattle.vk_board.specs.Reading.{lane_at, lane_lines_at}
use Rattle.vk_board.specs.Texts.{lane_text, lanes_text}
use Rattle.vk_board.specs.Values.{IsLaneLines, Shape}
use Rattle.vk_report.proofs.Lanes.{HasPassed, next_lane}
use Rattle.vk_report.specs.Meaning.{auction_shape}
use Rattle.vk_coin.specs.Derived.{Hashes, HashesLanes}

-- ---- hashing

pub hashes_none : (hasher : Sha256) → Hashes [] hasher hasher
hashes_none hasher message holds = subst (Holds256 hasher) (sym (append-nil message)) holds

pub hashes_then : (one other : List ℕ) (first middle last : Sha256) → Hashes one first middle
    → Hashes other middle last → Hashes (one ++ other) first last
hashes_then one other first middle last takes takes_more message holds =
    subst (Holds256 last) (append_assoc message one other)
    (takes_more (message ++ one) (takes message holds))

-- ---- the shape of a lane

abbrev pub shape_by : ℕ → ℕ → Shape
shape_by wires rows = record { wires = wires; rows = rows }

pub same_shape : (wires rows : ℕ) (head : Head) → wires ≡ (auction_shape head).wires
    → rows ≡ (auction_shape head).rows → shape_by wires rows ≡ auction_shape head
same_shape wires rows head wires_are rows_are =
    ap (λ n. shape_by n rows) wires_are ∙ ap (shape_by (auction_shape head).wires) rows_are

-- ---- lanes

numbered_more : {X : Type 0} (text : ℕ → X → List ℕ) (number : ℕ) (xs : List X) (x : X)
    → numbered_text text number (xs ++ x ∷ [])
    ≡ numbered_text text number xs ++ text (number + length xs) x
numbered_more text number [] x =
    let same : number ≡ number + 0 = omega arith in
    append-nil (text number x) ∙ ap (λ n. text n x) same
numbered_more text number (y ∷ xs) x =
    let next : ℕ = number + 1 in
    let same : next + length xs ≡ number + length (y ∷ xs) = omega arith in
    ap (λ t. text number y ++ t) (numbered_more text next xs x)
    ∙ sym (append_assoc (text number y) (numbered_text text next xs) (text (next + length xs) x))
    ∙ ap (λ n. (text number y ++ numbered_text text next xs) ++ text n x) same

all_more : {X : Type 0} (Is : X → Type 0) (xs : List X) (x : X) → AllByRecursion Is xs → Is x
    → AllByRecursion Is (xs ++ x ∷ [])
all_more Is [] x all is = (is, tt)
all_more Is (y ∷ xs) x all is = (all.0, all_more Is xs x all.1 is)

-- so many lanes were read and hashed, and those that are left, read after them, give all
pub record LanesHashed (held : Option Files) (shape : Shape) (index left : ℕ) (now : Files → Rest)
    (whole : Files → Result (List LaneLines × Rest) ℕ) (old new : Sha256) : Type 0 where
  pub before : List LaneLines
  pub count : length before ≡ index
  pub each : AllByRecursion (IsLaneLines shape.wires shape.rows) before
  pub hashed : Hashes (lanes_text 1 before) old new
  pub modelled : IfSome held (λ files. many_onto before left (next_lane shape) (now files)
      ≡ whole files)

pub as_passed : {held : Option Files} {shape : Shape} {index left : ℕ} {now : Files → Rest}
    {whole : Files → Result (List LaneLines × Rest) ℕ} {old new : Sha256}
    → LanesHashed held shape index left now whole old new
    → HasPassed held shape index left now whole
as_passed so_far =
    record { before = so_far.before; count = so_far.count; modelled = so_far.modelled }

begins : (held : Option Files) (shape : Shape) (count left : ℕ) (now : Files → Rest) → left ≡ count
    → IfSome held (λ files. many_onto [] left (next_lane shape) (now files)
    ≡ many_onto [] count (next_lane shape) (now files))
begins None shape count left now all = tt
begins (Some files) shape count left now all =
    ap (λ n. many_onto [] n (next_lane shape) (now files)) all

pub lanes_none : (held : Option Files) (shape : Shape) (count left : ℕ) (now : Files → Rest)
    (hasher : Sha256) → left ≡ count
    → LanesHashed held shape 0 left now
    (λ files. many_onto [] count (next_lane shape) (now files)) hasher hasher
lanes_none held shape count left now hasher all = record {
  before = [];
  count = refl;
  each = tt;
  hashed = hashes_none hasher;
  modelled = begins held shape count left now all;
}

pub lanes_turn : (held now : Option Files) (shape : Shape)
    (whole : Files → Result (List LaneLines × Rest) ℕ) (index left next : ℕ) (lane : LaneLines)
    (before after : Files → Rest) (first old new : Sha256)
    → now ≡ held → next + 1 ≡ left
    → LanesHashed held shape index left before whole first old
    → IfSome now (λ files. lane_at (index + 1) shape.wires shape.rows (before files)
    ≡ Ok (lane, after files))
    → IsLaneLines shape.wires shape.rows lane
    → Hashes (lane_text (index + 1) lane) old new
    → LanesHashed held shape (index + 1) next after whole first new
lanes_turn held now shape whole index left next lane before after first old new same fewer so_far
    step is hashed =
    let P : ℕ → Type 0 = λ n. IfSome now
    (λ files. lane_at (n + 1) shape.wires shape.rows (before files) ≡ Ok (lane, after files)) in
    let number : index + 1 ≡ 1 + length so_far.before = omega (arith, so_far.count) in
    record {
      before = so_far.before ++ lane ∷ [];
      count = omega (arith, length-append so_far.before (lane ∷ []), so_far.count);
      each = all_more (IsLaneLines shape.wires shape.rows) so_far.before lane so_far.each is;
      hashed = subst (λ text. Hashes text first new)
          (sym (numbered_more lane_text 1 so_far.before lane))
          (hashes_then (lanes_text 1 so_far.before) (lane_text (1 + length so_far.before) lane)
          first old new so_far.hashed
          (subst (λ n. Hashes (lane_text n lane) old new) number hashed));
      modelled = many_turn held now (next_lane shape) whole so_far.before
          (so_far.before ++ lane ∷ []) lane left next before after same fewer refl so_far.modelled
          (subst P (sym so_far.count) step);
    }

pub lanes_done : (held : Option Files) (count : ℕ) (shape : Shape) (index left : ℕ)
    (before after : LinesValue) (old new : Sha256) → left ≡ 0 → index ≡ count
    → LanesHashed held shape index left (λ files. rest_of after files)
    (λ files. lane_lines_at count shape (rest_of before files)) old new
    → HashesLanes held count shape before after old new
lanes_done held count shape index left before after old new none all so_far = record {
  lanes = so_far.before;
  right = record { number = so_far.count ∙ all; each = so_far.each };
  hashed = so_far.hashed;
  read = many_done held (next_lane shape)
      (λ files. lane_lines_at count shape (rest_of before files)) so_far.before left
      (λ files. rest_of after files) none so_far.modelled;
}
