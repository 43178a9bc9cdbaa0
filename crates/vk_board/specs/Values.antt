-- Boards: what an auctioneer publishes of an auction.
use Rattle.std.specs.Prelude.{◌≡◌, ◌≢◌, ℕ, ◌^◌, ◌<◌, ◌≤◌, List, [], length, Option, Some, None}
use Rattle.std.specs.List.{AllByRecursion}
use Rattle.vk_residue.specs.Limits.{IsSize}
use Rattle.vk_residue.specs.Residue.{IsResidue}
pub use Rattle.vk_commit.specs.Values.{AreBytes}
pub use Rattle.vk_wire.specs.Values.{IsCom}
use Rattle.vk_lines.specs.Forms.{EachAfter}
use Rattle.vk_board.specs.declared.board.Head.{Head}
use Rattle.vk_board.specs.declared.board.SealLines.{SealLines}
use Rattle.vk_board.specs.declared.board.LaneLines.{LaneLines}

-- version 1 knows of no reserve and sells always; version 2 names a reserve, and may leave it
-- unsold
pub record IsVersion (version : ℕ) : Type 0 where
  pub least : 1 ≤ version
  pub most : version ≤ 2

pub record IsReserve (version reserve : ℕ) : Type 0 where
  pub small : reserve < 2 ^ 64
  pub unnamed : version ≢ 2 → reserve ≡ 0

-- a bidder's seat
pub record IsSeat (seat : ℕ) : Type 0 where
  pub least : 1 ≤ seat
  pub most : seat ≤ 65535

-- the seat that won, or none
abbrev pub IsWinner : ℕ → Option ℕ → Type 0
IsWinner version (Some seat) = IsSeat seat
IsWinner version None = version ≡ 2

-- the head of a board: the id of an auction, its version, the width of its bids, how many lanes and
-- seals there are, the reserve, the seat that won, and the price
pub record IsHead (head : Head) : Type 0 where
  pub id : AreBytes 16 head.auction
  pub version : IsVersion head.version
  pub size : IsSize head.width head.lanes
  pub some_seal : 1 ≤ head.seals
  pub few_seals : head.seals ≤ 64
  pub reserve : IsReserve head.version head.reserve
  pub winner : IsWinner head.version head.winner
  pub price : head.price < 2 ^ 64

-- the head of these lines, in their order
abbrev pub head_with : ℕ → List ℕ → ℕ → ℕ → ℕ → ℕ → Option ℕ → ℕ → Head
head_with version auction width lanes seals reserve winner price =
    record {
      auction = auction;
      version = version;
      width = width;
      lanes = lanes;
      seals = seals;
      reserve = reserve;
      winner = winner;
      price = price;
    }

-- a seal on a board of so many lanes: a bidder's seat, and the two commitments of each lane
pub record IsSealLines (lanes : ℕ) (seal : SealLines) : Type 0 where
  pub some_seat : 1 ≤ seal.seat
  pub last_seat : seal.seat ≤ 65535
  pub count : length seal.coms ≡ lanes
  pub coms : AllByRecursion IsCom seal.coms

-- the same after these seals: its seat is that of none of them
pub record IsSealAfter (lanes : ℕ) (before : List SealLines) (seal : SealLines) : Type 0 where
  pub right : IsSealLines lanes seal
  pub new_seat : AllByRecursion (λ earlier. earlier.seat ≢ seal.seat) before

-- so many seals, each of so many lanes, and their seats are all different
pub record AreSealsOf (number lanes : ℕ) (seals : List SealLines) : Type 0 where
  pub count : length seals ≡ number
  pub each : EachAfter (IsSealAfter lanes) [] seals

-- the seals of a board with this head
abbrev pub AreSeals : Head → List SealLines → Type 0
AreSeals head seals = AreSealsOf head.seals head.lanes seals

-- what stands on a board of one lane: so many wires' commitments and so many rows' posted numbers
pub record IsLaneLines (wires rows : ℕ) (lines : LaneLines) : Type 0 where
  pub wire_count : length lines.coms ≡ wires
  pub row_count : length lines.posted ≡ rows
  pub coms : AllByRecursion IsCom lines.coms
  pub posted : AllByRecursion IsResidue lines.posted

-- a whole board
pub record Board : Type 0 where
  pub head : Head
  pub seals : List SealLines
  pub lanes : List LaneLines

-- how many wires after the inputs, and how many rows, a lane has
pub record Shape : Type 0 where
  pub wires : ℕ
  pub rows : ℕ

-- what a head tells of what stands behind it: how many seals, how many lanes, and the shape of each
-- lane
pub record Frame : Type 0 where
  pub seals : ℕ
  pub lanes : ℕ
  pub shape : Shape

abbrev pub frame_of : (Head → Shape) → Head → Frame
frame_of shape head = record { seals = head.seals; lanes = head.lanes; shape = shape head }

-- a board whose head tells the shape of each of its lanes
pub record IsBoard (shape : Head → Shape) (board : Board) : Type 0 where
  pub head : IsHead board.head
  pub seals : AreSeals board.head board.seals
  pub count : length board.lanes ≡ board.head.lanes
  pub lanes : AllByRecursion (IsLaneLines (shape board.head).wires (shape board.head).rows)
      board.lanes
