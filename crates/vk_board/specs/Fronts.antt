-- What stands on a board before its first lane: its head and its seals, with the place of the
-- winner's seal.
use Rattle.std.specs.Prelude.{◌≡◌, ◌≢◌, ◌↔◌, ℕ, ◌-◌, ◌^◌, ◌<◌, ◌≤◌, if◌then◌else◌, List, ◌++◌, length, slice_index, Contains, Option, Some, None, Result, Ok, Err}
use Rattle.std.specs.List.{flat_map}
use Rattle.vk_residue.specs.Steps.{◌>>=◌}
use Rattle.vk_lines.specs.Lines.{Rest}
use Rattle.vk_lines.specs.Forms.{fault_line}
use Rattle.vk_lines.specs.declared.errors.ReadErr.TheVariants as unread
use Rattle.vk_board.specs.declared.board.Head.{Head}
use Rattle.vk_board.specs.declared.board.SealLines.{SealLines}
use Rattle.vk_board.specs.declared.front.Front.{Front}
use Rattle.vk_board.specs.declared.front.FrontErr.{FrontErr}
use Rattle.vk_board.specs.declared.front.FrontErr.TheVariants as refusal
use Rattle.vk_board.specs.Values.{IsHead, AreSeals, Shape}
use Rattle.vk_board.specs.Texts.{head_text, seal_lines_text}
use Rattle.vk_board.specs.Reading.{head_at, seals_at, seats_of}
use Rattle.vk_board.specs.Tables.{board_table}
use Rattle.vk_board.specs.Published.{price_stands, placed}

-- what is sold: its price is below 2^width and not below the reserve, and is the reserve where
-- there is one seal
pub record SoldPriceStands (head : Head) : Type 0 where
  pub within_width : head.price < 2 ^ head.width
  pub reserve_within_price : head.reserve ≤ head.price
  pub alone : head.seals ≡ 1 → head.price ≡ head.reserve

-- what isn't: there is a reserve that no bid met, and no price
pub record UnsoldPriceStands (head : Head) : Type 0 where
  pub some_reserve : head.reserve ≢ 0
  pub no_price : head.price ≡ 0

abbrev pub PriceStandsFor : Head → Option ℕ → Type 0
PriceStandsFor head (Some seat) = SoldPriceStands head
PriceStandsFor head None = UnsoldPriceStands head

-- the reserve is below 2^width, and the price may stand beside it. Version 1 has the reserve 0
pub record PriceStands (head : Head) : Type 0 where
  pub reserve_within_width : head.reserve < 2 ^ head.width
  pub price : PriceStandsFor head head.winner

-- the seal at the position, counted from 1, has the seat
pub record HasPlace (seals : List SealLines) (seat position : ℕ) : Type 0 where
  pub some : 1 ≤ position
  pub within : position ≤ length seals
  pub seat_there : slice_index (seats_of seals) (position - 1) ≡ seat

-- the position is that of the winner's seal; there is none where nothing is sold
abbrev pub IsPlaced : List SealLines → Option ℕ → Option ℕ → Type 0
IsPlaced seals (Some seat) (Some position) = HasPlace seals seat position
IsPlaced seals (Some seat) None = ⊥
IsPlaced seals None (Some position) = ⊥
IsPlaced seals None None = Unit {0}

-- the front of a board whose price and winner may stand
pub record IsFront (front : Front) : Type 0 where
  pub head : IsHead front.head
  pub seals : AreSeals front.head front.seals
  pub price : PriceStands front.head
  pub winner : IsPlaced front.seals front.head.winner front.position

abbrev pub front_text : Front → List ℕ
front_text front = head_text front.head ++ flat_map seal_lines_text front.seals

-- ---- reading

-- the first thing that is wrong: the line of that number, then the price, then the winner
pub data FrontFault : Type 0 where
  Malformed : ℕ → FrontFault
  Price : FrontFault
  Winner : FrontFault

-- the fault that a refusal tells
abbrev pub fault_of : FrontErr → Option FrontFault
fault_of (refusal.Unread (unread.Malformed line)) = Some (Malformed line)
fault_of (refusal.Unread unread.Failed) = None
fault_of (refusal.Unread unread.NoMemory) = None
fault_of refusal.Price = Some Price
fault_of refusal.Winner = Some Winner

-- a fault line of the board is the fault
abbrev pub in_front : {X : Type 0} → Result X ℕ → Result X FrontFault
in_front (Ok x) = Ok x
in_front (Err line) = Err (Malformed line)

-- where the winner's seal has that place
abbrev pub front_with : Head → List SealLines → Option ℕ → Front
front_with head seals position = record { head = head; seals = seals; position = position }

abbrev pub front_placed : Head → List SealLines → Option (Option ℕ) → Result Front FrontFault
front_placed head seals None = Err Winner
front_placed head seals (Some position) = Ok (front_with head seals position)

-- the price is tested first, then the winner
unfoldable pub front_of : Head → List SealLines → Result Front FrontFault
front_of head seals = if price_stands head then front_placed head seals (placed head.winner seals)
    else Err Price

-- the lines before the first lane
unfoldable pub front_at : Rest → Result (Front × Rest) FrontFault
front_at rest = do
  head ← in_front (head_at rest)
  seals ← in_front (seals_at head.0 head.1)
  front ← front_of head.0 seals.0
  Ok (front, seals.1)

-- ---- what is read, in the words of texts

-- a front is read where what is left begins with its text, and nowhere else
pub record FrontsAreRead : Type 0 where
  pub found : (rest : Rest) (front : Front) (more : List ℕ) → IsFront front
      → rest.left ≡ front_text front ++ more
      → (taken : ℕ) × (front_at rest ≡ Ok (front, record { taken = taken; left = more }))
  pub shown : (rest : Rest) (front : Front) (after : Rest) → front_at rest ≡ Ok (front, after)
      → IsFront front × (rest.left ≡ front_text front ++ after.left)

-- bytes that begin with the texts of a head and of the seals of a board with it
pub record Begins (left : List ℕ) (head : Head) (seals : List SealLines) : Type 0 where
  pub is_head : IsHead head
  pub are_seals : AreSeals head seals
  pub more : List ℕ
  pub text : left ≡ head_text head ++ (flat_map seal_lines_text seals ++ more)

-- they do, and the price may not stand
pub record PriceFails (left : List ℕ) : Type 0 where
  pub head : Head
  pub seals : List SealLines
  pub begins : Begins left head seals
  pub price : ¬ PriceStands head

-- they do, the price may stand, and no seal has the seat that is named as the winner's
pub record WinnerFails (left : List ℕ) : Type 0 where
  pub head : Head
  pub seals : List SealLines
  pub begins : Begins left head seals
  pub price : PriceStands head
  pub seat : ℕ
  pub named : head.winner ≡ Some seat
  pub missing : ¬ Contains (seats_of seals) seat

-- a file has that fault line, and doesn't begin so
pub record LineFails (shape : Head → Shape) (bytes : List ℕ) (number : ℕ) : Type 0 where
  pub line : fault_line (board_table shape) bytes ≡ Some number
  pub before : (head : Head) (seals : List SealLines) → ¬ Begins bytes head seals

-- a file is refused before its first lane for its fault line, for the price or for the winner: each
-- exactly where it fails and nothing before it does
pub record FrontsAreRefused : Type 0 where
  pub line : (shape : Head → Shape) (bytes : List ℕ) (number : ℕ)
      → (front_at (record { taken = 0; left = bytes }) ≡ Err (Malformed number))
      ↔ LineFails shape bytes number
  pub price : (rest : Rest) → (front_at rest ≡ Err Price) ↔ PriceFails rest.left
  pub winner : (rest : Rest) → (front_at rest ≡ Err Winner) ↔ WinnerFails rest.left
