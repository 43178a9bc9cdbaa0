-- What may stand next in a claim file, place by place.
use Rattle.std.specs.Prelude.{ℕ, zero, suc, List, [], ◌∷◌, ◌++◌, codes, Option, option_map}
use Rattle.vk_lines.specs.Forms.{Table}
use Rattle.vk_lines.specs.Tokens.{id_line, number_line, word_of}
use Rattle.vk_board.specs.Values.{Shape}
use Rattle.vk_board.specs.Tables.{HeadTable, InHead, BoardPlace, behind_head, sealed_table}
use Rattle.vk_claim.specs.declared.front.ClaimHead.{ClaimHead}
use Rattle.vk_words.specs.declared.claim.Kind.{Kind}
use Rattle.vk_claim.specs.Values.{claim_frame}
use Rattle.vk_claim.specs.Reading.{head_with, kind_line, n_line}

-- the places of a claim file's head, each with its fields so far. Among the numbers: what makes the
-- head of them, how many follow this one, and those so far
pub data ClaimPlace : Type 0 where
  Heading : ClaimPlace
  Auction : ClaimPlace
  KindLine : List ℕ → ClaimPlace
  Lanes : List ℕ → Kind → ClaimPlace
  Inputs : List ℕ → Kind → ℕ → ClaimPlace
  Count : (List ℕ → ClaimHead) → ClaimPlace
  Number : (List ℕ → ClaimHead) → ℕ → List ℕ → ClaimPlace

-- where so many numbers are left after these
abbrev pub number_place : (ClaimHead → Shape) → (List ℕ → ClaimHead) → ℕ → List ℕ
    → BoardPlace ClaimPlace
number_place shape head zero numbers = behind_head (claim_frame shape (head numbers))
number_place shape head (suc more) numbers = InHead (Number head more numbers)

abbrev pub claim_next : (ClaimHead → Shape) → ClaimPlace → List ℕ → Option (BoardPlace ClaimPlace)
claim_next shape Heading text =
    option_map (λ _. InHead Auction) (word_of (codes "vickrey-claim 1") text)
claim_next shape Auction text =
    option_map (λ auction. InHead (KindLine auction)) (id_line (codes "auction") text)
claim_next shape (KindLine auction) text =
    option_map (λ kind. InHead (Lanes auction kind)) (kind_line text)
claim_next shape (Lanes auction kind) text =
    option_map (λ lanes. InHead (Inputs auction kind lanes)) (number_line (codes "lanes") 1 64 text)
claim_next shape (Inputs auction kind lanes) text =
    option_map (λ inputs. InHead (Count (head_with auction kind lanes inputs)))
    (number_line (codes "inputs") 1 512 text)
claim_next shape (Count head) text =
    option_map (λ count. number_place shape head count [])
    (number_line (codes "numbers") 1 128 text)
claim_next shape (Number head more numbers) text =
    option_map (λ number. number_place shape head more (numbers ++ number ∷ [])) (n_line text)

abbrev pub claim_head_table : (ClaimHead → Shape) → HeadTable ClaimPlace
claim_head_table shape = record { first = Heading; next = claim_next shape }

-- a claim file whose head tells the shape of its lanes
abbrev pub claim_table : (ClaimHead → Shape) → Table (BoardPlace ClaimPlace)
claim_table shape = sealed_table (claim_head_table shape)
