-- Which seals may join an auction.
use Rattle.std.specs.Prelude.{ℕ, ◌^◌, ◌==◌, nat_le, not, Bool, if◌then◌else◌, List, [], ◌∷◌, ◌++◌, length, Option, Some, None, option_map}
use Rattle.std.specs.List.{list_any}
use Rattle.std.specs.Result.{result_err}
use Rattle.std.specs.Str.{bytes_eq}
use Rattle.vk_seal.specs.declared.secret.Secret.{Secret}
use Rattle.vk_seal.specs.declared.secret.Seal.{Seal}
use Rattle.vk_seal.specs.Match.{match_of}
use Rattle.vk_keeper.specs.declared.auction.SealRow.{SealRow}
use Rattle.vk_keeper.specs.declared.auction.Auction.{Auction}
use Rattle.vk_keeper.specs.declared.joining.Refusal.{Refusal}
use Rattle.vk_keeper.specs.declared.joining.Refusal.TheVariants.{Full, OtherAuction, SeatTaken, Length, BidTooLarge, Mismatch}

-- the refusal, where its test holds
abbrev pub refused_if : Bool → Refusal → Option Refusal
refused_if test refusal = if test then Some refusal else None

-- the first that there is
unfoldable pub first_of : {X : Type 0} → List (Option X) → Option X
first_of [] = None
first_of (Some x ∷ rest) = Some x
first_of (None ∷ rest) = first_of rest

-- whether a held seal has that seat
abbrev pub is_taken : ℕ → List SealRow → Bool
is_taken seat held = list_any (λ row. row.seal.seat == seat) held

-- why a seal and its secret may not join what is held of an auction: the first of these tests that
-- holds
abbrev pub held_refusal : (auction : List ℕ) (width lanes : ℕ) (held : List SealRow) → Seal → Secret
    → Option Refusal
held_refusal auction width lanes held seal secret = first_of
    (refused_if (nat_le 64 (length held)) Full
    ∷ refused_if (not (bytes_eq seal.auction auction)) (OtherAuction seal.auction)
    ∷ refused_if (is_taken seal.seat held) SeatTaken
    ∷ refused_if (not (length seal.lanes == lanes)) (Length lanes (length seal.lanes))
    ∷ refused_if (nat_le (2 ^ width) secret.bid) BidTooLarge
    ∷ option_map Mismatch (result_err (match_of secret seal))
    ∷ [])

abbrev pub join_refusal : Auction → Seal → Secret → Option Refusal
join_refusal auction = held_refusal auction.id auction.width auction.lanes auction.seals

-- the auction with this row last
abbrev pub with_last : Auction → SealRow → Auction
with_last auction row = record auction { seals = auction.seals ++ row ∷ [] }
