-- What a house keeps of an auction, and what it replies.
use Rattle.std.specs.Prelude.{ℕ, ◌==◌, if◌then◌else◌, List, [], length, Option, Some, None}
use Rattle.vk_vickrey.specs.declared.sales.Sale.{Sale}
use Rattle.vk_keeper.specs.declared.auction.Auction.{Auction}
use Rattle.vk_keeper.specs.declared.auction.Phase.{Phase}
use Rattle.vk_keeper.specs.declared.auction.Phase.TheVariants.{Taking, Proved, Answered}
use Rattle.vk_keeper.specs.Joining.{join_refusal, with_last}
use Rattle.vk_job.specs.Jobs.{dry_in, sale_in}
use Rattle.vk_house.specs.declared.standing.PhaseName.{PhaseName}
use Rattle.vk_house.specs.declared.standing.PhaseName.TheVariants as name
use Rattle.vk_house.specs.declared.standing.Standing.{Standing}
use Rattle.vk_house.specs.Commands.{HouseCommand}
use Rattle.vk_house.specs.Shaped as shaped
pub use Rattle.vk_house.specs.Shaped.{Done, Position, Work, Stands, Refused}

-- an auction that takes seals and has none, of that version and with that reserve
abbrev pub new_auction : (version : ℕ) (id : List ℕ) (width lanes reserve : ℕ) → Auction
new_auction version id width lanes reserve =
    record {
      id = id;
      version = version;
      width = width;
      lanes = lanes;
      reserve = reserve;
      phase = Taking;
      seals = [];
    }

-- the same auction in that phase
abbrev pub in_phase : Auction → Phase → Auction
in_phase auction phase = record auction { phase = phase }

-- how far it has come
abbrev pub phase_name : Phase → PhaseName
phase_name Taking = name.Taking
phase_name (Proved seed) = name.Proved
phase_name (Answered seed challenge) = name.Answered

-- the reserve that it names: version 1 names none
abbrev pub reserve_of : Auction → Option ℕ
reserve_of auction = if auction.version == 1 then None else Some auction.reserve

-- how it stands
abbrev pub standing_of : Auction → Standing
standing_of auction = record {
  width = auction.width;
  lanes = auction.lanes;
  seals = length auction.seals;
  phase = phase_name auction.phase;
  reserve = reserve_of auction;
}

-- the house of today: without a reserve an auction is of version 1, with one of version 2
abbrev pub auctions : shaped.HouseShape Auction Sale Standing
auctions = record {
  opened = λ id width lanes. new_auction 1 id width lanes 0;
  reserved = λ id width lanes reserve. Some (new_auction 2 id width lanes reserve);
  with_last = with_last;
  in_phase = in_phase;
  lanes = λ auction. auction.lanes;
  phase = λ auction. auction.phase;
  seals = λ auction. auction.seals;
  may_not_join = join_refusal;
  dry = dry_in;
  sale = sale_in;
  standing = standing_of;
}

-- what this house replies
abbrev pub HouseReply : Type 0
HouseReply = shaped.Reply Auction Sale Standing

-- the reply to a command that isn't refused, by what then stands under the id
abbrev pub reply_to : HouseCommand → Option Auction → HouseReply
reply_to = shaped.reply_to auctions
