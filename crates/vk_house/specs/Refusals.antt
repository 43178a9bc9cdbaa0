-- Why a house refuses a command: a table of tests.
use Rattle.std.specs.Prelude.{List, Option}
use Rattle.vk_keeper.specs.declared.auction.Auction.{Auction}
use Rattle.vk_house.specs.declared.errors.HouseErr.{HouseErr}
use Rattle.vk_house.specs.Commands.{HouseCommand}
use Rattle.vk_house.specs.Replies.{auctions}
use Rattle.vk_house.specs.Shaped as shaped

-- the tests of each command on what stands under its id, in the order in which they are made
abbrev pub refusals_of : HouseCommand → Option Auction → List (Option HouseErr)
refusals_of = shaped.refusals_of auctions

-- the first that holds
abbrev pub refusal_of : HouseCommand → Option Auction → Option HouseErr
refusal_of = shaped.refusal_of auctions
