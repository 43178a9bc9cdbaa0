-- What the commands do that make a challenge without the auctioneer.
use Rattle.std.specs.Prelude.{Option, Some, option_map}
use Rattle.vk_io.specs.Files.{Files}
use Rattle.vk_keeper.specs.Ledgers.{Ledger}
use Rattle.vk_words.specs.Coins.{CoinWords, Part, Join, Board}
use Rattle.vk_effect.specs.Effects.{DeedValue, Effect, does}
use Rattle.vk_coins.specs.Boards.{board_deed}
use Rattle.vk_coins.specs.Drawing.{part_deed}
use Rattle.vk_coins.specs.Joining.{join_deed}

-- what is done: by the words alone, or by the files too, where they are modelled
abbrev pub deed_on : Option Files → CoinWords → Option DeedValue
deed_on files (Part order) = Some (part_deed order)
deed_on files (Join names) = option_map (join_deed names) files
deed_on files (Board names) = option_map (board_deed names) files

-- the effect of it
abbrev pub coin_on : Option Files → Option Ledger → CoinWords → Option Effect
coin_on files ledger order = option_map (does ledger) (deed_on files order)
