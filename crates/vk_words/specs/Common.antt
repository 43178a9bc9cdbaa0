-- The words in which the words of commands are said.
pub use Rattle.vk_words.specs.Audits.{audit_seen}
pub use Rattle.vk_words.specs.Claims.{claim_order_seen}
pub use Rattle.vk_words.specs.Coins.{CoinWords}
pub use Rattle.vk_words.specs.Commands.{ClaimSample, Coin, House, IsCommand, Seal, command_seen, command_words}
pub use Rattle.vk_words.specs.Orders.{HouseWords, IsHouseOrder, SealWords, house_seen}
pub use Rattle.vk_words.specs.Scripts.{written_name_of}
