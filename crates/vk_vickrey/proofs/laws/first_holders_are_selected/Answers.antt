use Rattle.vk_vickrey.specs.ReserveLaws.{values_within}
use Rattle.vk_vickrey.specs.SaleSelectors.{first_is_selected, first_above_is_selected, price_of_board_is_selected}
use Rattle.vk_vickrey.proofs.laws.first_holders_are_selected.Goals as goal

pub returns : goal.returns
returns c = record {
  vickrey = first_is_selected;
  reserve = first_above_is_selected;
  none = values_within;
  board = price_of_board_is_selected;
  none_of_board = values_within;
}
