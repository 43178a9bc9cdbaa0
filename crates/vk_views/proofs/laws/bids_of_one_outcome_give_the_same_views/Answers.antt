use Rattle.vk_views.proofs.Bids.{both_hold, of_one_outcome}
use Rattle.vk_views.proofs.Lanes.{views_are_the_same, tapes_come_back}
use Rattle.vk_views.proofs.Counts.{equally_many, equally_many_lanes}
use Rattle.vk_views.proofs.laws.bids_of_one_outcome_give_the_same_views.Goals as goal

pub returns : goal.returns
returns c = record {
  held = both_hold;
  views = of_one_outcome _ views_are_the_same;
  back = of_one_outcome _ tapes_come_back;
  equally_many = of_one_outcome _ equally_many;
  all_lanes = of_one_outcome _ equally_many_lanes;
}
