use Rattle.vk_views.proofs.Lanes.{views_are_the_same, tapes_come_back, moved_are_tapes, tapes_stay}
use Rattle.vk_views.proofs.Counts.{equally_many, equally_many_lanes}
use Rattle.vk_views.proofs.laws.moved_tapes_give_the_same_views.Goals as goal

pub returns : goal.returns
returns c =
    record {
      views = views_are_the_same;
      back = tapes_come_back;
      tapes = moved_are_tapes;
      bit_0 = tapes_stay;
      equally_many = equally_many;
      all_lanes = equally_many_lanes;
    }
