use Rattle.vk_store_laws.proofs.Refused.{new_refused, first_refused, second_refused}
use Rattle.vk_store_laws.proofs.laws.a_sound_store_is_refused_by_its_connection_alone.Goals as goal

pub returns : goal.returns
returns g c = record {
  unmade = new_refused g.S.Store;
  former = first_refused g.S.Store;
  own = second_refused g.S.Store;
}
