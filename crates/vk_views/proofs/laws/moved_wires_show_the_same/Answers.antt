use Rattle.vk_views.proofs.Wires.{shows_the_same, wire_comes_back}
use Rattle.vk_views.proofs.laws.moved_wires_show_the_same.Goals as goal

pub returns : goal.returns
returns c = record { shown = shows_the_same; back = wire_comes_back }
