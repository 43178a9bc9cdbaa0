use Rattle.vk_effect.proofs.Sequences.{after_some, from_some}
use Rattle.vk_effect.proofs.laws.a_stop_is_after_some_of_the_commands.Goals as goal

pub returns : goal.returns
returns c = λ effects closing old new.
    (after_some effects closing old new, λ stops. from_some effects closing old new stops.0 stops.1)
