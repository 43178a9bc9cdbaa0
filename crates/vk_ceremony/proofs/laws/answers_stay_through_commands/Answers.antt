use Rattle.vk_ceremony.proofs.Standing.{keeps_within, performs_keeps}
use Rattle.vk_ceremony.proofs.laws.answers_stay_through_commands.Goals as goal

pub returns : goal.returns
returns c = record { all = performs_keeps; each = keeps_within }
