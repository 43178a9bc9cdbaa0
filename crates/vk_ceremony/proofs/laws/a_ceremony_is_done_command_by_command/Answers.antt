use Rattle.vk_ceremony.proofs.Performing.{ceremony_performs, ceremony_performs_all, command_performs}
use Rattle.vk_ceremony.proofs.laws.a_ceremony_is_done_command_by_command.Goals as goal

pub returns : goal.returns
returns c = record {
  some = ceremony_performs;
  all = ceremony_performs_all;
  single = command_performs;
}
