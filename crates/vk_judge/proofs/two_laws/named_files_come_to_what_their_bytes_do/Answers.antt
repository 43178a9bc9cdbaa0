use Rattle.vk_judge.proofs.HeldFiles.{are_of_held}
use Rattle.vk_judge.proofs.two_laws.named_files_come_to_what_their_bytes_do.Goals as goal

pub returns : goal.returns
returns g c = are_of_held
