use Rattle.vk_claim.proofs.Forms.{claim_file_whole, claim_front_part, claim_head_part}
use Rattle.vk_claim.proofs.laws.claim_files_are_read_from_their_texts_alone.Goals as goal

pub returns : goal.returns
returns c = record { heads = claim_head_part; fronts = claim_front_part; files = claim_file_whole }
