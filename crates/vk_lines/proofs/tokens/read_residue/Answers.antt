use Rattle.std.proofs.Common.{◌∙◌}
use Rattle.vk_lines.proofs.Residues.{residue_read}
use Rattle.vk_lines.proofs.tokens.read_residue.Goals as goal

pub returns-clause-value : goal.returns-clause-value
returns-clause-value c = residue_read c.in_ok-number.number c.new-residue.result
    c.new-residue.ensures.refused c.new-residue.ensures.value c.in_ok-number.ensures.within
    ∙ c.in_ok-number.ensures.value
