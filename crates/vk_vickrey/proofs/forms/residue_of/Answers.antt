use Rattle.std.proofs.Common.{◌∙◌}
use Rattle.vk_vickrey.specs.VickreySteps.{price_is_residue}
use Rattle.vk_vickrey.proofs.forms.residue_of.Goals as goal

pub returns : goal.returns
returns c =
    c.unwrap_or.ensures
    ∙ price_is_residue c.new.result c.args.width c.args.number c.requires.width c.requires.within
    c.new.ensures.refused.0 c.new.ensures.value
