use Rattle.std.proofs.Common.{◌∙◌, ap, sym, if◌then◌else◌}
use Rattle.vk_judge.specs.declared.stage.Finding.TheVariants.{Same, Ready}
use Rattle.vk_judge.proofs.Bits.{same_bits_are}
use Rattle.vk_judge.proofs.two_halt.accepted_of.Goals as goal

pub returns-then-eq : goal.returns-then-eq
returns-then-eq c = sym (ap (λ same. if same then Same else Ready)
    (sym (same_bits_are c.args.first.now c.args.second.now) ∙ sym c.eq.ensures ∙ c.if-eq.true))

pub returns-else-eq : goal.returns-else-eq
returns-else-eq c = sym (ap (λ same. if same then Same else Ready)
    (sym (same_bits_are c.args.first.now c.args.second.now) ∙ sym c.eq.ensures ∙ c.if-eq.false))
