use Rattle.std.proofs.Common.{rules, sym, ◌∙◌}
use Rattle.vk_judge.specs.declared.stage.Stage.TheVariants.{Running}
use Rattle.vk_judge.specs.Opened.{GoesOn}
use Rattle.vk_judge.proofs.TwoFound.{next_given, went_on}
use Rattle.vk_judge.proofs.two.next_on_course.Goals as goal

pub returns-clause-modelled : goal.returns-clause-modelled
returns-clause-modelled g c =
    went_on _ c.args.course _ _
    (λ files before. GoesOn before c.in_ok-next.next.1 (Running c.in_ok-next.next.0) files)
    (sym c.is_some.ensures ∙ c.if-is_some.false) c.in_ok-next.ensures.modelled
    c.next_step-step.ensures.modelled

pub returns-clause-step : goal.returns-clause-step
returns-clause-step g c =
    record {
      next = next_given c.args.course c.in_ok-next.next.0 c.in_ok-next.next.1
          c.in_ok-next.ensures.right c.in_ok-next.ensures.next;
      none = search rules;
      base = search rules;
    }
