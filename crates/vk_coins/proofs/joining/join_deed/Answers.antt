use Rattle.std.proofs.Common.{Err, sym, ap, ◌∙◌}
use Rattle.vk_words.specs.Coins.{challenge_seen}
use Rattle.vk_effect.specs.Effects.{only_says}
use Rattle.vk_coins.specs.Joining.{joined_if}
use Rattle.vk_coins.proofs.joining.join_deed.Goals as goal

pub returns-in_ok-said-in-Err-Part : goal.returns-in_ok-said-in-Err-Part
returns-in_ok-said-in-Err-Part c =
    c.says-in-Err-Part.ensures
    ∙ (ap only_says c.in_ok-said-in-Err-Part.ensures
    ∙ sym (ap (joined_if (challenge_seen c.args.names.now) c.args.coin.now)
    ((c.in-Err-Part.ensures.part c.in-Err-Part.auditor).0 (ap Err c.in-Err-Part.field-0-is))))
