use Rattle.vk_app.proofs.Accepted.{challenges_are_answered, derived_are_answered, left_replies_are_accepted, replies_are_accepted}
use Rattle.vk_app.proofs.laws.what_is_answered_is_accepted.Goals as goal

pub returns : goal.returns
returns c =
    assumption (
      replies_are_accepted,
      challenges_are_answered,
      derived_are_answered,
      left_replies_are_accepted,
    )
