use Rattle.vk_bids.proofs.Binding.{only_accepted_are_confronted, others_are_malformed, sealed_are_held_or_clash, secrets_are_bound}
use Rattle.vk_bids.proofs.ConfrontNamed.{files_are_confronted}
use Rattle.vk_bids.proofs.laws.a_secret_is_bound_by_accepted_replies.Goals as goal

pub returns : goal.returns
returns c =
    assumption (
      secrets_are_bound,
      sealed_are_held_or_clash,
      others_are_malformed,
      only_accepted_are_confronted,
      files_are_confronted,
    )
