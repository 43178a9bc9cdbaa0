-- How `claim-sample matching` ends, from how it acts: it has no single effect.
use Rattle.std.proofs.Common.{◌≡◌, ◌≢◌, ℕ, List, Some, Ok, Err, subst}
use Rattle.std.specs.Prelude.{◌⊎◌}
use Rattle.vk_io.specs.declared.errors.OutsideErr.{OutsideErr}
use Rattle.vk_words.specs.declared.claim.Kind.TheVariants.{Matching}
use Rattle.vk_words.specs.Commands.{ClaimSample, command_words}
use Rattle.vk_effect.specs.Effects.{Outside}
use Rattle.vk_app.specs.Commands.{CommandEndsFreely}
use Rattle.vk_app.specs.Promises.{SamplesMatching}
use Rattle.vk_app.proofs.Kept.{neither}

module _ (words : List (List ℕ)) (status : ℕ) (old new : Outside) where
  pub sampled_done : CommandEndsFreely (command_words words) (Ok status) old new → status ≢ 6
      → status ≢ 9 → (number : ℕ) → command_words words ≡ Some (ClaimSample Matching number)
      → SamplesMatching number status old new
  sampled_done free no_fault no_want number is = record {
    done = λ _ _. subst (λ command. CommandEndsFreely command (Ok status) old new) is free;
    stopped = λ stop. neither _ status stop no_fault no_want;
  }

  pub sampled_stopped : (stop : OutsideErr)
      → CommandEndsFreely (command_words words) (Err stop) old new → (status ≡ 6) ⊎ (status ≡ 9)
      → (number : ℕ) → command_words words ≡ Some (ClaimSample Matching number)
      → SamplesMatching number status old new
  sampled_stopped stop free is_stop number is = record {
    done = neither _ status is_stop;
    stopped = λ _. subst (λ command. CommandEndsFreely command (Err stop) old new) is free;
  }
