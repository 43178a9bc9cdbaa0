use Rattle.std.proofs.Common.{inr, refl}
use Rattle.vk_program.specs.Refusals.{unopened_outside}
use Rattle.vk_program.proofs.performing.perform_asking.Goals as goal

pub returns-in-Err : goal.returns-in-Err
returns-in-Err g c =
    inr record {
      refusal = unopened_outside c.in-Err.refusal;
      same = rw c.in-Err.ensures.ledger refl;
      causes = c.in-Err.ensures.causes;
      status_is = c.refuse.ensures;
    }
