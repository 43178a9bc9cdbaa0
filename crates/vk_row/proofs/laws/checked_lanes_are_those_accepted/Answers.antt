use Rattle.vk_row.proofs.Whole.{ok_accepted, accepted_ok, err_faulty, faulty_err}
use Rattle.vk_row.proofs.laws.checked_lanes_are_those_accepted.Goals as goal

pub returns : goal.returns
returns c plan case bit shown is_plan counts = (
  λ halves. (
    ok_accepted plan case bit shown halves is_plan counts,
    accepted_ok plan case bit shown halves is_plan,
  ),
  λ fault. (
    err_faulty plan case bit shown fault is_plan counts,
    faulty_err plan case bit shown fault is_plan counts,
  ),
)
