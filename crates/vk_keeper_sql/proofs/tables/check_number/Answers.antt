use Rattle.std.proofs.Common.{◌≢◌, arith, refl, rules}
use Rattle.vk_keeper_sql.specs.declared.errors.OpenErr.TheVariants.{Refused}
use Rattle.vk_keeper_sql.specs.Unopened.{not_read, not_its_own}
use Rattle.vk_keeper_sql.proofs.Steps.{found_otherwise, refused_as}
use Rattle.vk_keeper_sql.proofs.tables.check_number.Goals as goal

pub returns-in_err-number_in-clause-works : goal.returns-in_err-number_in-clause-works
returns-in_err-number_in-clause-works g c =
    refused_as c.in_err-number_in.field-0.0 c.in_err-number_in.ensures.works not_read (search rules)

pub returns-then-branch-number-clause-works : goal.returns-then-branch-number-clause-works
returns-then-branch-number-clause-works g c =
    let apart : c.in_ok-number_in.field-0 ≢ c.args.number =
    λ same. omega (arith, same, c.if-branch-number.true) in
    found_otherwise Refused c.in_ok-number_in.ensures.works
    (λ numbered. not_its_own c.in_ok-number_in.field-0 numbered apart refl) refl
