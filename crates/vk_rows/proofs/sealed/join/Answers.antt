use Rattle.std.proofs.Common.{◌≡◌, true, ap, rules}
use Rattle.std.specs.Option.{is_some}
use Rattle.vk_keeper.specs.Joining.{join_refusal}
use Rattle.vk_rows.proofs.Joins.{last_joins}
use Rattle.vk_rows.proofs.sealed.join.Goals as goal

pub returns-then-is_some-clause-exact : goal.returns-then-is_some-clause-exact
returns-then-is_some-clause-exact c failed is =
    let none = last_joins c.args.auction.now c.args.row is in
    let some : is_some (join_refusal c.args.auction.now c.args.row.seal c.args.row.secret) ≡ true =
    search rules in
    absurd (let e = ap is_some none in cc)
