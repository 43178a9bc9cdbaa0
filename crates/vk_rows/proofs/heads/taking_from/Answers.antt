use Rattle.std.proofs.Common.{◌≡◌, ℕ, pos, subst, rules}
use Rattle.sqlite.specs.Order.{column}
use Rattle.sqlite.specs.declared.types.Value.TheVariants.{Int}
use Rattle.vk_residue.specs.Limits.{IsSize}
use Rattle.vk_keeper.specs.Auctions.{IsTerms}
use Rattle.vk_rows.proofs.Exact.{one_number}
use Rattle.vk_rows.proofs.Misses.{passed}
use Rattle.vk_rows.proofs.heads.taking_from.Goals as goal

pub returns-in_err-width-clause-exact : goal.returns-in_err-width-clause-exact
returns-in_err-width-clause-exact c =
    passed (λ (size : ℕ × ℕ). IsSize size.0 size.1
    × (column c.args.head.now 0 ≡ Int (pos size.0)) × (column c.args.head.now 1 ≡ Int (pos size.1)))
    _ c.size_from.result c.from_residual.result (search rules) c.size_from.ensures.exact
    (λ auction there. (
      (auction.width, auction.lanes),
      (there.0.held.size, there.1.width, there.1.lanes),
    ))

pub returns-in_err-version-clause-exact : goal.returns-in_err-version-clause-exact
returns-in_err-version-clause-exact c =
    passed (λ (terms : ℕ × ℕ). IsTerms terms.0 c.in_ok-width.width terms.1
    × (column c.args.terms.now 0 ≡ Int (pos terms.0))
    × (column c.args.terms.now 1 ≡ Int (pos terms.1)))
    _ c.terms_from.result c.from_residual-in_err-version.result (search rules)
    c.terms_from.ensures.exact
    (λ auction there.
    let width = one_number _ auction.width c.in_ok-width.width there.1.width
    c.in_ok-width.ensures.width in (
      (auction.version, auction.reserve),
      (
        subst (λ width. IsTerms auction.version width auction.reserve) width there.0.terms,
        there.2.version,
        there.2.reserve,
      ),
    ))
