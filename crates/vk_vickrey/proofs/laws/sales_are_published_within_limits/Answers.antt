use Rattle.vk_vickrey.specs.BoardCases.{claimed_case, claimed_vickrey_case}
use Rattle.vk_vickrey.proofs.laws.sales_are_published_within_limits.Goals as goal

pub returns : goal.returns
returns c = record {
  sale = claimed_case;
  outcome = claimed_vickrey_case;
}
