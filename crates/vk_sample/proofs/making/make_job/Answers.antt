use Rattle.std.proofs.Common.{rules}
use Rattle.vk_sample_parts.specs.Auctions.{auction_by, auction_of}
use Rattle.vk_sample_parts.proofs.Auctions.{all_rows, is_auction}
use Rattle.vk_sample_parts.proofs.Rows.{job_made, rows_refused}
use Rattle.vk_sample.proofs.making.make_job.Goals as goal

pub of-requires-clause-right : goal.of-requires-clause-right
of-requires-clause-right c =
    let rows = c.in_ok-seals.seals in
    is_auction c.args.sample.now c.requires.right rows
    (all_rows c.args.sample.now c.requires.right rows c.in_ok-seals.ensures)

pub returns-in_err-seals-clause-made : goal.returns-in_err-seals-clause-made
unfolding auction_of
returns-in_err-seals-clause-made c = rows_refused c.args.sample.now (auction_by c.args.sample.now) _ _
    c.in_err-seals.field-0.0 (search rules) c.in_err-seals.ensures

pub returns-clause-made : goal.returns-clause-made
unfolding auction_of
returns-clause-made c = job_made c.args.sample.now c.in_ok-seals.seals c.in_ok-job.job c.in_ok-seals.ensures
    c.in_ok-job.ensures
