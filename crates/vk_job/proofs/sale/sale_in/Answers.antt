use Rattle.std.proofs.Common.{◌≡◌, ap, ◌∙◌, arith, map, take, length}
use Rattle.vk_job.specs.Jobs.{bids_of}
use Rattle.vk_job.proofs.Held.{length_bids}
use Rattle.vk_job.proofs.Sales.{sale_same}
use Rattle.vk_job.proofs.sale.sale_in.Goals as goal

pub returns : goal.returns
returns c =
    let auction = c.args.auction.now in
    let bids : take (length c.as_slice-rows.result.now) c.bids_of-bids.result ≡ bids_of auction =
    c.bids_of-bids.ensures ∙ ap (map (λ row. row.secret.bid)) c.as_slice-rows.ensures in
    sale_same (bids_of auction) auction.reserve c.sale_of-sale.result
    (omega (arith, length_bids auction)) (rw bids at c.sale_of-sale.ensures.sale)
