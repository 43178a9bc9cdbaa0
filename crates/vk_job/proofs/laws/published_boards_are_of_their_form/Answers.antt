use Rattle.std.proofs.Common.{◌+◌, refl}
use Rattle.vk_range.specs.SetLaws.{length_listed}
use Rattle.vk_job.specs.Published.{head_of, lane_of}
use Rattle.vk_job.specs.Jobs.{proof_of}
use Rattle.vk_job.proofs.Held.{has_seal, proof_is}
use Rattle.vk_job.proofs.Parts.{head_is, seals_are, lanes_are, shown_is, reply_is}
use Rattle.vk_job.proofs.laws.published_boards_are_of_their_form.Goals as goal

pub returns-clause-version : goal.returns-clause-version
unfolding head_of
returns-clause-version c auction = refl

pub returns-clause-head : goal.returns-clause-head
returns-clause-head c auction proved = head_is auction proved.right (has_seal auction proved)

pub returns-clause-seals : goal.returns-clause-seals
returns-clause-seals c auction proved = seals_are auction proved.right

pub returns-clause-count : goal.returns-clause-count
returns-clause-count c auction = length_listed (λ index. lane_of auction (index + 1)) auction.lanes

pub returns-clause-lanes : goal.returns-clause-lanes
returns-clause-lanes c = lanes_are

pub returns-clause-shown : goal.returns-clause-shown
returns-clause-shown c proof right bit lane some last = shown_is proof lane bit right some last

pub returns-clause-replies : goal.returns-clause-replies
returns-clause-replies c proof is challenge right count = reply_is proof challenge is right count

pub returns-clause-auction_lanes : goal.returns-clause-auction_lanes
returns-clause-auction_lanes c auction proved =
    lanes_are (proof_of auction) (proof_is auction proved)

pub returns-clause-auction_shown : goal.returns-clause-auction_shown
returns-clause-auction_shown c auction proved bit lane some last =
    shown_is (proof_of auction) lane bit (proof_is auction proved) some last

pub returns-clause-auction_replies : goal.returns-clause-auction_replies
returns-clause-auction_replies c auction proved challenge right count =
    reply_is (proof_of auction) challenge (proof_is auction proved) right count
