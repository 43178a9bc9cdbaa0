use Rattle.vk_job.specs.Jobs.{proof_of}
use Rattle.vk_job.proofs.Held.{has_seal, proof_is, sale_is}
use Rattle.vk_job.proofs.Drawing.{lane_tape_is}
use Rattle.vk_job.proofs.laws.proved_auctions_hold.Goals as goal

pub returns-clause-sale : goal.returns-clause-sale
returns-clause-sale c auction proved = sale_is auction (has_seal auction proved)

pub returns-clause-plan : goal.returns-clause-plan
returns-clause-plan c auction proved = (proof_is auction proved).plan

pub returns-clause-values : goal.returns-clause-values
returns-clause-values c auction proved = (proof_is auction proved).values

pub returns-clause-proof : goal.returns-clause-proof
returns-clause-proof c = proof_is

pub returns-clause-tapes : goal.returns-clause-tapes
returns-clause-tapes c proof right lane some last = lane_tape_is proof lane right some last

pub returns-clause-auction_tapes : goal.returns-clause-auction_tapes
returns-clause-auction_tapes c auction proved lane some last =
    lane_tape_is (proof_of auction) lane (proof_is auction proved) some last
