use Rattle.vk_job.proofs.Held.{bids_are_residues, claim_is}
use Rattle.vk_job.proofs.sale.values_of.Goals as goal

pub inputs_of-requires : goal.inputs_of-requires
inputs_of-requires c = rw c.as_slice.ensures (bids_are_residues c.args.auction.now c.requires.right)

pub fill-requires : goal.fill-requires
fill-requires c =
    rw (
      c.circuit_of.ensures,
      c.as_slice-2.ensures.value,
      c.in_ok-inputs.ensures,
      c.as_slice.ensures,
    ) (claim_is c.args.auction.now c.requires.right c.requires.sealed)
