use Rattle.std.proofs.Common.{arith, sym, ◌∙◌, subst}
use Rattle.vk_prover.specs.Laws.{IsTapeOf}
use Rattle.vk_job.specs.Proofs.{IsPrepared, IsProof, source_of}
use Rattle.vk_job.proofs.Drawing.{lane_tape_is, one_tape_each, prepared_tape}
use Rattle.vk_job.proofs.proof.HonestProof.tape.Goals as goal

pub bounds-as_slice-lane : goal.bounds-as_slice-lane
bounds-as_slice-lane c =
    let proof = c.args.self.now in
    let is = subst (λ p. IsPrepared p c.self.inside.made.now) c.self.view_is c.self.invariant.1 in
    omega (
      arith,
      one_tape_each (source_of proof) c.as_slice.result.now (c.as_slice.ensures ∙ is.tapes),
      c.requires.some,
      c.requires.last,
    )

pub returns-clause-tape : goal.returns-clause-tape
returns-clause-tape c =
    let proof = c.args.self.now in
    let is = subst (λ p. IsPrepared p c.self.inside.made.now) c.self.view_is c.self.invariant.1 in
    prepared_tape proof c.self.inside.made.now c.as_slice.result.now c.args.lane
    c.index-as_slice-lane.result is c.as_slice.ensures c.requires.some c.requires.last
    c.index-as_slice-lane.is

pub returns-clause-of_plan : goal.returns-clause-of_plan
returns-clause-of_plan c =
    let proof = c.args.self.now in
    let is = subst (λ p. IsPrepared p c.self.inside.made.now) c.self.view_is c.self.invariant.1 in
    let found = prepared_tape proof c.self.inside.made.now c.as_slice.result.now c.args.lane
    c.index-as_slice-lane.result is c.as_slice.ensures c.requires.some c.requires.last
    c.index-as_slice-lane.is in
    let right = subst IsProof c.self.view_is c.self.invariant.0 in
    subst (IsTapeOf proof.plan) (sym found)
    (lane_tape_is proof c.args.lane right c.requires.some c.requires.last)
