use Rattle.std.proofs.Common.{sym, ◌∙◌, arith, rules}
use Rattle.std.proofs.lemmas.List.{length_push}
use Rattle.vk_row.proofs.Steps.{next_half}
use Rattle.vk_row.proofs.wires.read_group.Goals as goal

pub returns-in_err-half-clause-fault : goal.returns-in_err-half-clause-fault
returns-in_err-half-clause-fault c =
    let step = next_half _ _ _ _ _ _ _ _ _ _ _ _ c.requires.counts c.hash_group-opened.ensures
    c.loop-wire.invariant.so_many (omega arith) (omega arith) (omega arith) c.kind.ensures.read
    c.index-shown-at.is
    (λ place made. rw c.as_slice.ensures at (c.read_opened-read.ensures place made))
    c.at_wire.ensures in
    let fault = sym c.loop-wire.invariant.rest ∙ rw c.in_err-half.was at step in
    search rules

pub loop-wire-preserved : goal.loop-wire-preserved
loop-wire-preserved c =
    let step = next_half _ _ _ _ _ _ _ _ _ _ _ _ c.requires.counts c.hash_group-opened.ensures
    c.loop-wire.invariant.so_many (omega arith) (omega arith) (omega arith) c.kind.ensures.read
    c.index-shown-at.is
    (λ place made. rw c.as_slice.ensures at (c.read_opened-read.ensures place made))
    c.at_wire.ensures in
    let half = rw (c.in_ok-half.was, ← c.in_ok-keep.ensures) at step in
    record { so_many = search (rules, length_push); rest = sym half ∙ c.loop-wire.invariant.rest }
