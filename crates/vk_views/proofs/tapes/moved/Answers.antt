use Rattle.std.proofs.Common.{◌≡◌, ◌∙◌, sym, subst, arith, slice_index, slice_index_or}
use Rattle.std.proofs.lemmas.List.{get_or_default}
use Rattle.std.proofs.lemmas.List.Elements.{All-more}
use Rattle.std.proofs.lemmas.Option.{get_or_from_slice_get}
use Rattle.vk_plan.specs.declared.wire.WireKind.TheVariants.{Split}
use Rattle.vk_wire.specs.Values.{IsTape}
use Rattle.vk_prover.specs.Honest.{no_tape}
use Rattle.vk_prover.proofs.Wires.{each_wire_turn, each_wire_done}
use Rattle.vk_views.specs.Moved.{moved_wire, moved_tape}
use Rattle.vk_views.proofs.Lanes.{all_moved}
use Rattle.vk_views.proofs.tapes.moved.Goals as goal

pub loop-wire-preserved : goal.loop-wire-preserved
loop-wire-preserved c =
    let kinds = c.args.plan.now.kinds in
    let tape = c.args.tape.now.wires in
    let wire = c.loop-wire.wire in
    let kind : c.kind.result ≡ slice_index_or kinds wire Split =
    sym (get_or_from_slice_get kinds wire c.kind.result Split c.kind.ensures.value) in
    let value : c.index-values-at.result ≡ slice_index c.args.values.now wire = c.index-values-at.is
    ∙ get_or_default c.args.values.now wire c.index-values-at.result 0 (omega arith) in
    let other : c.index-others-at.result ≡ slice_index c.args.others.now wire = c.index-others-at.is
    ∙ get_or_default c.args.others.now wire c.index-others-at.result 0 (omega arith) in
    let own : c.index-as_slice-at.result ≡ slice_index_or tape wire no_tape =
    (rw c.as_slice.ensures at c.index-as_slice-at.is)
    ∙ get_or_default tape wire c.index-as_slice-at.result no_tape (omega arith) in
    record {
      moved = each_wire_turn (λ wire kind value own. moved_wire kind value
          (slice_index c.args.others.now wire) c.args.bit own) kinds c.args.values.now tape wire
          c.loop-wire.wires c.push.new.self c.moved_wire-moved.result
          (moved_tape kinds c.args.values.now c.args.others.now c.args.bit tape)
          (omega arith) c.requires.values.one_each c.requires.one_each c.in_ok-push.ensures.pushed
          (c.moved_wire-moved.ensures.moved ∙ cc (kind, value, other, own))
          c.loop-wire.invariant.moved;
      tapes = All-more IsTape tape wire no_tape (omega arith) c.loop-wire.invariant.tapes
          (subst IsTape own c.moved_wire-moved.ensures.tape);
    }

pub returns : goal.returns
returns c =
    let plan = c.args.plan.now in
    let values = c.args.values.now in
    let others = c.args.others.now in
    let tape = c.args.tape.now.wires in
    let wire = c.loop-wire.wire in
    let moved = each_wire_done
    (λ wire kind value own. moved_wire kind value (slice_index others wire) c.args.bit own)
    plan.kinds values tape wire c.loop-wire.wires
    (moved_tape plan.kinds values others c.args.bit tape) (omega arith) c.loop-wire.invariant.moved
    in
    let all = all_moved plan values others c.args.bit tape c.loop-wire.wires wire
    c.wires-wire-end.ensures.plan c.requires.values c.requires.others c.requires.one_each
    (omega arith) c.loop-wire.invariant.tapes moved in
    record { moved = moved; tape = all.is_tape; view = all.view; back = all.back }
