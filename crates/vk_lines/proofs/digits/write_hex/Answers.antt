use Rattle.std.proofs.Common.{◌∙◌, arith}
use Rattle.std.proofs.lemmas.List.{length-set}
use Rattle.hex.specs.Hex.{lower_digits}
use Rattle.hex.proofs.Pairs.{encode_step, encode_done}
use Rattle.vk_lines.proofs.digits.write_hex.Goals as goal

pub loop-index-preserved : goal.loop-index-preserved
loop-index-preserved c = record {
  room = length-set _ _ _ ∙ length-set _ _ _ ∙ c.loop-index.invariant.room;
  digits = encode_step lower_digits c.args.bytes.now c.loop-index.text c.loop-index.index _ _
      c.loop-index-test.true
      (omega (arith, c.loop-index.invariant.room, c.loop-index-test.true)) c.hex_digit.ensures
      c.hex_digit-in-loop-index.ensures c.loop-index.invariant.digits;
}

pub returns : goal.returns
returns c = encode_done lower_digits _ _ _ (omega arith) (omega arith) c.loop-index.invariant.digits
