use Rattle.std.proofs.Common.{◌≡◌, ◌+◌, ◌-◌, ◌%◌, arith, append_assoc, decimal, append-nil}
use Rattle.std.proofs.lemmas.Fmt.{decimal_digit, decimal_step, length-decimal-le, decimal_nonempty}
use Rattle.std.proofs.lemmas.List.{drop-set, drop_all}
use Rattle.vk_lines.proofs.Decimals.{length-decimal_step}
use Rattle.vk_lines.proofs.tokens.write_digits.Goals as goal

pub loop-rest-init : goal.loop-rest-init
loop-rest-init c = record {
  room = length-decimal-le 20 c.args.number (omega arith) (omega arith) (omega arith);
  within = omega arith;
  less = omega arith;
  written = rw (drop_all 20 c.args.digits.now (omega arith)) (append-nil (decimal c.args.number));
}

pub overflow_sub-start : goal.overflow_sub-start
overflow_sub-start c =
    let long = length-decimal_step c.loop-rest.rest c.loop-rest-test.true (omega arith) in
    omega arith

pub loop-rest-preserved : goal.loop-rest-preserved
loop-rest-preserved c =
    let l = c.loop-rest in
    let long = length-decimal_step l.rest c.loop-rest-test.true (omega arith) in
    let next : l.start - 1 + 1 ≡ l.start = omega arith in
    record {
      room = omega arith;
      within = omega arith;
      less = omega arith;
      written = rw (drop-set l.digits (l.start - 1) (48 + l.rest % 10) (omega arith), next)
          (rw (decimal_step l.rest c.loop-rest-test.true (omega arith), append_assoc) at
          l.invariant.written);
    }

pub overflow_sub-start-2 : goal.overflow_sub-start-2
overflow_sub-start-2 c = let some = decimal_nonempty c.loop-rest.rest (omega arith) in omega arith

pub returns-clause-written : goal.returns-clause-written
returns-clause-written c =
    let l = c.loop-rest in
    let some = decimal_nonempty l.rest (omega arith) in
    let next : l.start - 1 + 1 ≡ l.start = omega arith in
    rw (drop-set l.digits (l.start - 1) (48 + l.rest) (omega arith), next)
    (rw (decimal_digit l.rest (omega arith)) at l.invariant.written)
