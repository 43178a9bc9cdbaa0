use Rattle.std.proofs.Common.{rules, ◌≡◌, Some, None}
use Rattle.vk_reply.specs.Tokens.{bits_of}
use Rattle.vk_reply.proofs.Lines.{bits_token}
use Rattle.vk_rows.proofs.Misses.{nowhere}
use Rattle.vk_rows.proofs.Same.{bits_found}
use Rattle.vk_rows.proofs.columns.challenge_of.Goals as goal

pub returns-clause-value : goal.returns-clause-value
returns-clause-value c =
    let read : bits_of c.args.text.now ≡ Some c.in_ok-bits-2.bits = search rules in
    (bits_token.shown c.args.text.now c.in_ok-bits-2.bits read).1

pub returns-in_err-bits-2-clause-exact : goal.returns-in_err-bits-2-clause-exact
returns-in_err-bits-2-clause-exact c =
    let none : bits_of c.args.text.now ≡ None = search rules in
    nowhere _ c.from_residual-in_err-bits-2.result
    (λ challenge is. bits_found c.args.text.now challenge is none)
