use Rattle.std.proofs.Common.{◌≡◌, Ok, rules}
use Rattle.vk_seal.specs.Values.{IsSeal, IsSecret}
use Rattle.vk_seal.specs.Texts.{seal_text, secret_text}
use Rattle.vk_seal.specs.Tables.{seal_table, secret_table}
use Rattle.vk_rows.proofs.Readable.{seal_reads, seal_short, secret_reads, secret_short, unheld, unread}
use Rattle.vk_rows.proofs.stored.read_texts.Goals as goal

pub returns-clause-seal_text : goal.returns-clause-seal_text
returns-clause-seal_text c =
    let read : c.read_seal.result ≡ Ok c.in_ok-seal.seal = search rules in
    (rw read at (c.read_seal.ensures.reads.answers c.args.seal_text.now
    c.in_ok-shelf.ensures.rest)).1

pub returns-clause-secret_text : goal.returns-clause-secret_text
returns-clause-secret_text c =
    let read : c.read_secret.result ≡ Ok c.in_ok-secret.secret = search rules in
    (rw read at (c.read_secret.ensures.reads.answers c.args.secret_text.now
    c.in_ok-shelf-2.ensures.rest)).1

pub returns-clause-right : goal.returns-clause-right
returns-clause-right c =
    let seal : c.read_seal.result ≡ Ok c.in_ok-seal.seal = search rules in
    let secret : c.read_secret.result ≡ Ok c.in_ok-secret.secret = search rules in
    (rw seal at c.read_seal.ensures.reads.right, rw secret at c.read_secret.ensures.reads.right)

pub returns-in_err-shelf-clause-exact : goal.returns-in_err-shelf-clause-exact
returns-in_err-shelf-clause-exact c =
    unheld IsSeal seal_text _ c.args.seal_text.now c.from_residual.result seal_short
    (λ row there. (row.seal, there.0.0, there.1))
    (λ failed. c.lines_of.ensures.exact (search (rules, failed)))

pub returns-in_err-shelf-2-clause-exact : goal.returns-in_err-shelf-2-clause-exact
returns-in_err-shelf-2-clause-exact c =
    unheld IsSecret secret_text _ c.args.secret_text.now c.from_residual-in_err-shelf-2.result
    secret_short (λ row there. (row.secret, there.0.1, there.2))
    (λ failed. c.lines_of-2.ensures.exact (search (rules, failed)))

pub returns-in_err-seal-clause-exact : goal.returns-in_err-seal-clause-exact
returns-in_err-seal-clause-exact c =
    unread IsSeal seal_text seal_table _ c.args.seal_text.now c.from_residual-in_err-seal.result
    seal_reads (λ row there. (row.seal, there.0.0, there.1)) c.read_seal.result (search rules)
    (λ refusal is. search (rules, is))
    (c.read_seal.ensures.reads.answers c.args.seal_text.now c.in_ok-shelf.ensures.rest)
    c.read_seal.ensures.reads.shelf.causes

pub returns-in_err-secret-clause-exact : goal.returns-in_err-secret-clause-exact
returns-in_err-secret-clause-exact c =
    unread IsSecret secret_text secret_table _ c.args.secret_text.now
    c.from_residual-in_err-secret.result secret_reads
    (λ row there. (row.secret, there.0.1, there.2)) c.read_secret.result (search rules)
    (λ refusal is. search (rules, is))
    (c.read_secret.ensures.reads.answers c.args.secret_text.now c.in_ok-shelf-2.ensures.rest)
    c.read_secret.ensures.reads.shelf.causes
