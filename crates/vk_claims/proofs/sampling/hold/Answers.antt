use Rattle.std.proofs.Common.{string_bytes}
use Rattle.std.specs.List.{flat_map}
use Rattle.std.proofs.lemmas.Result.{err_from_is_err_and}
use Rattle.vk_effect.specs.Effects.{stores}
use Rattle.vk_sample_parts.proofs.Acting.{stopped_first, writing_stopped}
use Rattle.vk_claims.proofs.Acting.{read_acts}
use Rattle.vk_claims.proofs.Proofs.{is_honest}
use Rattle.vk_claims.proofs.Shown.{is_shown}
use Rattle.vk_claims.specs.Claims.{proof_in}
use Rattle.vk_claims.specs.Texts.{files_of, summary_said}
use Rattle.vk_claims.proofs.sampling.hold.Goals as goal

pub returns-in_err-lines-clause-acts : goal.returns-in_err-lines-clause-acts
returns-in_err-lines-clause-acts g c =
    let p = err_from_is_err_and c.from_residual.result c.from_residual.ensures.1 in
    rw p.1 (λ ledger. stopped_first _ (stores (g.S.Shelf.held c.args.shelf.now) ledger) p.0)

pub returns-in_err-write_claim-clause-acts : goal.returns-in_err-write_claim-clause-acts
returns-in_err-write_claim-clause-acts g c =
    let p = err_from_is_err_and c.from_residual-in_err-write_claim.result
    c.from_residual-in_err-write_claim.ensures.1 in
    let proof = proof_in c.args.case.now c.args.made.now in
    rw p.1
    (λ ledger. writing_stopped (files_of c.args.kind c.args.case.now c.args.numbers.now proof)
    (summary_said c.args.kind c.args.number proof) ledger
    (g.S.Shelf.held c.args.shelf.now) (g.S.Shelf.held c.write_claim.new.shelf) p.0
    c.in_err-write_claim.ensures.written)

pub returns-clause-acts : goal.returns-clause-acts
returns-clause-acts g c = λ ledger.
    read_acts c.args.kind c.args.case.now c.requires.right c.args.numbers.now
    c.requires.published (proof_in c.args.case.now c.args.made.now) c.requires.made
    c.args.number (flat_map string_bytes c.in_ok-lines.lines.items) c.in_ok-lines.ensures.made ledger
    (g.S.Shelf.held c.args.shelf.now) (g.S.Shelf.held c.write_claim.new.shelf)
    (g.S.Shelf.held c.read_back-said.new.shelf) c.read_back-said.result
    c.in_ok-write_claim.ensures.written c.read_back-said.ensures.shelf.held
    c.read_back-said.ensures.said

pub write_claim-requires-clause-right : goal.write_claim-requires-clause-right
write_claim-requires-clause-right g c =
    let case = c.args.case.now in
    let numbers = c.args.numbers.now in
    is_honest c.args.kind case c.requires.right.right numbers
    (is_shown c.args.kind case c.requires.right numbers c.requires.published)
    (proof_in case c.args.made.now) c.requires.made
