use Rattle.std.proofs.Common.{◌≡◌, List, subst, ap, ◌∙◌}
use Rattle.vk_io.specs.Files.{Modelled}
use Rattle.vk_io.specs.Writing.{WritesAll}
use Rattle.vk_keeper.specs.declared.auction.SealRow.{SealRow}
use Rattle.vk_job.specs.Proofs.{ProofValue, prepared_proof}
use Rattle.vk_report.specs.declared.sample.SampleCase.{SampleCase}
use Rattle.vk_claims.specs.declared.making.Made.{Made}
use Rattle.vk_claims.proofs.Pieces.{texts_from}
use Rattle.vk_claims.specs.Claims.{proof_in}
use Rattle.vk_claims.proofs.files.write_claim.Goals as goal

-- the proof is that of what was made
same_parts : (case : SampleCase) (made : Made) (proof : ProofValue) (rows : List SealRow)
    → proof ≡ prepared_proof case.auction rows case.lanes case.seed made.prepared
    → rows ≡ made.rows → proof ≡ proof_in case made
same_parts case made proof rows is rows_are =
    is ∙ ap (λ r. prepared_proof case.auction r case.lanes case.seed made.prepared) rows_are

pub returns-clause-written : goal.returns-clause-written
returns-clause-written g c =
    subst (λ texts. Modelled (WritesAll texts c.write_files-written.result)
    (g.S.Shelf.held c.args.shelf.now) (g.S.Shelf.held c.write_files-written.new.shelf))
    (texts_from _ _ _ (proof_in c.args.case.now c.args.made.now) c.args.kind c.args.case.now
    c.args.numbers.now c.claim_names.ensures
    (c.as_slice-2.ensures.value ∙ c.in_ok-head.ensures)
    (same_parts c.args.case.now c.args.made.now _ _ c.of-proof.ensures c.as_slice.ensures))
    c.write_files-written.ensures.written
