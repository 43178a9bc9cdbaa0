use Rattle.vk_effect.proofs.Acting.{read_and_said}
use Rattle.vk_words.specs.Claims.{claim_order_seen}
use Rattle.vk_claims.specs.Orders.{claim_said}
use Rattle.vk_app.proofs.command.read_claim.Goals as goal

pub returns-clause-acts : goal.returns-clause-acts
returns-clause-acts g c = record {
  acts = λ ledger. read_and_said (λ files. claim_said files (claim_order_seen c.args.order.now)) _
      _ ledger _ c.audit_claim-said.ensures.shelf.held c.audit_claim-said.ensures.said;
  causes = c.audit_claim-said.ensures.shelf.causes;
}

pub returns-clause-wanting : goal.returns-clause-wanting
returns-clause-wanting g c = c.audit_claim-said.ensures.wanting
