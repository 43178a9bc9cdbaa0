use Rattle.vk_effect.proofs.Acting.{read_and_said}
use Rattle.vk_words.specs.Audits.{audit_seen}
use Rattle.vk_audit.specs.Audits.{audit_said}
use Rattle.vk_app.proofs.command.read.Goals as goal

pub returns-clause-acts : goal.returns-clause-acts
returns-clause-acts g c = record {
  acts = λ ledger. read_and_said (λ files. audit_said files (audit_seen c.args.order.now)) _ _
      ledger _ c.audit-said.ensures.shelf.held c.audit-said.ensures.said;
  causes = c.audit-said.ensures.shelf.causes;
}

pub returns-clause-wanting : goal.returns-clause-wanting
returns-clause-wanting g c = c.audit-said.ensures.wanting
