-- What an auditor's command is to do.
use Rattle.std.specs.Prelude.{ℕ, List}
use Rattle.vk_words.specs.declared.audits.AuditOrder.{AuditOrder}
use Rattle.vk_words.specs.declared.audits.AuditOrder.TheVariants as orders
use Rattle.vk_words.specs.Names.{ConfrontWords, ExtractWords, VerifyWords, confront_seen, extract_seen, verify_seen}

-- what is to be audited, by the names of the files
pub data AuditWords : Type 0 where
  Verify : VerifyWords → AuditWords
  Extract : ExtractWords → AuditWords
  Confront : ConfrontWords → AuditWords
  Report : List ℕ → AuditWords

abbrev pub audit_seen : AuditOrder → AuditWords
audit_seen (orders.Verify names) = Verify (verify_seen names)
audit_seen (orders.Extract names) = Extract (extract_seen names)
audit_seen (orders.Confront names) = Confront (confront_seen names)
audit_seen (orders.Report board) = Report board.now
