use Rattle.std.proofs.Common.{Ok, refl}
use Rattle.std.proofs.lemmas.Result.{err_from_is_err_and}
use Rattle.vk_job.specs.Published.{head_of}
use Rattle.vk_effect.specs.Effects.{stores}
use Rattle.vk_effect.proofs.Acting.{if_some_map}
use Rattle.vk_sample_parts.specs.Auctions.{auction_of, dry_of}
use Rattle.vk_sample_parts.specs.Effects.{modelled_effect}
use Rattle.vk_sample.specs.Samples.{sample_on}
use Rattle.vk_sample_parts.specs.Texts.{dry_said}
use Rattle.vk_sample.specs.Texts.{files_of, summary_said}
use Rattle.vk_sample_parts.proofs.Acting.{dry_acts, same_said, stopped_first}
use Rattle.vk_sample.proofs.Acting.{sample_acts}
use Rattle.vk_sample.proofs.sampling.sample.Goals as goal

pub returns-in_err-sample-clause-acts : goal.returns-in_err-sample-clause-acts
returns-in_err-sample-clause-acts g c =
    let p = err_from_is_err_and c.from_residual.result c.from_residual.ensures.1 in
    rw p.1 (λ ledger. stopped_first
    (sample_on (g.S.Shelf.held c.args.shelf.now) ledger c.args.number)
    (stores (g.S.Shelf.held c.args.shelf.now) ledger) p.0)

pub returns-in-Ok-clause-acts : goal.returns-in-Ok-clause-acts
returns-in-Ok-clause-acts g c = λ ledger.
    sample_acts c.args.number c.in_ok-sample.sample (Ok c.in-Ok.job.auction)
    (g.S.Shelf.held c.args.shelf.now) (g.S.Shelf.held c.hold-said.new.shelf) ledger
    c.hold-said.result
    c.in_ok-sample.ensures.case c.in-Ok.ensures.made (c.hold-said.ensures.acts ledger)

pub returns-clause-acts : goal.returns-clause-acts
returns-clause-acts g c = λ ledger.
    let held = g.S.Shelf.held c.args.shelf.now in
    let sample = c.in_ok-sample.sample in
    sample_acts c.args.number sample (auction_of sample) held held ledger
    (Ok c.in_ok-said-in-Err.said) c.in_ok-sample.ensures.case refl
    (dry_acts (dry_of c.in-Err.dry) (auction_of sample) held ledger
    (λ auction. modelled_effect held ledger (files_of sample auction)
    (summary_said c.args.number (head_of auction))) c.in_ok-said-in-Err.said c.in-Err.ensures.made
    (if_some_map _ _ (λ dry. same_said c.in_ok-said-in-Err.said (dry_said dry))
    (dry_of c.in-Err.dry) c.in_ok-said-in-Err.ensures.said) c.in_ok-said-in-Err.ensures.dry)

pub returns-in_err-said-in-Err-clause-acts : goal.returns-in_err-said-in-Err-clause-acts
returns-in_err-said-in-Err-clause-acts g c =
    let p = err_from_is_err_and c.from_residual-in_err-said-in-Err.result
    c.from_residual-in_err-said-in-Err.ensures.1 in
    rw p.1 (λ ledger. stopped_first
    (sample_on (g.S.Shelf.held c.args.shelf.now) ledger c.args.number)
    (stores (g.S.Shelf.held c.args.shelf.now) ledger) p.0)
