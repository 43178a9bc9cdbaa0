use Rattle.std.proofs.Common.{ap, string_bytes, ◌∙◌}
use Rattle.std.specs.List.{flat_map}
use Rattle.std.proofs.lemmas.Result.{err_from_is_err_and}
use Rattle.vk_board.specs.declared.board.Head.{Head}
use Rattle.vk_job.specs.Published.{head_of}
use Rattle.vk_effect.specs.Effects.{stores}
use Rattle.vk_sample_parts.proofs.Acting.{holding_acts, stopped_first, writing_stopped}
use Rattle.vk_sample.proofs.Acting.{reads_back}
use Rattle.vk_sample.proofs.Auctions.{auction_is}
use Rattle.vk_sample.proofs.Opened.{opens_all}
use Rattle.vk_sample.specs.Texts.{files_of, made_text, read_said, sample_read, summary_said}
use Rattle.vk_sample.proofs.sampling.hold.Goals as goal

pub returns-in_err-write_sample-clause-acts : goal.returns-in_err-write_sample-clause-acts
returns-in_err-write_sample-clause-acts g c =
    let p = err_from_is_err_and c.from_residual-in_err-write_sample.result
    c.from_residual-in_err-write_sample.ensures.1 in
    rw p.1
    (λ ledger. writing_stopped (files_of c.args.sample.now c.args.job.now.auction)
    (summary_said c.args.number (head_of c.args.job.now.auction)) ledger
    (g.S.Shelf.held c.args.shelf.now) (g.S.Shelf.held c.write_sample.new.shelf) p.0
    c.in_err-write_sample.ensures.written)

pub returns-clause-acts : goal.returns-clause-acts
returns-clause-acts g c = λ ledger.
    let auction = c.args.job.now.auction in
    let made = flat_map string_bytes c.in_ok-made.made.items in
    let is = auction_is c.args.sample.now c.requires.right auction c.requires.made in
    holding_acts (files_of c.args.sample.now auction)
    (summary_said c.args.number (head_of auction)) ledger
    (λ files. read_said made (sample_read files))
    (reads_back c.args.sample.now auction is
    (opens_all c.args.sample.now c.requires.right auction is) c.args.number made
    (c.in_ok-made.ensures.made ∙ ap (made_text c.args.number) c.head.ensures.value))
    (g.S.Shelf.held c.args.shelf.now) (g.S.Shelf.held c.write_sample.new.shelf)
    (g.S.Shelf.held c.read_back-said.new.shelf) c.read_back-said.result
    c.in_ok-write_sample.ensures.written c.read_back-said.ensures.shelf.held
    c.read_back-said.ensures.said

-- the sample's board is one of version 1
pub made_lines-requires-clause-first : goal.made_lines-requires-clause-first
unfolding head_of
made_lines-requires-clause-first g c =
    ap (λ (head : Head). head.version) c.head.ensures.value
    ∙ (auction_is c.args.sample.now c.requires.right c.args.job.now.auction
    c.requires.made).version_is

pub write_sample-requires-clause-first : goal.write_sample-requires-clause-first
write_sample-requires-clause-first g c =
    (auction_is c.args.sample.now c.requires.right c.args.job.now.auction
    c.requires.made).first.one_bit_each

pub write_sample-requires-clause-second : goal.write_sample-requires-clause-second
write_sample-requires-clause-second g c =
    (auction_is c.args.sample.now c.requires.right c.args.job.now.auction
    c.requires.made).second.one_bit_each

pub returns-in_err-made-clause-acts : goal.returns-in_err-made-clause-acts
returns-in_err-made-clause-acts g c =
    let p = err_from_is_err_and c.from_residual.result c.from_residual.ensures.1 in
    rw p.1 (λ ledger. stopped_first _ (stores (g.S.Shelf.held c.args.shelf.now) ledger) p.0)
