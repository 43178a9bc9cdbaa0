use Rattle.std.proofs.Common.{subst, ap, ◌∙◌}
use Rattle.vk_io.specs.Files.{Modelled}
use Rattle.vk_io.specs.Writing.{WritesAll}
use Rattle.vk_board.specs.Texts.{head_text}
use Rattle.vk_sample.proofs.Pieces.{texts_from}
use Rattle.vk_sample.proofs.files.write_sample.Goals as goal

pub returns-clause-written : goal.returns-clause-written
returns-clause-written g c =
    subst (λ texts. Modelled (WritesAll texts c.write_files-written.result)
    (g.S.Shelf.held c.args.shelf.now) (g.S.Shelf.held c.write_files-written.new.shelf))
    (texts_from _ _ _ c.args.sample.now c.args.job.now.auction c.sample_names.ensures
    (c.as_slice.ensures.value ∙ c.in_ok-head.ensures ∙ ap head_text c.head.ensures.value)
    c.proof-proof.ensures)
    c.write_files-written.ensures.written
