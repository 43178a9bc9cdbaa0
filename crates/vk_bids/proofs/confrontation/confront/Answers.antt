use Rattle.std.proofs.Common.{◌≡◌, ◌∙◌, ap, IfSome, Ok}
use Rattle.std.specs.FinMap.{get}
use Rattle.std.proofs.lemmas.Option.{IfSome_then}
use Rattle.vk_lines.specs.Lines.{rest_of}
use Rattle.vk_judge.specs.Opened.{coming_of}
use Rattle.vk_bids.specs.Confrontation.{confrontation_on, secret_begun}
use Rattle.vk_bids.specs.Extraction.{board_extraction, extraction_named}
use Rattle.vk_bids.proofs.ConfrontedFiles.{confronted, refused_first, refused_second}
use Rattle.vk_bids.proofs.Leading.{both_held}
use Rattle.vk_bids.proofs.confrontation.confront.Goals as goal

pub returns-in_err-checker-clause-modelled : goal.returns-in_err-checker-clause-modelled
unfolding confrontation_on
returns-in_err-checker-clause-modelled g c =
    let names = c.args.names.now in
    IfSome_then (g.S.Shelf.held c.args.shelf.now) c.in_err-checker.ensures.modelled
    (λ files gives. refused_first (extraction_named files names.replies)
    (secret_begun (get files names.secret.now))
    (λ checker. board_extraction (coming_of checker files)) c.in_err-checker.field-0.0
    c.from_residual.result c.from_residual.ensures.1 gives)

pub returns-in_err-lines-clause-modelled : goal.returns-in_err-lines-clause-modelled
unfolding confrontation_on
returns-in_err-lines-clause-modelled g c =
    let names = c.args.names.now in
    both_held (g.S.Shelf.held c.args.shelf.now) (g.S.Shelf.held c.begin.new.shelf)
    c.in_ok-checker.ensures.shelf.held
    (λ files given begun. refused_second (extraction_named files names.replies)
    (secret_begun (get files names.secret.now)) (λ lines. rest_of lines files)
    (board_extraction (coming_of c.in_ok-checker.checker files)) c.in_err-lines.field-0.0
    c.from_residual-in_err-lines.result c.from_residual-in_err-lines.ensures.1 given begun)
    c.in_ok-checker.ensures.modelled c.in_err-lines.ensures.modelled

pub returns-clause-modelled : goal.returns-clause-modelled
unfolding confrontation_on
returns-clause-modelled g c =
    let names = c.args.names.now in
    let held = g.S.Shelf.held c.args.shelf.now in
    let lines = c.in_ok-lines.lines in
    let extraction = c.in_ok-extraction.extraction in
    let on_secret = c.in_ok-lines.ensures.shelf.held ∙ c.in_ok-checker.ensures.shelf.held in
    let given : IfSome held (λ files. extraction_named files names.replies ≡ Ok extraction) =
    both_held held (g.S.Shelf.held c.begin_secret.new.shelf) on_secret
    (λ files given is. given ∙ ap (λ e. Ok e) is) c.in_ok-checker.ensures.modelled
    c.in_ok-extraction.ensures.modelled in
    let both : IfSome held (λ files. (extraction_named files names.replies ≡ Ok extraction)
    × (secret_begun (get files names.secret.now) ≡ Ok (rest_of lines files))) =
    both_held held (g.S.Shelf.held c.begin.new.shelf) c.in_ok-checker.ensures.shelf.held
    (λ files is begun. (is, begun)) given c.in_ok-lines.ensures.modelled in
    both_held held (g.S.Shelf.held c.extract_rest.new.shelf)
    (c.in_ok-extraction.ensures.shelf.held ∙ on_secret)
    (λ files are reads. confronted (extraction_named files names.replies)
    (secret_begun (get files names.secret.now)) extraction (rest_of lines files)
    c.in_ok-secret.secret c.compare_secret-confrontation.result are.0 are.1 reads
    c.compare_secret-confrontation.ensures)
    both c.in_ok-secret.ensures.modelled
