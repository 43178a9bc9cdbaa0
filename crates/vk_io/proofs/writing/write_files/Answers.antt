use Rattle.std.proofs.Common.{◌≡◌, ℕ, [], ◌∷◌, ◌<◌, ◌+◌, List, length, get_or, drop, Ok, Err, refl, sym, ap, ◌∙◌, subst, arith}
use Rattle.std.proofs.lemmas.Result.{err_from_is_err_and}
use Rattle.std.proofs.lemmas.List.{at_drop_all, drop_more}
use Rattle.vk_io.specs.declared.errors.OutsideErr.{OutsideErr}
use Rattle.vk_io.specs.Files.{Modelled}
use Rattle.vk_io.specs.Writing.{WrittenFile, Writes, WritesAll, no_file, text_of, texts_of}
use Rattle.vk_io.proofs.WritingLemmas.{told_chain, told_weaker, told_same, all_from_rest, all_from_refused}
use Rattle.vk_io.proofs.writing.write_files.Goals as goal

-- the texts from a place on are that file's and the rest
texts_next : (files : List WrittenFile) (i : ℕ) → i < length files
    → texts_of (drop i files) ≡ ((get_or files i no_file).name, text_of (get_or files i no_file))
    ∷ texts_of (drop (i + 1) files)
texts_next files i within = ap texts_of (drop_more files i no_file within)

pub returns-in_err-write_file-clause-written : goal.returns-in_err-write_file-clause-written
returns-in_err-write_file-clause-written g c =
    let p = err_from_is_err_and c.from_residual.result c.from_residual.ensures.1 in
    let files = g.F.WrittenFiles.files c.args.files.now in
    let i = c.loop-file.file in
    let file : WrittenFile = get_or files i no_file in
    let now = g.S.Shelf.held c.loop-file.shelf in
    let new = g.S.Shelf.held c.write_file.new.shelf in
    subst (λ r. Modelled (WritesAll (texts_of files) r) (g.S.Shelf.held c.args.shelf.now) new)
    (sym p.1)
    (c.loop-file.invariant.modelled (Err p.0) new
    (subst (λ texts. Modelled (WritesAll {E = OutsideErr} texts (Err p.0)) now new)
    (sym (texts_next files i (omega arith)))
    (told_weaker (Writes {E = OutsideErr} file.name (text_of file) (Err p.0))
    (WritesAll {E = OutsideErr} ((file.name, text_of file) ∷ texts_of (drop (i + 1) files))
    (Err p.0))
    (all_from_refused file.name (text_of file) (texts_of (drop (i + 1) files)) p.0) now new
    c.in_err-write_file.ensures.written)))

pub loop-file-preserved : goal.loop-file-preserved
loop-file-preserved g c =
    let files = g.F.WrittenFiles.files c.args.files.now in
    let i = c.loop-file.file in
    let file : WrittenFile = get_or files i no_file in
    let now = g.S.Shelf.held c.loop-file.shelf in
    let first = g.S.Shelf.held c.write_file.new.shelf in
    record {
      modelled = λ answer new rest.
          c.loop-file.invariant.modelled answer new
          (subst (λ texts. Modelled (WritesAll {E = OutsideErr} texts answer) now new)
          (sym (texts_next files i (omega arith)))
          (told_chain (Writes {E = OutsideErr} file.name (text_of file) (Ok tt))
          (WritesAll {E = OutsideErr} (texts_of (drop (i + 1) files)) answer)
          (WritesAll {E = OutsideErr}
          ((file.name, text_of file) ∷ texts_of (drop (i + 1) files)) answer)
          (all_from_rest file.name (text_of file) (texts_of (drop (i + 1) files)) answer tt) now
          first new c.in_ok-write_file.ensures.written rest));
      kept = c.in_ok-write_file.ensures.causes ∙ c.loop-file.invariant.kept;
      wants = c.in_ok-write_file.ensures.wants ∙ c.loop-file.invariant.wants;
    }

pub returns-clause-written : goal.returns-clause-written
returns-clause-written g c =
    let h = g.S.Shelf.held c.loop-file.shelf in
    let files = g.F.WrittenFiles.files c.args.files.now in
    c.loop-file.invariant.modelled (Ok tt) h
    (subst (λ texts. Modelled (WritesAll {E = OutsideErr} texts (Ok tt)) h h)
    (sym (at_drop_all texts_of files c.loop-file.file (omega arith)))
    (told_same (WritesAll {E = OutsideErr} [] (Ok tt)) (λ _. refl) h))
