use Rattle.std.proofs.Common.{Some, sym, ap, ◌∙◌, arith}
use Rattle.std.specs.Str.{bytes_eq}
use Rattle.vk_io.specs.Named.{entry_of, files_in}
use Rattle.vk_io.proofs.Places.{get-next, get-end}
use Rattle.vk_io.proofs.named.bytes_at.Goals as goal

pub returns-then-eq-clause-found : goal.returns-then-eq-clause-found
unfolding files_in
returns-then-eq-clause-found c =
    c.loop-file.invariant
    ∙ get-next entry_of c.args.files.now c.loop-file.file-index c.file-item.result c.args.name.now _
    (omega arith) c.file-item.is
    (sym c.if-eq.true ∙ c.eq.ensures ∙ ap (bytes_eq c.args.name.now) c.as_str.ensures.value)
    ∙ ap Some (sym c.as_slice.ensures.value)

pub loop-file-preserved : goal.loop-file-preserved
unfolding files_in
loop-file-preserved c =
    c.loop-file.invariant
    ∙ get-next entry_of c.args.files.now c.loop-file.file-index c.file-item.result c.args.name.now _
    (omega arith) c.file-item.is
    (sym c.if-eq.false ∙ c.eq.ensures ∙ ap (bytes_eq c.args.name.now) c.as_str.ensures.value)

pub returns-clause-absent : goal.returns-clause-absent
unfolding files_in
returns-clause-absent c = c.loop-file.invariant ∙ get-end entry_of _ _ _ c.loop-file-test.false
