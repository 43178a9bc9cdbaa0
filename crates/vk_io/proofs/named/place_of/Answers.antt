use Rattle.std.proofs.Common.{◌≡◌, ◌≢◌, [], get_or, true, false, sym, ap, ◌∙◌, arith, below_more}
use Rattle.std.specs.Option.{unwrap_or}
use Rattle.std.specs.Str.{bytes_eq}
use Rattle.std.specs.String.{string_bytes}
use Rattle.std.proofs.lemmas.Bool.{true≢false}
use Rattle.std.proofs.lemmas.Slice.Eq.{bytes_eq-Decides}
use Rattle.std.proofs.lemmas.List.{get_or_read}
use Rattle.vk_io.specs.declared.named.NamedFile.{NamedFile}
use Rattle.vk_io.specs.Named.{entry_of, files_in}
use Rattle.vk_io.proofs.Places.{get-next, get-end, put_at}
use Rattle.vk_io.proofs.named.place_of.Goals as goal
use Rattle.vk_io.proofs.named.place_of.Goals.{Then-eq}

own_name : (c : Then-eq) (d : NamedFile)
    → string_bytes (get_or c.args.files.now c.loop-i.i d).name ≡ c.args.name.now
own_name c d =
    ap (λ f. string_bytes f.name)
    (sym (get_or_read c.args.files.now c.loop-i.i _ (omega arith) c.index-files-i.is d))
    ∙ sym c.as_str.ensures.value
    ∙ sym ((bytes_eq-Decides c.args.name.now c.as_str.result.now).0
    (sym c.eq.ensures ∙ c.if-eq.true))

pub returns-then-eq-clause-found : goal.returns-then-eq-clause-found
unfolding files_in
returns-then-eq-clause-found c = λ file same.
    put_at entry_of c.args.files.now c.loop-i.i file c.args.name.now (omega arith)
    c.loop-i.invariant.others (own_name (goal.at.returns-then-eq-clause-found c).Then-eq) same

pub returns-then-eq-clause-held : goal.returns-then-eq-clause-held
unfolding files_in
returns-then-eq-clause-held c = λ d.
    ap (λ o. unwrap_or o []) (c.loop-i.invariant.rest
    ∙ get-next entry_of c.args.files.now c.loop-i.i c.index-files-i.result c.args.name.now true
    (omega arith) c.index-files-i.is (sym c.if-eq.true ∙ c.eq.ensures
    ∙ ap (bytes_eq c.args.name.now) c.as_str.ensures.value))
    ∙ ap (λ f. f.bytes.items) (get_or_read c.args.files.now c.loop-i.i _ (omega arith)
    c.index-files-i.is d)

pub loop-i-preserved : goal.loop-i-preserved
unfolding files_in
loop-i-preserved c = record {
  rest = c.loop-i.invariant.rest
      ∙ get-next entry_of c.args.files.now c.loop-i.i c.index-files-i.result c.args.name.now false
      (omega arith) c.index-files-i.is
      (sym c.if-eq.false ∙ c.eq.ensures ∙ ap (bytes_eq c.args.name.now) c.as_str.ensures.value);
  others = λ k d h. below_more
      (λ j. string_bytes (get_or c.args.files.now j d).name ≢ c.args.name.now) c.loop-i.i
      (λ j l. c.loop-i.invariant.others j d l)
      (λ same. true≢false (sym ((bytes_eq-Decides c.args.name.now c.as_str.result.now).1
      (sym same ∙ ap (λ f. string_bytes f.name)
      (sym (get_or_read c.args.files.now c.loop-i.i _ (omega arith) c.index-files-i.is d))
      ∙ sym c.as_str.ensures.value))
      ∙ sym c.eq.ensures ∙ c.if-eq.false)) k h;
}

pub returns-clause-absent : goal.returns-clause-absent
unfolding files_in
returns-clause-absent c = c.loop-i.invariant.rest ∙ get-end entry_of _ _ _ c.loop-i-test.false
