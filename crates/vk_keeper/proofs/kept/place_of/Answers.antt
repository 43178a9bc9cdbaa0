use Rattle.std.proofs.Common.{◌≢◌, get_or, Some, true, false, sym, ap, ◌∙◌, arith, below_more}
use Rattle.std.proofs.lemmas.Bool.{true≢false}
use Rattle.std.proofs.lemmas.Slice.Eq.{bytes_eq-Decides}
use Rattle.std.proofs.lemmas.List.{get_or_read}
use Rattle.vk_io.proofs.Places.{get-next, get-end}
use Rattle.vk_keeper.specs.Kept.{entry_of, ledger_in}
use Rattle.vk_keeper.proofs.kept.place_of.Goals as goal

pub returns-then-eq-clause-found : goal.returns-then-eq-clause-found
unfolding ledger_in
returns-then-eq-clause-found c = λ d.
    c.loop-i.invariant.rest
    ∙ get-next entry_of c.args.auctions.now c.loop-i.i c.index-auctions-i.result c.args.id.now true
    (omega arith) c.index-auctions-i.is (sym c.if-eq.true ∙ c.eq.ensures)
    ∙ ap Some (get_or_read c.args.auctions.now c.loop-i.i _ (omega arith) c.index-auctions-i.is d)

pub loop-i-preserved : goal.loop-i-preserved
unfolding ledger_in
loop-i-preserved c = record {
  rest = c.loop-i.invariant.rest
      ∙ get-next entry_of c.args.auctions.now c.loop-i.i c.index-auctions-i.result c.args.id.now
      false (omega arith) c.index-auctions-i.is (sym c.if-eq.false ∙ c.eq.ensures);
  before = λ k d h. below_more (λ j. (get_or c.args.auctions.now j d).id ≢ c.args.id.now) c.loop-i.i
      (λ j l. c.loop-i.invariant.before j d l)
      (λ same. true≢false (sym ((bytes_eq-Decides c.args.id.now c.index-auctions-i.result.id).1
      (sym same ∙ ap (λ a. a.id)
      (sym (get_or_read c.args.auctions.now c.loop-i.i _ (omega arith) c.index-auctions-i.is
      d))))
      ∙ sym c.eq.ensures ∙ c.if-eq.false)) k h;
}

pub returns-clause-absent : goal.returns-clause-absent
unfolding ledger_in
returns-clause-absent c = c.loop-i.invariant.rest ∙ get-end entry_of _ _ _ c.loop-i-test.false
