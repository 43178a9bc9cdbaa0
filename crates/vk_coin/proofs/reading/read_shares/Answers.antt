use Rattle.std.proofs.Common.{ℕ, length, ◌+◌, ◌-◌, [], arith, rules, refl, sym, ap, subst, ◌∙◌}
use Rattle.vk_lines.specs.Lines.{rest_of}
use Rattle.vk_lines.proofs.Each.{each_push, one_longer}
use Rattle.vk_lines.proofs.Loops.{many_done, numbered_begin, numbered_stop, numbered_turn}
use Rattle.vk_coin.specs.Coins.{IsShareOf}
use Rattle.vk_coin.specs.Reading.{shares_at, shown_at}
use Rattle.vk_coin.proofs.reading.read_shares.Goals as goal

pub loop-index-init : goal.loop-index-init
loop-index-init g c = record {
  modelled = numbered_begin (g.S.Shelf.held c.args.shelf.now)
      (λ n. shown_at c.args.auction.now c.args.bits (n + 1)) c.new-shares.result _ _
      (λ files. rest_of c.args.lines.now files) c.new-shares.ensures (omega arith);
  count = ap length c.new-shares.ensures;
  right = rw c.new-shares.ensures tt;
  shelf = record { held = refl; causes = refl };
  file = record { name = refl; size = refl };
}

pub returns-in_err-share-clause-reads : goal.returns-in_err-share-clause-reads
returns-in_err-share-clause-reads g c =
    let l = c.loop-index in
    record {
      modelled = numbered_stop (g.S.Shelf.held c.args.shelf.now) (g.S.Shelf.held l.shelf)
          (λ n. shown_at c.args.auction.now c.args.bits (n + 1))
          (λ files. shares_at c.args.auction.now c.args.bits c.args.auditors
          (rest_of c.args.lines.now files))
          l.shares c.in_err-share.field-0.0 _ c.len.result (c.args.auditors - l.index)
          (λ files. rest_of l.lines files) (λ files. rest_of c.read_shown.new.lines files)
          l.invariant.shelf.held (sym c.len.ensures) (omega arith) (search rules)
          l.invariant.modelled c.in_err-share.ensures.reads.modelled;
      file = search rules;
      shelf = search rules;
    }

pub loop-index-preserved : goal.loop-index-preserved
loop-index-preserved g c =
    let l = c.loop-index in
    let P : ℕ → Type 0 = λ n. IsShareOf c.args.auction.now c.args.bits (n + 1) c.in_ok-share.share
    in
    record {
      modelled = numbered_turn (g.S.Shelf.held c.args.shelf.now) (g.S.Shelf.held l.shelf)
          (λ n. shown_at c.args.auction.now c.args.bits (n + 1))
          (λ files. shares_at c.args.auction.now c.args.bits c.args.auditors
          (rest_of c.args.lines.now files))
          l.shares _ c.in_ok-share.share c.len.result (c.args.auditors - l.index)
          (c.args.auditors - (l.index + 1)) (λ files. rest_of l.lines files)
          (λ files. rest_of c.read_shown.new.lines files)
          l.invariant.shelf.held (sym c.len.ensures) (omega arith) c.in_ok-push.ensures.pushed
          l.invariant.modelled c.in_ok-share.ensures.reads.modelled;
      count = one_longer l.shares _ c.in_ok-share.share l.index l.invariant.count
          c.in_ok-push.ensures.pushed;
      right = rw c.in_ok-push.ensures.pushed
          (each_push (λ before. IsShareOf c.args.auction.now c.args.bits (length before + 1)) []
          l.shares c.in_ok-share.share l.invariant.right
          (subst P c.len.ensures c.in_ok-share.ensures.reads.right));
      shelf = record {
        held = c.in_ok-share.ensures.reads.shelf.held ∙ l.invariant.shelf.held;
        causes = c.in_ok-share.ensures.reads.shelf.causes ∙ l.invariant.shelf.causes;
      };
      file = search rules;
    }

pub returns-clause-reads : goal.returns-clause-reads
returns-clause-reads g c =
    let l = c.loop-index in
    record {
      modelled = many_done (g.S.Shelf.held c.args.shelf.now)
          (λ before. shown_at c.args.auction.now c.args.bits (length before + 1))
          (λ files. shares_at c.args.auction.now c.args.bits c.args.auditors
          (rest_of c.args.lines.now files))
          l.shares (c.args.auditors - l.index) (λ files. rest_of l.lines files) (omega arith)
          l.invariant.modelled;
      file = search rules;
      shelf = search rules;
    }
