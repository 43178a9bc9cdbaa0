use Rattle.std.proofs.Common.{◌∙◌, ℕ, ap, Ok, Err, refl}
use Rattle.std.proofs.lemmas.Result.{err_from_is_err_and}
use Rattle.vk_ceremony.proofs.Leading.{causes_since, keeps_further, keeps_told, leads_itself, leads_on}
use Rattle.vk_ceremony.proofs.Leaving.{leaves_itself, leaves_on}
use Rattle.vk_ceremony.proofs.holding.hold.Goals as goal

pub lines-init : goal.lines-init
lines-init g c = record {
  modelled = leads_itself _ _;
  files = leaves_itself _ _ _ _;
  named = c.requires;
  once = keeps_told _;
  shelf = refl;
  keeper = refl;
  out = refl;
}

pub lines-preserved : goal.lines-preserved
lines-preserved g c = record {
  modelled = leads_on _ _ _ _ _ _ _ _ _ c.in-Next.is c.lines.invariant.modelled
      c.in_ok-now.ensures.turn.turns;
  files = leaves_on _ _ c.lines.lines _ _ _ _ _ _ _ c.in-Next.is c.lines.invariant.files
      c.in_ok-now.ensures.turn.files;
  named = c.in_ok-now.ensures.file.name ∙ c.lines.invariant.named;
  once = keeps_further _ _ _ c.lines.invariant.once c.in_ok-now.ensures.once;
  shelf = c.in_ok-now.ensures.causes.0 ∙ c.lines.invariant.shelf;
  keeper = c.in_ok-now.ensures.causes.1 ∙ c.lines.invariant.keeper;
  out = c.in_ok-now.ensures.causes.2 ∙ c.lines.invariant.out;
}

pub next-requires : goal.next-requires
next-requires g c = c.lines.invariant.named

pub returns-in_err-now-clause-causes : goal.returns-in_err-now-clause-causes
returns-in_err-now-clause-causes g c =
    let p = err_from_is_err_and c.from_residual.result c.from_residual.ensures.1 in
    rw (p.1 ∙ ap Err p.2) (causes_since {T = ℕ} (Err c.in_err-now.field-0.0) _ _ _ _ _ _ _ _ _
    c.lines.invariant.shelf c.lines.invariant.keeper c.lines.invariant.out
    c.in_err-now.ensures.causes)

pub returns-in-Ended-clause-causes : goal.returns-in-Ended-clause-causes
returns-in-Ended-clause-causes g c =
    causes_since (Ok c.in-Ended.status) _ _ _ _ _ _ _ _ _ c.lines.invariant.shelf
    c.lines.invariant.keeper c.lines.invariant.out c.in_ok-now.ensures.causes
