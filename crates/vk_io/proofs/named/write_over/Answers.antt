use Rattle.std.proofs.Common.{sym, ap, ◌∙◌}
use Rattle.std.specs.FinMap.{get}
use Rattle.vk_io.specs.Named.{entry_of, files_in}
use Rattle.vk_io.proofs.Places.{push_at}
use Rattle.vk_io.proofs.named.write_over.Goals as goal

pub returns-in_ok-push-in-None-clause-written : goal.returns-in_ok-push-in-None-clause-written
unfolding files_in
returns-in_ok-push-in-None-clause-written c =
    let absent = ap (λ fs. get (files_in fs) c.args.name.now) (sym c.deref.ensures.value)
    ∙ c.in-None.ensures.absent in
    ap files_in c.in_ok-push-in-None.ensures.items
    ∙ push_at entry_of c.args.files.now.items _ c.args.name.now absent
    c.in_ok-name-in-None.ensures.ok
