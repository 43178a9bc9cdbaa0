use Rattle.std.proofs.Common.{◌++◌, [], sym, ap, ◌∙◌}
use Rattle.std.specs.Option.{unwrap_or}
use Rattle.std.specs.FinMap.{insert, get}
use Rattle.vk_io.specs.Named.{entry_of, files_in}
use Rattle.vk_io.proofs.Places.{push_at}
use Rattle.vk_io.proofs.named.append_to.Goals as goal

pub returns-in_ok-push-in-None-clause-appended : goal.returns-in_ok-push-in-None-clause-appended
unfolding files_in
returns-in_ok-push-in-None-clause-appended c =
    let files = c.args.files.now.items in
    let name = c.args.name.now in
    let absent = ap (λ fs. get (files_in fs) name) (sym c.deref.ensures.value)
    ∙ c.in-None.ensures.absent in
    ap files_in c.in_ok-push-in-None.ensures.items
    ∙ push_at entry_of files _ name absent c.in_ok-name-in-None.ensures.ok
    ∙ ap (insert (files_in files) name)
    (c.in_ok-bytes-in-None.ensures.items
    ∙ ap (λ o. unwrap_or o [] ++ c.args.piece.now) (sym absent))
