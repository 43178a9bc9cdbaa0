use Rattle.std.proofs.Common.{◌≡◌, true, List, sym, subst}
use Rattle.vk_files.specs.declared.named_ids.NamedId.{NamedId}
use Rattle.vk_files.specs.Identity.{is_named}
use Rattle.vk_files.proofs.Names.{named_last}
use Rattle.vk_files.proofs.named_ids.note.Goals as goal

pub returns : goal.returns
returns c =
    let P : List NamedId → Type 0 = λ opened. is_named opened c.args.id c.args.name.now ≡ true in
    subst P (sym c.in_ok-push.ensures.items)
    (named_last c.args.opened.now.items (record { id = c.args.id; name = c.in_ok-name.name })
    c.args.name.now c.in_ok-name.ensures.ok)
