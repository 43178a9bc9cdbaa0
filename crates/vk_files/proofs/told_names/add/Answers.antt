use Rattle.std.proofs.Common.{◌≡◌, true, List, String, Global, sym, subst}
use Rattle.vk_files.specs.Identity.{is_told}
use Rattle.vk_files.proofs.Names.{told_last}
use Rattle.vk_files.proofs.told_names.add.Goals as goal

pub returns : goal.returns
returns c =
    let P : List (String Global) → Type 0 = λ told. is_told told c.args.name.now ≡ true in
    subst P (sym c.in_ok-push.ensures.items)
    (told_last c.args.told.now.items c.in_ok-name.name c.args.name.now c.in_ok-name.ensures.ok)
